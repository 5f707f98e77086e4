use native.Mathlib.Omega.{arith}
use Rattle.ends.proofs.TreePlaces.{fits}
use Rattle.ends.proofs.NameCells.{named-lt}
use Rattle.ends.proofs.FirstSteps.{edit_tree, as_step}
use Rattle.measure.proofs.Stepping.{step-cell, step-idle, step_kept}
use Rattle.measure.proofs.keep.keep_step.Goals as goal

pub bounds-text-at : goal.bounds-text-at
bounds-text-at c = omega (arith, (as_step _ _ c.requires.0.what c.requires.0.stands c.requires.1 c.requires.2).room)

pub overflow_add-at : goal.overflow_add-at
overflow_add-at c = omega (arith, (as_step _ _ c.requires.0.what c.requires.0.stands c.requires.1 c.requires.2).room, c.requires.4)

pub bounds-text-at-2 : goal.bounds-text-at-2
bounds-text-at-2 c = omega (arith, (as_step _ _ c.requires.0.what c.requires.0.stands c.requires.1 c.requires.2).room)

pub offset_bounds-state-i : goal.offset_bounds-state-i
offset_bounds-state-i c = let q = (as_step _ _ c.requires.0.what c.requires.0.stands c.requires.1 c.requires.2) in omega (arith, step-cell _ _ _ q _ _ c.name_code.ensures c.cell_of-i.ensures, named-lt _ _ q.named)

pub bounds-state-i : goal.bounds-state-i
bounds-state-i c = let q = (as_step _ _ c.requires.0.what c.requires.0.stands c.requires.1 c.requires.2) in omega (arith, step-cell _ _ _ q _ _ c.name_code.ensures c.cell_of-i.ensures, named-lt _ _ q.named, c.requires.3.long)

pub returns-then-state-i-eq0 : goal.returns-then-state-i-eq0
returns-then-state-i-eq0 c = λ Z h rules.
    let q = as_step _ _ Z h c.requires.1 c.requires.2 in
    step-idle _ _ Z q _ _ _ _ (step-cell _ _ Z q _ _ c.name_code.ensures c.cell_of-i.ensures) c.if-state-i-eq0.true rules

pub overflow_add-at-2 : goal.overflow_add-at-2
overflow_add-at-2 c = omega (arith, (as_step _ _ c.requires.0.what c.requires.0.stands c.requires.1 c.requires.2).room, c.requires.4)

pub past-requires : goal.past-requires
past-requires c = record { what = edit_tree c.requires.0.what; stands = (as_step _ _ c.requires.0.what c.requires.0.stands c.requires.1 c.requires.2).what }

pub put_before-requires : goal.put_before-requires
put_before-requires c = let t = edit_tree c.requires.0.what in let q = (as_step _ _ c.requires.0.what c.requires.0.stands c.requires.1 c.requires.2) in let a = c.past.ensures t q.what in
    (omega (arith, a), omega (arith, a, fits _ _ t q.what, q.room), omega (arith, a, c.requires.0.room, q.long), c.requires.5)

pub returns : goal.returns
returns c = λ Z h rules.
    let q = as_step _ _ Z h c.requires.1 c.requires.2 in
    step_kept _ _ Z q _ _ _ _ _ _ _ (step-cell _ _ Z q _ _ c.name_code.ensures c.cell_of-i.ensures) c.if-state-i-eq0.false
    (c.past.ensures (edit_tree Z) q.what) c.put_before.ensures rules
