use Rattle.std.proofs.Common.{◌≤◌, ◌+◌, ◌-◌, ◌∙◌, refl, arith, get_or}
use native.Mathlib.Nat.{mul-le-mul}
use lib.Dec.{eqb}
use lib.ListN.{length-set}
use Rattle.ends.proofs.NameCells.{named-lt}
use Rattle.ends.proofs.TreePlaces.{fits}
use Rattle.ends.proofs.FirstSteps.{edit_tree, as_step}
use Rattle.measure.proofs.Stepping.{step-cell, step-measured, step_fits, low-level, few}
use Rattle.measure.proofs.back.step_back.Goals as goal

pub bounds-text-at : goal.bounds-text-at
bounds-text-at c = let q = as_step _ _ c.requires.0.what c.requires.0.stands c.requires.3 c.requires.4 in omega (arith, q.room)

pub overflow_add-at : goal.overflow_add-at
overflow_add-at c = let q = as_step _ _ c.requires.0.what c.requires.0.stands c.requires.3 c.requires.4 in omega (arith, q.room, c.requires.2)

pub bounds-text-at-2 : goal.bounds-text-at-2
bounds-text-at-2 c = let q = as_step _ _ c.requires.0.what c.requires.0.stands c.requires.3 c.requires.4 in omega (arith, q.room)

pub offset_bounds-state-i : goal.offset_bounds-state-i
offset_bounds-state-i c = let q = as_step _ _ c.requires.0.what c.requires.0.stands c.requires.3 c.requires.4 in omega (arith, step-cell _ _ _ q _ _ c.name_code.ensures c.cell_of-i.ensures, named-lt _ _ q.named, c.requires.1.long)

pub bounds-state-i : goal.bounds-state-i
bounds-state-i c = let q = as_step _ _ c.requires.0.what c.requires.0.stands c.requires.3 c.requires.4 in omega (arith, step-cell _ _ _ q _ _ c.name_code.ensures c.cell_of-i.ensures, named-lt _ _ q.named, c.requires.1.long)

pub overflow_add-i : goal.overflow_add-i
overflow_add-i c = let q = as_step _ _ c.requires.0.what c.requires.0.stands c.requires.3 c.requires.4 in omega (arith, step-cell _ _ _ q _ _ c.name_code.ensures c.cell_of-i.ensures, named-lt _ _ q.named, c.requires.1.long)

pub offset_bounds-state-i-2 : goal.offset_bounds-state-i-2
offset_bounds-state-i-2 c = let q = as_step _ _ c.requires.0.what c.requires.0.stands c.requires.3 c.requires.4 in omega (arith, step-cell _ _ _ q _ _ c.name_code.ensures c.cell_of-i.ensures, named-lt _ _ q.named, c.requires.1.long)

pub bounds-state-i-2 : goal.bounds-state-i-2
bounds-state-i-2 c = let q = as_step _ _ c.requires.0.what c.requires.0.stands c.requires.3 c.requires.4 in omega (arith, step-cell _ _ _ q _ _ c.name_code.ensures c.cell_of-i.ensures, named-lt _ _ q.named, c.requires.1.long)

pub overflow_add-state : goal.overflow_add-state
overflow_add-state c = let q = as_step _ _ c.requires.0.what c.requires.0.stands c.requires.3 c.requires.4 in omega (arith, step-cell _ _ _ q _ _ c.name_code.ensures c.cell_of-i.ensures, named-lt _ _ q.named, c.requires.1.long)

pub offset_bounds-state-i-3 : goal.offset_bounds-state-i-3
offset_bounds-state-i-3 c = let q = as_step _ _ c.requires.0.what c.requires.0.stands c.requires.3 c.requires.4 in omega (arith, step-cell _ _ _ q _ _ c.name_code.ensures c.cell_of-i.ensures, named-lt _ _ q.named, c.requires.1.long)

pub bounds-state-i-3 : goal.bounds-state-i-3
bounds-state-i-3 c = let q = as_step _ _ c.requires.0.what c.requires.0.stands c.requires.3 c.requires.4 in omega (arith, step-cell _ _ _ q _ _ c.name_code.ensures c.cell_of-i.ensures, named-lt _ _ q.named, c.requires.1.long)

pub overflow_add-at-2 : goal.overflow_add-at-2
overflow_add-at-2 c = let q = as_step _ _ c.requires.0.what c.requires.0.stands c.requires.3 c.requires.4 in omega (arith, q.room, c.requires.2)

pub scan-next-requires : goal.scan-next-requires
scan-next-requires c = let q = as_step _ _ c.requires.0.what c.requires.0.stands c.requires.3 c.requires.4 in
    (record { what = edit_tree c.requires.0.what; stands = q.what }, low-level (eqb (get_or c.args.text.now c.args.at 0) 0x32) _ _ _ c.deeper-d.ensures c.lower.ensures, length-set c.args.state.now (64 + c.cell_of-i.result) c.deeper-d.result ∙ c.requires.1.long)

pub overflow_cast-w : goal.overflow_cast-w
overflow_cast-w c = let q = as_step _ _ c.requires.0.what c.requires.0.stands c.requires.3 c.requires.4 in omega (arith, step_fits _ _ _ q _ _ _ c.requires.1 (step-cell _ _ _ q _ _ c.name_code.ensures c.cell_of-i.ensures) refl)

pub overflow_add-at-3 : goal.overflow_add-at-3
overflow_add-at-3 c = let q = as_step _ _ c.requires.0.what c.requires.0.stands c.requires.3 c.requires.4 in omega (arith, (c.scan-next.ensures (edit_tree c.requires.0.what) q.what).ends, fits _ _ (edit_tree c.requires.0.what) q.what, q.room, c.requires.2)

pub overflow_sub-next : goal.overflow_sub-next
overflow_sub-next c = let q = as_step _ _ c.requires.0.what c.requires.0.stands c.requires.3 c.requires.4 in omega (arith, (c.scan-next.ensures (edit_tree c.requires.0.what) q.what).ends, fits _ _ (edit_tree c.requires.0.what) q.what, q.room, c.requires.2)

pub overflow_add-extra : goal.overflow_add-extra
overflow_add-extra c = let q = as_step _ _ c.requires.0.what c.requires.0.stands c.requires.3 c.requires.4 in omega (arith, (c.scan-next.ensures (edit_tree c.requires.0.what) q.what).ends, fits _ _ (edit_tree c.requires.0.what) q.what, q.room, c.requires.2, few (eqb (get_or c.args.text.now c.args.at 0) 0x32) _ c.extra.ensures)

pub overflow_mul-w : goal.overflow_mul-w
overflow_mul-w c = let q = as_step _ _ c.requires.0.what c.requires.0.stands c.requires.3 c.requires.4 in
    let m : c.extra.result + (c.scan-next.result - (c.args.at + 2)) ≤ 4098 = omega (arith, few (eqb (get_or c.args.text.now c.args.at 0) 0x32) _ c.extra.ensures, (c.scan-next.ensures (edit_tree c.requires.0.what) q.what).ends, fits _ _ (edit_tree c.requires.0.what) q.what, q.room, c.requires.2) in
    omega (arith, mul-le-mul (step_fits _ _ _ q _ _ _ c.requires.1 (step-cell _ _ _ q _ _ c.name_code.ensures c.cell_of-i.ensures) refl) m)

pub lengthen-requires : goal.lengthen-requires
lengthen-requires c = c.scan-next.auto.state ∙ length-set c.args.state.now (64 + c.cell_of-i.result) c.deeper-d.result ∙ c.requires.1.long

pub returns : goal.returns
returns c = λ Z h.
    step-measured _ _ Z (as_step _ _ Z h c.requires.3 c.requires.4) _ _ _ _ _ _ _ _ _ _ _ _ c.requires.1.long (c.scan-next.auto.state ∙ length-set c.args.state.now (64 + c.cell_of-i.result) c.deeper-d.result ∙ c.requires.1.long)
    c.name_code.ensures c.cell_of-i.ensures c.deeper-d.ensures refl refl c.lower.ensures c.scan-next.ensures c.extra.ensures refl c.lengthen.ensures
