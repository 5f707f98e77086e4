use native.Mathlib.Omega.{arith}
use mathlib.Core.Path.{refl, ◌∙◌}
use mathlib.Core.List.{List}
use Prim.Native.Nat.{ℕ, ◌+◌, ◌-◌}
use lib.ListN.{length-set}
use Rattle.logic.specs.Syntax.{Edit}
use Rattle.ends.specs.Shapes.{Named}
use Rattle.write.specs.Links.{code_at, number_at}
use Rattle.ends.proofs.FirstSteps.{edit-inside, IsStep, as_step}
use Rattle.write.proofs.WorkParts.{part_at, part_length}
use Rattle.write.proofs.Finding.{work-is, linked-more, relinked-none}
use Rattle.write.proofs.Walking.{way-low, step-passed, end-passed, not-choice, not_end}
use Rattle.write.proofs.ways.pass.Goals as goal

named : {edit : List ℕ} {at : ℕ} {Z : Edit} → IsStep edit at Z → Named (code_at edit at) (number_at edit at)
named i = rw (i.reads-op, i.reads-k) i.named

pub bounds-edit-at : goal.bounds-edit-at
bounds-edit-at c = let w = c.requires.0 in edit-inside _ _ w.what w.way.here

pub overflow_sub-top : goal.overflow_sub-top
overflow_sub-top c = omega (arith, not_end _ _ c.requires.1 c.if-edit-at-eq48.true)

pub overflow_cast-work : goal.overflow_cast-work
overflow_cast-work c = let w = c.requires in omega (arith, edit-inside _ _ w.0.what w.0.way.here, w.2.short)

pub returns-then-edit-at-eq48 : goal.returns-then-edit-at-eq48
returns-then-edit-at-eq48 c =
    let t = c.if-edit-at-eq48.true in
    let e = part_at 2796 2048 c.args.work.now (c.args.from.d - 1) _ (omega (arith, way-low c.requires.0 c.requires.2.short)) refl in
    (rw (← e) (end-passed c.requires.0 t (not_end _ _ c.requires.1 t)), relinked-none c.requires.3)

pub bounds-work-h : goal.bounds-work-h
bounds-work-h c = omega (arith, way-low c.requires.0 c.requires.2.short, c.requires.2.long)

-- at a step, not the end
pub link-requires : goal.link-requires
link-requires c =
    let a = c.args in
    let p = c.requires in
    let i = as_step _ _ p.0.what p.0.way.here c.if-edit-at-eq48.false (not-choice _ _ p.1) in
    (omega (arith, i.room), (way-low p.0 p.2.short).0, length-set a.work.now (64 + a.from.h) a.from.at ∙ p.2.long, named i)

pub overflow_add-at : goal.overflow_add-at
overflow_add-at c =
    let p = c.requires in
    omega (arith, (as_step _ _ p.0.what p.0.way.here c.if-edit-at-eq48.false (not-choice _ _ p.1)).room, p.2.short)

pub behind-next-requires : goal.behind-next-requires
behind-next-requires c = let p = c.requires in record { what = _; stands = (as_step _ _ p.0.what p.0.way.here c.if-edit-at-eq48.false (not-choice _ _ p.1)).what }

pub returns : goal.returns
returns c =
    let a = c.args in
    let p = c.requires in
    let l = way-low p.0 p.2.short in
    let i = as_step _ _ p.0.what p.0.way.here c.if-edit-at-eq48.false (not-choice _ _ p.1) in
    let k = c.link.ensures in
    let stack = work-is a.edit.now a.from.at a.from.h a.work.now l.0 p.2.long (named i) k in
    let wide = part_length 64 1366 a.work.now (omega (arith, p.2.long)) in (
      rw stack.stack_is (step-passed p.0 c.if-edit-at-eq48.false (not-choice _ _ p.1) (omega (arith, l.0, wide)) _ c.behind-next.ensures),
      linked-more a.edit.now a.from.at a.from.h a.work.now l.0 p.2.long (named i) k p.3,
    )
