use mathlib.Core.Path.{sym, ◌∙◌, subst}
use Rattle.name_table.proofs.fill.Goals.{then-table-head-eq0, else-table-head-eq0}
use native.Mathlib.Omega.{arith}
use Rattle.name_table.specs.Entries.{Filled}
use Rattle.name_table.proofs.PlainLaws.{plain-short, filled_none, filled-kept, filled_more, filled-all}
use Rattle.name_table.proofs.fill.Goals as goal

pub loop-x-init : goal.loop-x-init
loop-x-init c = filled_none _ _ _ c.requires.0

pub overflow_add-slot : goal.overflow_add-slot
overflow_add-slot c = omega (arith, c.requires.1)

pub overflow_mul-head : goal.overflow_mul-head
overflow_mul-head c = omega (arith, c.requires.1)

pub bounds-table-head : goal.bounds-table-head
bounds-table-head c = omega (arith, c.requires.1, c.loop-x.invariant.slots.room)

pub put_plain-requires : goal.put_plain-requires
put_plain-requires c =
    let a = c in
    let p = a.requires in
    let r = a.loop-x.invariant.slots.room in
    (omega (arith, p.1), p.3, omega (arith, p.2))

pub returns : goal.returns
returns c = filled-all (omega arith) c.loop-x.invariant

pub loop-x-preserved : goal.loop-x-preserved
loop-x-preserved c =
    let p = c.requires in
    let s = plain-short c.args.start.now c.loop-x.x p.3 (omega (arith, p.2)) in
    let f = c.loop-x.invariant in
    elim c.if-table-head-eq0.branch [
      | then-table-head-eq0 w ↦ filled_more f (omega (arith, p.1)) w.if-table-head-eq0.true (omega (arith, s)) (w.table-is ∙ w.put_plain.ensures)
      | else-table-head-eq0 w ↦ subst (Filled _ _ _ _) (sym w.table-is) (filled-kept f (omega (arith, p.1)) w.if-table-head-eq0.false)
    ]
