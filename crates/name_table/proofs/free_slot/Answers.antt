use mathlib.Core.Path.{◌∙◌}
use native.Mathlib.Omega.{arith}
use Rattle.buffers.proofs.FoundLaws.{found-below}
use Rattle.buffers.proofs.SlotLaws.{fewer-slots}
use Rattle.name_table.proofs.NumberLaws.{item-inside, item_count}
use Rattle.name_table.proofs.PartlyLaws.{slot-none, slot-named, slot-free}
use Rattle.name_table.proofs.free_slot.Goals as goal

pub find-requires : goal.find-requires
find-requires c = fewer-slots c.requires.0 (omega (arith, item_count c.args.item c.requires.1 (omega (arith, c.requires.2))))

pub returns-in_err-x : goal.returns-in_err-x
returns-in_err-x c = λ es p. c.from_residual.ensures ∙ slot-none p c.args.item c.requires.1 c.requires.2 _ c.in_err-x.ensures

pub overflow_add-slot : goal.overflow_add-slot
overflow_add-slot c = omega (arith, item-inside c.args.item c.requires.1 (omega (arith, c.requires.2)), found-below _ _ _ c.in_ok-x.ensures)

pub overflow_mul-head : goal.overflow_mul-head
overflow_mul-head c = omega (arith, item-inside c.args.item c.requires.1 (omega (arith, c.requires.2)), found-below _ _ _ c.in_ok-x.ensures)

pub bounds-table-head : goal.bounds-table-head
bounds-table-head c = omega (arith, item-inside c.args.item c.requires.1 (omega (arith, c.requires.2)), found-below _ _ _ c.in_ok-x.ensures, c.requires.0.room)

pub returns-then-table-head-ne0 : goal.returns-then-table-head-ne0
returns-then-table-head-ne0 c = λ es p. slot-named p c.args.item c.requires.1 c.requires.2 _ c.in_ok-x.ensures c.if-table-head-ne0.true

pub returns : goal.returns
returns c = λ es p. slot-free p c.args.item c.requires.1 c.requires.2 _ c.in_ok-x.ensures c.if-table-head-ne0.false
