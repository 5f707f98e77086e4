use mathlib.Core.Path.{sym, ◌∙◌, ap}
use native.Mathlib.Omega.{arith}
use Rattle.buffers.specs.Slots.{found_option}
use Rattle.buffers.proofs.FoundLaws.{found-below}
use Rattle.buffers.proofs.SlotLaws.{fewer-slots}
use Rattle.name_table.proofs.NumberLaws.{number_at, item-inside, number-none, number-some}
use Rattle.name_table.proofs.number_of.Goals as goal

pub overflow_add-k : goal.overflow_add-k
overflow_add-k c = omega (arith, item-inside c.args.item c.requires.1 c.requires.2)

pub find-requires : goal.find-requires
find-requires c = fewer-slots c.requires.0 (item-inside c.args.item c.requires.1 c.requires.2)

pub returns-in_err-x : goal.returns-in_err-x
returns-in_err-x c = λ name h. c.from_residual.ensures ∙ number-none _ _ c.in_err-x.ensures ∙ sym (ap found_option (number_at _ name h _ c.args.item c.requires.1 c.requires.2))

pub overflow_add-result : goal.overflow_add-result
overflow_add-result c = omega (arith, item-inside c.args.item c.requires.1 c.requires.2, found-below _ _ _ c.in_ok-x.ensures)

pub overflow_cast-result : goal.overflow_cast-result
overflow_cast-result c = omega (arith, item-inside c.args.item c.requires.1 c.requires.2, found-below _ _ _ c.in_ok-x.ensures)

pub returns : goal.returns
returns c = λ name h. number-some _ _ c.in_ok-x.ensures ∙ sym (ap found_option (number_at _ name h _ c.args.item c.requires.1 c.requires.2))
