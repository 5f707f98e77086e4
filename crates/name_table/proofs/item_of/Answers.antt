use mathlib.Core.Path.{sym, ◌∙◌}
use Rattle.names.specs.Token.{ascii}
use Rattle.name_table.proofs.EntryLaws.{item-label, item-arrow, item-node, item-none}
use Rattle.name_table.proofs.item_of.Goals as goal

pub returns-then-same : goal.returns-then-same
unfolding ascii
returns-then-same c = item-label _ (sym c.same.ensures ∙ c.if-same.true)

pub returns-then-same-2 : goal.returns-then-same-2
unfolding ascii
returns-then-same-2 c = item-arrow _ (sym c.same.ensures ∙ c.if-same.false) (sym c.same-2.ensures ∙ c.if-same-2.true)

pub returns-then-same-3 : goal.returns-then-same-3
unfolding ascii
returns-then-same-3 c = item-node _ (sym c.same.ensures ∙ c.if-same.false) (sym c.same-2.ensures ∙ c.if-same-2.false) (sym c.same-3.ensures ∙ c.if-same-3.true)

pub returns : goal.returns
unfolding ascii
returns c = item-none _ (sym c.same.ensures ∙ c.if-same.false) (sym c.same-2.ensures ∙ c.if-same-2.false) (sym c.same-3.ensures ∙ c.if-same-3.false)
