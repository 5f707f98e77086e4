use mathlib.Core.Path.{sym, ◌∙◌}
use Rattle.logic.proofs.Bools.{true-false}
use Rattle.names.specs.Token.{ascii}
use Rattle.name_table.proofs.SpellingLaws.{begins-label, begins-arrow, begins-node}
use Rattle.name_table.proofs.begins_plain.Goals.{then-starts_with, else-starts_with}
use Rattle.name_table.proofs.begins_plain.Goals as goal

pub returns-then-starts_with-2 : goal.returns-then-starts_with-2
unfolding ascii
returns-then-starts_with-2 c =
    c.if-starts_with-2.true ∙ elim c.if-starts_with.branch [
      | then-starts_with w ↦ begins-label _ w.if-starts_with.ensures.value
      | else-starts_with w ↦ begins-arrow _ w.if-starts_with.ensures.value (sym c.if-starts_with-2.true ∙ w.value-is ∙ w.starts_with-else-starts_with.ensures.value)
    ]

pub returns-else-starts_with-2 : goal.returns-else-starts_with-2
unfolding ascii
returns-else-starts_with-2 c =
    elim c.if-starts_with.branch [
      | then-starts_with w ↦ true-false (w.value-is ∙ w.if-starts_with.true) c.if-starts_with-2.false
      | else-starts_with w ↦
          begins-node _ w.if-starts_with.ensures.value (sym c.if-starts_with-2.false ∙ w.value-is ∙ w.starts_with-else-starts_with.ensures.value)
          c.starts_with-else-starts_with-2.ensures.value
    ]
