use mathlib.Core.Path.{sym, ◌∙◌}
use Rattle.names.specs.Token.{ascii}
use Rattle.lay_words.proofs.LayingLaws.{brackets-more, brackets-less, brackets-same}
use Rattle.lay_words.proofs.brackets_after.Goals as goal

pub returns-then-same : goal.returns-then-same
unfolding ascii
returns-then-same c = brackets-more _ _ (sym c.if-same.ensures)

pub returns-then-same-2 : goal.returns-then-same-2
unfolding ascii
returns-then-same-2 c = c.saturating_sub.ensures ∙ brackets-less _ _ (sym c.if-same.ensures) (sym c.if-same-2.ensures)

pub returns-else-same-2 : goal.returns-else-same-2
unfolding ascii
returns-else-same-2 c = brackets-same _ _ (sym c.if-same.ensures) (sym c.if-same-2.ensures)
