use mathlib.Core.Path.{sym, ◌∙◌}
use Rattle.names.specs.Token.{ascii}
use Rattle.lay_words.proofs.LayingLaws.{ifs-inside, ifs-more, ifs-less, ifs-same}
use Rattle.lay_words.proofs.ifs_after.Goals as goal

pub returns-then-opened-ne0 : goal.returns-then-opened-ne0
returns-then-opened-ne0 c = ifs-inside _ _ _ c.if-opened-ne0.true

pub returns-then-same : goal.returns-then-same
unfolding ascii
returns-then-same c = ifs-more _ _ _ c.if-opened-ne0.false (sym c.if-same.ensures)

pub returns-then-same-2 : goal.returns-then-same-2
unfolding ascii
returns-then-same-2 c = c.saturating_sub.ensures ∙ ifs-less _ _ _ c.if-opened-ne0.false (sym c.if-same.ensures) (sym c.if-same-2.ensures)

pub returns-else-same-2 : goal.returns-else-same-2
unfolding ascii
returns-else-same-2 c = ifs-same _ _ _ c.if-opened-ne0.false (sym c.if-same.ensures) (sym c.if-same-2.ensures)
