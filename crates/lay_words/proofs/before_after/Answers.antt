use mathlib.Core.Path.{sym, ◌∙◌}
use Rattle.names.specs.Token.{ascii}
use Rattle.lay_words.proofs.LayingLaws.{after-opening, after-other}
use Rattle.lay_words.proofs.before_after.Goals as goal

pub returns-then-same : goal.returns-then-same
unfolding ascii
returns-then-same c = after-opening _ (sym c.same.ensures ∙ c.if-same.true)

pub returns-else-same : goal.returns-else-same
unfolding ascii
returns-else-same c = after-other _ (sym c.same.ensures ∙ c.if-same.false)
