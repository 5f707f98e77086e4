use mathlib.Core.Path.{sym, ◌∙◌}
use Rattle.text.proofs.TextStages.{first-long, first-done, first-stopped}
use Rattle.text.proofs.first_within.Goals as goal

pub returns-then-text-limits : goal.returns-then-text-limits
returns-then-text-limits c = first-long _ _ c.if-text-limits.true

pub returns-in-Ok : goal.returns-in-Ok
returns-in-Ok c = first-done _ _ c.if-text-limits.false (sym c.read.ensures ∙ c.in-Ok.is)

pub returns-in-Err : goal.returns-in-Err
returns-in-Err c = c.in_book.ensures ∙ first-stopped _ _ c.if-text-limits.false (sym c.read.ensures ∙ c.in-Err.is)
