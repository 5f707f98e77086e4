use mathlib.Core.Path.{refl, sym, ◌∙◌}
use Rattle.logic.specs.Syntax.{rule}
use Rattle.text.proofs.TextStages.{one-long, one-stopped, one-done, one-extra}
use Rattle.text.specs.Reading.{expr}
use Rattle.text.proofs.rule_within.Goals as goal

pub returns-then-text-limits : goal.returns-then-text-limits
returns-then-text-limits c = one-long _ _ 10 (expr rule) refl c.if-text-limits.true

pub returns-in-Ok : goal.returns-in-Ok
returns-in-Ok c = one-extra _ _ 10 (expr rule) refl c.if-text-limits.false (sym c.read.ensures ∙ c.in-Ok.is) c.if-p-text.true

pub returns-in-Ok-2 : goal.returns-in-Ok-2
returns-in-Ok-2 c = one-done _ _ 10 (expr rule) refl c.if-text-limits.false (sym c.read.ensures ∙ c.in-Ok.is) c.if-p-text.false

pub returns-in-Err : goal.returns-in-Err
returns-in-Err c = c.in_book.ensures ∙ one-stopped _ _ 10 (expr rule) refl c.if-text-limits.false (sym c.read.ensures ∙ c.in-Err.is)
