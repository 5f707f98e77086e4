use mathlib.Core.Path.{sym, ◌∙◌}
use Rattle.text.proofs.TextStages.{one-long, one-stopped, one-done, one-extra}
use Rattle.text.specs.Reading.{edit}
use Rattle.text.proofs.Text.check_edit.Goals as goal

pub returns-then-edit-limits : goal.returns-then-edit-limits
returns-then-edit-limits c = one-long _ _ 20 edit c.limits_for-limits.ensures c.if-edit-limits.true

pub returns-in-Ok : goal.returns-in-Ok
returns-in-Ok c = one-extra _ _ 20 edit c.limits_for-limits.ensures c.if-edit-limits.false (sym c.read.ensures ∙ c.in-Ok.is) c.if-p-edit.true

pub returns-in-Ok-2 : goal.returns-in-Ok-2
returns-in-Ok-2 c = one-done _ _ 20 edit c.limits_for-limits.ensures c.if-edit-limits.false (sym c.read.ensures ∙ c.in-Ok.is) c.if-p-edit.false

pub returns-in-Err : goal.returns-in-Err
returns-in-Err c = c.in_edit.ensures ∙ one-stopped _ _ 20 edit c.limits_for-limits.ensures c.if-edit-limits.false (sym c.read.ensures ∙ c.in-Err.is)
