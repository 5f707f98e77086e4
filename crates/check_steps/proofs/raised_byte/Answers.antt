use Rattle.check_steps.proofs.Spans.{after-number, after-code}
use Rattle.check_steps.proofs.raised_byte.Goals as goal

pub returns-then-numbers-gt0 : goal.returns-then-numbers-gt0
returns-then-numbers-gt0 c = (after-number _ 0 _ c.if-numbers-gt0.true).1

pub returns-else-numbers-gt0 : goal.returns-else-numbers-gt0
returns-else-numbers-gt0 c = (after-code _ 0 _ c.if-numbers-gt0.false).1
