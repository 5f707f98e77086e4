use mathlib.Core.Path.{ap, ◌∙◌}
use Prim.Native.Nat.{◌+◌, ◌%◌}
use Rattle.check_steps.proofs.Spans.{after-number, after-code}
use Rattle.check_steps.proofs.next_numbers.Goals as goal

pub returns-then-numbers-gt0 : goal.returns-then-numbers-gt0
returns-then-numbers-gt0 c = (after-number _ 0 _ c.if-numbers-gt0.true).0

pub returns-else-numbers-gt0 : goal.returns-else-numbers-gt0
returns-else-numbers-gt0 c = ap (λ s. (s % 4 + 3) % 4) c.shape_of.ensures ∙ (after-code _ 0 _ c.if-numbers-gt0.false).0
