use mathlib.Core.Path.{ap, ◌∙◌}
use Prim.Native.Nat.{◌+◌, ◌-◌, ◌/◌, ◌%◌}
use Rattle.check_steps.proofs.Spans.{after-number, after-code}
use Rattle.check_steps.proofs.next_wanted.Goals as goal

pub returns-then-numbers-gt0 : goal.returns-then-numbers-gt0
returns-then-numbers-gt0 c = (after-number _ _ _ c.if-numbers-gt0.true).2

pub returns-else-numbers-gt0 : goal.returns-else-numbers-gt0
returns-else-numbers-gt0 c = ap (λ s. c.args.wanted - 1 + s / 4 % 4) c.shape_of.ensures ∙ (after-code _ _ _ c.if-numbers-gt0.false).2
