use mathlib.Core.Path.{◌≡◌}
use lib.ListN.{length}
use Rattle.measure.proofs.Loops.{Merging}
use Rattle.measure.proofs.numbers.merge.Given as goal

abbrev pub invariant-loop-i : goal.invariant-loop-i
invariant-loop-i l = (length l.state ≡ 130) × Merging l.t l.initial.state l.state l.i
