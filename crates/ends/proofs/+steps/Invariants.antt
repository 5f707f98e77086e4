use Prim.Native.Nat.{◌-◌, ◌+◌, ◌*◌}
use lib.ListN.{length}
use Rattle.ends.proofs.Ends.{Rest}
use Rattle.ends.proofs.+steps.Given as goal

abbrev pub decreases-end_of : goal.decreases-end_of
decreases-end_of l = 2 * (length l.text.now - l.at) + 1

abbrev pub decreases-next_step : goal.decreases-next_step
decreases-next_step l = 2 * (length l.text.now - l.at)

abbrev pub invariant-end_of-loop-p : goal.invariant-end_of-loop-p
invariant-end_of-loop-p l = Rest l.text l.at l.p

abbrev pub decreases-end_of-loop-p : goal.decreases-end_of-loop-p
decreases-end_of-loop-p l = length l.text - l.p
