-- The loop's invariant: whatever tree is at the place, this many parts of it are still to come, and they end where it ends.
use Prim.Native.Nat.{◌-◌}
use lib.ListN.{length}
use Rattle.ends.proofs.Pending.{Passing}
use Rattle.ends.proofs.past.Given as goal

-- The loop's invariant: whatever tree is at the place, this many parts of it are still to come, and they end where it ends.
abbrev pub invariant-loop-wanted : goal.invariant-loop-wanted
invariant-loop-wanted l = Passing l.text l.at l.p l.wanted

abbrev pub decreases-loop-wanted : goal.decreases-loop-wanted
decreases-loop-wanted l = length l.text - l.p
