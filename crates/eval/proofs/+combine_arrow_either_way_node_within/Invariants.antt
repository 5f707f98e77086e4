use Prim.Native.Nat.{◌+◌, ◌*◌, ◌-◌}
use lib.ListN.{length}
use Rattle.eval.proofs.+combine_arrow_either_way_node_within.Given as goal

abbrev pub decreases-either_way : goal.decreases-either_way
decreases-either_way l = 2 * (length l.text.now - l.at)

-- A relation that is combined separately is evaluated where it stands: one more.
abbrev pub decreases-combine_arrow : goal.decreases-combine_arrow
decreases-combine_arrow l = 2 * (length l.text.now - l.first.next) + 1

abbrev pub decreases-node_within : goal.decreases-node_within
decreases-node_within l = 2 * (length l.text.now - l.at)
