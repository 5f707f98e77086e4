use Prim.Native.Nat.{◌-◌}
use lib.ListN.{length}
use Rattle.log_edit.proofs.EditBlocks.{Left}
use Rattle.log_edit.proofs.put_blocks.Given as goal

abbrev pub invariant-loop-from : goal.invariant-loop-from
invariant-loop-from l = Left l.edit l.initial.output l.mark l.from l.at l.output

abbrev pub decreases-loop-from : goal.decreases-loop-from
decreases-loop-from l = length l.edit - l.from
