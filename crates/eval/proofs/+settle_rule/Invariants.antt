use Prim.Native.Nat.{◌-◌}
use lib.ListN.{length}
use Rattle.eval.proofs.+settle_rule.Given as goal

abbrev pub decreases-settle_rule : goal.decreases-settle_rule
decreases-settle_rule l = length l.text.now - l.at
