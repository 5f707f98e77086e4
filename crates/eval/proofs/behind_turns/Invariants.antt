use Prim.Native.Nat.{◌-◌}
use lib.ListN.{length}
use Rattle.logic.specs.Syntax.{Expr, arrow}
use Rattle.logic.specs.Limits.{ranges}
use Rattle.text.specs.Stands.{Stands}
use Rattle.eval.specs.Evaluated.{IsTurned}
use Rattle.eval.proofs.behind_turns.Given as goal

abbrev pub invariant-loop-next : goal.invariant-loop-next
invariant-loop-next l = (e : Expr arrow) → Stands (ranges l.n) l.text l.at e → IsTurned l.n l.text l.at e l.turned l.next

abbrev pub decreases-loop-next : goal.decreases-loop-next
decreases-loop-next l = length l.text - l.next
