use Prim.Native.Nat.{◌^◌, ◌<◌}
use Rattle.logic.specs.Graph.{Pairs}
use Rattle.rows.specs.Operations.{Gives}
use Rattle.rows.proofs.MemberWalks.{Inside, Counted}
use Rattle.rows.proofs.over.ends_of_one.Given as goal

abbrev pub invariant-loop-left : goal.invariant-loop-left
invariant-loop-left g l = (l.left < 2 ^ l.n) × Inside l.left l.e × ((v : Pairs) → Gives l.n v (goal.F-post g l.row) → Counted 1 l.n l.e l.left v l.one)

abbrev pub decreases-loop-left : goal.decreases-loop-left
decreases-loop-left g l = l.left
