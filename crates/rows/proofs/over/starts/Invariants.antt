use mathlib.Core.Path.{◌≡◌}
use Prim.Native.Nat.{◌^◌, ◌<◌}
use Rattle.logic.specs.Graph.{Nodes, Pairs}
use Rattle.rows.specs.Operations.{Gives}
use Rattle.bitset.specs.Words.{set_of}
use Rattle.rows.specs.Operations.{number, enough}
use Rattle.rows.proofs.MemberWalks.{Inside, Picked}
use Rattle.rows.proofs.over.starts.Given as goal

abbrev pub invariant-loop-left : goal.invariant-loop-left
invariant-loop-left g l = (l.left < 2 ^ l.n) × Inside l.left l.within × ((v : Pairs) (w : Nodes) → Gives l.n v (goal.F-post g l.row) → l.e ≡ set_of l.n w → Picked l.n l.within l.left (λ i. enough (number l.k) l.n (v i) w) l.r)

abbrev pub decreases-loop-left : goal.decreases-loop-left
decreases-loop-left g l = l.left
