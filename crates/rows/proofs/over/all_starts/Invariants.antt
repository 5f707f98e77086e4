use mathlib.Core.Path.{◌≡◌}
use Rattle.rows.specs.Operations.{number, enough}
use Rattle.logic.specs.Graph.{Nodes, Pairs}
use Rattle.rows.specs.Operations.{Gives}
use Rattle.bitset.specs.Words.{set_of}
use Rattle.rows.proofs.over.all_starts.Given as goal

abbrev pub invariant-loop-i : goal.invariant-loop-i
invariant-loop-i g l = ((v : Pairs) (w : Nodes) → Gives l.n v (goal.F-post g l.row) → l.e ≡ set_of l.n w → l.r ≡ set_of l.i (λ j. enough (number l.k) l.n (v j) w))
