use mathlib.Core.Path.{◌≡◌}
use Rattle.logic.specs.Graph.{Pairs, any_below}
use Rattle.rows.specs.Operations.{Gives}
use Rattle.bitset.specs.Words.{set_of}
use Rattle.rows.proofs.over.all_ends.Given as goal

abbrev pub invariant-loop-i : goal.invariant-loop-i
invariant-loop-i g l = ((v : Pairs) → Gives l.n v (goal.F-post g l.row) → l.r ≡ set_of l.n (λ j. any_below l.i (λ k. v k j)))
