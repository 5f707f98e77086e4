use mathlib.Core.Bool.{true}
use mathlib.Core.Path.{◌≡◌}
use Rattle.sheet.specs.Sheet.{Rows}
use Rattle.logic.specs.Graph.{Pairs, all_below, implies}
use Rattle.rows.proofs.relations.rows_in.Given as goal

abbrev pub invariant-loop-i : goal.invariant-loop-i
invariant-loop-i l = ((v w : Pairs) → Rows l.n v l.a → Rows l.n w l.b → all_below l.i (λ k. all_below l.n (λ j. implies (v k j) (w k j))) ≡ true)
