use mathlib.Core.Bool.{true}
use mathlib.Core.Path.{◌≡◌}
use Rattle.logic.specs.Graph.{Pairs, all_below}
use Rattle.sheet.specs.Sheet.{Rows}
use Rattle.witness.proofs.PairLaws.{row_in}
use Rattle.witness.proofs.first_pair.Given as goal

-- The rows before i are inside.
abbrev pub invariant-loop-i : goal.invariant-loop-i
invariant-loop-i l = (v w : Pairs) → Rows l.n v l.a → Rows l.n w l.b → all_below l.i (row_in l.n v w) ≡ true
