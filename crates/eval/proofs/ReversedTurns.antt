-- The 12s before an arrow expression, skipped one by one.
use mathlib.Core.Path.{◌≡◌, refl, ap, ◌∙◌}
use mathlib.Core.Bool.{Bool, true, false, not}
use mathlib.Core.List.{List}
use Prim.Native.Nat.{ℕ, ◌+◌}
use native.Mathlib.Omega.{arith}
use lib.ListN.{get_or}
use Rattle.logic.specs.Syntax.{arrow, Expr}
use Rattle.logic.specs.Graph.{Pairs}
use Rattle.logic.specs.Meaning.{value}
use Rattle.rows.specs.Operations.{turn}
use Rattle.eval.specs.Evaluated.{IsTurned}
use Rattle.eval.proofs.ArrowCases.{as_reversed}

pub turned_more : (n : ℕ) (text : List ℕ) (at : ℕ) (e : Expr arrow) (b : Bool) (p : ℕ) → IsTurned n text at e b p → get_or text p 0 ≡ 0x12 → IsTurned n text at e (not b) (p + 1)
turned_more n text at e b p t c =
    let q = as_reversed n text p t.R t.stands (omega (arith, c)) (omega (arith, c)) in
    record {
      R = q.A;
      stands = q.first;
      means = λ g. t.means g ∙ ap (turn b) (q.means g) ∙ go b (value g q.A);
      on = omega (arith, t.on);
      ends = omega (arith, t.ends, q.size);
    } where
      go : (b : Bool) (v : Pairs) → turn b (λ i j. v j i) ≡ turn (not b) v
      go true v = refl
      go false v = refl
