-- The four counts total all small sheets.
use mathlib.Core.Path.{◌≡◌, refl, ap, ◌∙◌}
use mathlib.Core.Bool.{Bool, true, false, not, ◌&&◌, cond}
use mathlib.Core.List.{List}
use Prim.Native.Nat.{ℕ, zero, suc, ◌+◌, ◌^◌}
use native.Mathlib.Omega.{arith}
use Rattle.logic.specs.Syntax.{Expr, rule, Edit}
use Rattle.logic.specs.Graph.{count_below}
use Rattle.logic.specs.Steps.{run}
use Rattle.logic.specs.Meaning.{hold_all}
use Rattle.count_small.specs.Small.{bits, small_sheet, four_of, four_counts, total}

four-total : (most : ℕ) (before next : ℕ → Bool) → total (four_of most before next) ≡ most
unfolding four_of count_below
four-total zero before next = refl
four-total (suc m) before next = one_more (before m) (next m) _ _ _ _ ∙ ap suc (four-total m before next) where
  one_more : (b a : Bool) (k l r o : ℕ) → cond (b && a) (suc k) k + cond (b && not a) (suc l) l + cond (not b && a) (suc r) r + cond (not b && not a) (suc o) o ≡ suc (k + l + r + o)
  one_more true true k l r o = omega arith
  one_more true false k l r o = omega arith
  one_more false true k l r o = omega arith
  one_more false false k l r o = omega arith

-- "They total 4, 64 or 4,096"
pub totals : (n : ℕ) (book : List (Expr rule)) (Z : Edit) → total (four_counts n book Z) ≡ 2 ^ bits n
totals n book Z = unfold four_counts in four-total (2 ^ bits n) (λ x. hold_all (small_sheet n x) book) (λ x. hold_all (run Z (small_sheet n x)) book)
