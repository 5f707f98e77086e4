-- Rules that stand one after the other up to a place.
use mathlib.Core.Path.{◌≡◌, sym, ap, subst}
use mathlib.Core.List.{List}
use Prim.Native.Nat.{ℕ, zero, suc, ◌+◌, ◌-◌, ◌≤◌, ◌<◌}
use native.Mathlib.Numerals.{add-one}
use native.Mathlib.Omega.{arith}
use lib.ListN.{length}
use Rattle.logic.specs.Syntax.{rule, Expr}
use Rattle.logic.specs.Limits.{Ranges}
use Rattle.text.specs.Code.{code}
use Rattle.text.specs.Stands.{Stands}
use Rattle.text.proofs.HeadLaws.{code-some}
use Rattle.eval.specs.Evaluated.{Next, Upto}

module _ (r : Ranges) (text : List ℕ) (end : ℕ) where
  pub upto-none : (k : ℕ) (at : ℕ) → Upto r text end k at → k ≤ 0 → at ≡ end
  unfolding Upto
  upto-none zero at u l = u
  upto-none (suc k) at u l = absurd (omega (arith, l))

  pub upto-first : (k : ℕ) (at : ℕ) → Upto r text end k at → 0 < k → Next r text (Upto r text end (k - 1)) at
  unfolding Upto
  upto-first zero at u l = absurd (omega (arith, l))
  upto-first (suc k) at u l = let e : k ≡ suc k - 1 = omega arith in subst (λ (j : ℕ). Next r text (Upto r text end j) at) e u

  -- each has a byte
  pub upto-few : (k : ℕ) (at : ℕ) → Upto r text end k at → at + k ≤ end
  unfolding Upto
  upto-few zero at u = omega (arith, u)
  upto-few (suc k) at u = omega (arith, upto-few k _ u.onward, code-some u.K)

  -- one more after them
  module _ (K : Expr rule) (h : Stands r text end K) where
    one-after : (k : ℕ) (at : ℕ) → Upto r text end k at → Upto r text (end + length (code K)) (suc k) at
    unfolding Upto
    one-after zero at u = record { K = K; stands = subst (λ (p : ℕ). Stands r text p K) (sym u) h; onward = ap (◌+ length (code K)) u }
    one-after (suc k) at u = record { K = u.K; stands = u.stands; onward = one-after k _ u.onward }

    pub upto-more : (k : ℕ) (at : ℕ) → Upto r text end k at → Upto r text (end + length (code K)) (k + 1) at
    upto-more k at u = subst (λ (j : ℕ). Upto r text (end + length (code K)) j at) (sym (add-one k)) (one-after k at u)
