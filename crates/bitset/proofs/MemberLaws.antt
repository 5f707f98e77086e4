-- Sets member by member: the lowest member, and the set without it.
use mathlib.Core.Path.{◌≡◌, refl, sym, ap, ap₂, ◌∙◌, subst}
use mathlib.Core.Bool.{true, false, true≢false, and-true}
use mathlib.Core.Logic.{⊎_elim}
use Prim.Native.Nat.{ℕ, zero, suc, ◌+◌, ◌-◌, ◌*◌, ◌/◌, ◌%◌, ◌^◌, ◌≤◌, ◌<◌, min}
use native.Mathlib.Nat.{pow-suc, pow-succ', zero-lt-suc, div-one, div-div-eq-div-mul, div-lt_iff_lt-mul, eq-or-lt_of_le, le_of_suc-le-suc}
use native.Mathlib.Omega.{arith}
use lib.Bits.{bit_and, and_step, and_self}
use lib.Count.{count_trailing_zeros, under}
use lib.Pow.{pow_pos}
use borrow.Author.Tests.{eq-eqb, ne_eqb}
use Rattle.logic.specs.Graph.{Nodes}
use Rattle.logic.specs.Witness.{IsLowest}
use Rattle.logic.proofs.Below.{leave, leave-below}
use Rattle.bitset.specs.Words.{digit, set_of, member}
use Rattle.bitset.proofs.SetLaws.{set_of-lt, set_of-cong, set_of-member-lt, member-set_of, member-beyond}
use Rattle.bitset.proofs.BitLaws.{below_or_not}

-- a number shifted right by its trailing zeros is odd
first-digit : (d q : ℕ) → 0 < q → q < 2 ^ d → q / 2 ^ count_trailing_zeros d q % 2 ≡ 1
unfolding count_trailing_zeros
first-digit zero q h k = absurd (omega arith)
first-digit (suc d) q h k = go (q % 2) refl (λ (e : q % 2 ≡ 0). first-digit d (q / 2) (omega arith) ((div-lt_iff_lt-mul (zero-lt-suc 1)).1 (subst (λ (x : ℕ). q < x) (pow-suc 2 d) k))) where
  go : (r : ℕ) → q % 2 ≡ r → (q % 2 ≡ 0 → q / 2 / 2 ^ count_trailing_zeros d (q / 2) % 2 ≡ 1) → q / 2 ^ under r (count_trailing_zeros d (q / 2)) % 2 ≡ 1
  go zero e ih =
      let t = count_trailing_zeros d (q / 2) in
      ap (λ (x : ℕ). x % 2) (ap (λ (x : ℕ). q / x) (pow-succ' 2 t) ∙ sym (div-div-eq-div-mul q 2 (2 ^ t))) ∙ ih e
  go (suc r) e ih = ap (λ (x : ℕ). x % 2) (div-one q) ∙ omega arith

pub first_member : (x : ℕ) → 0 < x → x < 2 ^ 64 → member x (count_trailing_zeros 64 x) ≡ true
first_member x h k = unfold member in eq-eqb _ 1 (first-digit 64 x h k)

-- a set has no members below its lowest
before-first : (d q i : ℕ) → i < count_trailing_zeros d q → q / 2 ^ i % 2 ≡ 0
unfolding count_trailing_zeros
before-first zero q i h = absurd (omega arith)
before-first (suc d) q i h = go (q % 2) refl i h (before-first d (q / 2)) where
  go : (r : ℕ) → q % 2 ≡ r → (i : ℕ) → i < under r (count_trailing_zeros d (q / 2)) → ((j : ℕ) → j < count_trailing_zeros d (q / 2) → q / 2 / 2 ^ j % 2 ≡ 0) → q / 2 ^ i % 2 ≡ 0
  go zero e zero l ih = ap (λ (x : ℕ). x % 2) (div-one q) ∙ e
  go zero e (suc i) l ih = ap (λ (x : ℕ). x % 2) (ap (λ (x : ℕ). q / x) (pow-succ' 2 i) ∙ sym (div-div-eq-div-mul q 2 (2 ^ i))) ∙ ih i (omega arith)
  go (suc r) e i l ih = absurd (omega arith)

pub none-before-first : (x i : ℕ) → i < count_trailing_zeros 64 x → member x i ≡ false
none-before-first x i l = unfold member in ne_eqb _ 1 (λ (z : x / 2 ^ i % 2 ≡ 1). omega (arith, before-first 64 x i l))

-- a member of a set of nodes below n is below n
pub member-small : (n x i : ℕ) → x < 2 ^ n → member x i ≡ true → i < n
member-small n x i h e = ⊎_elim
    (λ (l : i < n). l)
    (λ (l : n ≤ i). absurd (true≢false (sym e ∙ ap (λ (y : ℕ). member y i) (sym (set_of-member-lt n x h)) ∙ member-beyond n (member x) i l)))
    (below_or_not i n)

-- the lowest bit of a set's word is its lowest member
pub first-is-lowest : (n : ℕ) (v : Nodes) (x r : ℕ) → n ≤ 64 → x ≡ set_of n v → member x r ≡ true → r ≡ count_trailing_zeros 64 x → IsLowest n v r
first-is-lowest n v x r h e m t =
    let l = member-small n x r (subst (λ (y : ℕ). y < 2 ^ n) (sym e) (set_of-lt n v)) m in
    record {
      below = l;
      is_in = sym (member-set_of n v r l) ∙ ap (λ (y : ℕ). member y r) (sym e) ∙ m;
      first = λ j k. sym (member-set_of n v j (omega arith)) ∙ ap (λ (y : ℕ). member y j) (sym e) ∙ none-before-first x j (omega arith);
    }

-- a set without one of its members
pub set_of-leave : (n i : ℕ) (p : Nodes) → i < n → p i ≡ true → set_of n p ≡ set_of n (leave p i) + 2 ^ i
unfolding set_of
set_of-leave zero i p h e = absurd (omega arith)
set_of-leave (suc n) i p h e = ⊎_elim
    (λ (q : i ≡ n). let s : set_of n (leave p i) ≡ set_of n p = set_of-cong n _ _ (leave-below n i p (omega arith)) in
    subst (λ (k : ℕ). digit (p n) * 2 ^ n + set_of n p ≡ digit (leave p i n) * 2 ^ n + set_of n (leave p i) + 2 ^ k) (sym q)
    (rw (ap p (sym q) ∙ e, eq-eqb n i (sym q), s) (omega arith)))
    (λ (l : i < n). rw (ne_eqb n i (λ (z : n ≡ i). omega arith), and-true (p n)) (omega (arith, set_of-leave n i p l e)))
    (eq-or-lt_of_le (le_of_suc-le-suc h))

-- x & (x - 1) is x without its lowest bit
lowest-gone : (d x : ℕ) → 0 < x → x < 2 ^ d → bit_and x (x - 1) + 2 ^ count_trailing_zeros d x ≡ x
unfolding count_trailing_zeros
lowest-gone zero x h k = absurd (omega arith)
lowest-gone (suc d) x h k = go (x % 2) refl (λ (e : x % 2 ≡ 0). lowest-gone d (x / 2) (omega arith) ((div-lt_iff_lt-mul (zero-lt-suc 1)).1 (subst (λ (y : ℕ). x < y) (pow-suc 2 d) k))) where
  digits : (a b c : ℕ) → (x - 1) / 2 ≡ a → x % 2 ≡ b → (x - 1) % 2 ≡ c → bit_and x (x - 1) ≡ bit_and (x / 2) a * 2 + min b c
  digits a b c p q r = and_step x (x - 1) ∙ ap₂ (λ (y z : ℕ). bit_and (x / 2) y * 2 + z) p (ap₂ min q r)

  go : (r : ℕ) → x % 2 ≡ r → (x % 2 ≡ 0 → bit_and (x / 2) (x / 2 - 1) + 2 ^ count_trailing_zeros d (x / 2) ≡ x / 2) → bit_and x (x - 1) + 2 ^ under r (count_trailing_zeros d (x / 2)) ≡ x
  go zero e ih = omega (arith, ih e, pow-suc 2 (count_trailing_zeros d (x / 2)), digits (x / 2 - 1) 0 1 (omega arith) e (omega arith))
  go (suc r) e ih = omega (arith, and_self (x / 2), digits (x / 2) 1 0 (omega arith) (omega arith) (omega arith))

module _ (x : ℕ) (h : 0 < x) (k : x < 2 ^ 64) where
  pub but-first-is : (i : ℕ) → i ≡ count_trailing_zeros 64 x → bit_and x (x - 1) ≡ set_of 64 (leave (member x) i)
  but-first-is i e =
      let t = count_trailing_zeros 64 x in
      let m = first_member x h k in
      let f : bit_and x (x - 1) ≡ set_of 64 (leave (member x) t) = omega (arith, lowest-gone 64 x h k, set_of-member-lt 64 x k, set_of-leave 64 t (member x) (member-small 64 x t k m) m) in
      f ∙ ap (λ (j : ℕ). set_of 64 (leave (member x) j)) (sym e)

  pub but-first-less : bit_and x (x - 1) < x
  but-first-less = omega (arith, lowest-gone 64 x h k, pow_pos (count_trailing_zeros 64 x))
