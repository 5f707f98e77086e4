-- The words of two sets side by side.
use mathlib.Core.Path.{◌≡◌, refl, sym, ap, ap₂, ◌∙◌}
use mathlib.Core.Bool.{Bool, true, false, ◌&&◌, ◌||◌, cond, or-false}
use Prim.Native.Nat.{ℕ, ◌+◌, ◌-◌, ◌*◌, ◌%◌, ◌^◌, ◌≤◌, ◌<◌}
use native.Mathlib.Nat.{mod-lt}
use native.Mathlib.Decide.{dec_lt}
use native.Mathlib.Omega.{arith}
use borrow.Author.Tests.{lt-ltb, le-ltb, le-leb, lt-leb, ltb-true, ltb-false}
use lib.Dec.{leb, ltb}
use lib.Pow.{pow_pos}
use Rattle.logic.specs.Graph.{Nodes}
use Rattle.bitset.specs.Words.{set_of, member}
use Rattle.bitset.proofs.SetLaws.{set_of-cong, set_of-wide, set_of-none, member-set_of, member_of, is-set_of}
use Rattle.bitset.proofs.BitLaws.{member-shl}
use Rattle.join_sheets.specs.Joined.{side_by_side}
use Rattle.join_sheets.specs.BesideWrites.{raised, beside}

-- a shift of a word raises its set
pub shifted : (x n : ℕ) → x * 2 ^ n % 2 ^ 64 ≡ raised n x
shifted x n = is-set_of 64 (x * 2 ^ n % 2 ^ 64) (λ j. leb n j && member x (j - n)) (mod-lt (x * 2 ^ n) (pow_pos 64)) (λ j h. member-shl x n j h)

-- i is one of the m numbers from n on
from-n : (n m i : ℕ) → n ≤ i → ltb (i - n) m ≡ ltb i (n + m)
from-n n m i l = sym (go (ltb (i - n) m) refl) where
  go : (b : Bool) → ltb (i - n) m ≡ b → ltb i (n + m) ≡ b
  go true e = lt-ltb i (n + m) (omega (arith, ltb-true (i - n) m e))
  go false e = le-ltb i (n + m) (omega (arith, ltb-false (i - n) m e))

pub beside-sets : (n m : ℕ) (v u : Nodes) → n + m ≤ 64 → beside n (set_of n v) (set_of m u) ≡ set_of (n + m) (side_by_side n v u)
unfolding side_by_side
beside-sets n m v u h = set_of-cong 64 _ (λ i. ltb i (n + m) && cond (ltb i n) (v i) (u (i - n))) (λ i l. ap₂ ◌||◌ (member_of n v i) (member-set_of 64 _ i l ∙ ap (leb n i &&◌) (member_of m u (i - n))) ∙ go i (dec_lt i n)) ∙ set_of-wide (n + m) 64 _ h
  where
    go : (i : ℕ) → Dec (i < n) → ((ltb i n && v i) || (leb n i && (ltb (i - n) m && u (i - n)))) ≡ (ltb i (n + m) && cond (ltb i n) (v i) (u (i - n)))
    go i (yes l) = rw (lt-ltb i n l, lt-leb n i l, lt-ltb i (n + m) (omega arith)) (or-false (v i))
    go i (no l) = rw (le-ltb i n (omega arith), le-leb n i (omega arith), from-n n m i (omega arith))

-- the first set alone
pub first_alone : (n m : ℕ) (v : Nodes) → set_of n v ≡ set_of (n + m) (side_by_side n v (λ j. false))
unfolding side_by_side
first_alone n m v = sym (set_of-cong (n + m) _ (λ i. ltb i n && v i) (λ i l. go (ltb i n) (v i)) ∙ set_of-wide n (n + m) v (omega arith)) where
  go : (b c : Bool) → cond b c false ≡ (b && c)
  go true c = refl
  go false c = refl

-- two empty sets side by side
pub neither : (n m : ℕ) (v u w : Nodes) → ((i : ℕ) → w i ≡ false) → ((i : ℕ) → v i ≡ false) → ((i : ℕ) → u i ≡ false) → set_of n w ≡ set_of (n + m) (side_by_side n v u)
unfolding side_by_side
neither n m v u w z p q = set_of-cong n w (λ i. false) (λ i l. z i) ∙ set_of-none n ∙ sym (set_of-cong (n + m) _ (λ i. false) (λ i l. go (ltb i n) i) ∙ set_of-none (n + m)) where
  go : (b : Bool) (i : ℕ) → cond b (v i) (u (i - n)) ≡ false
  go true i = p i
  go false i = q (i - n)
