-- The laws of one exchange of blocks.
use mathlib.Core.Path.{◌≡◌, refl, sym, ap, ap₂, ◌∙◌, subst}
use mathlib.Core.Bool.{Bool, true, false, true≢false, not, ◌&&◌, ◌||◌, cond, and-true, and-false, or-false, not-not}
use mathlib.Core.List.{List}
use mathlib.Core.Logic.{⊎_elim}
use Prim.Native.Nat.{ℕ, ◌+◌, ◌-◌, ◌*◌, ◌/◌, ◌%◌, ◌^◌, ◌≤◌, ◌<◌}
use native.Mathlib.Nat.{eq-or-lt_of_le, le_of_suc-le-suc, mod-lt}
use native.Mathlib.Numerals.{add-one}
use native.Mathlib.Omega.{arith}
use lib.Dec.{leb}
use lib.Bits.{bit_and, bit_or, and_lt, or_lt}
use lib.ListN.{length, get_or, set, length-set}
use lib.Pow.{pow_pos, shr_le}
use lib.Seq.{get_or-set_same, get_or-set_other}
use borrow.Author.Tests.{le-leb}
use Rattle.bitset.specs.Words.{set_of, member}
use Rattle.bitset.specs.Transpose.{low_half, from_row, from_column, Blocks, LowFrom, exchanged_row, MovedFrom}
use Rattle.bitset.proofs.SetLaws.{set_of-cong, is-set_of, member-set_of}
use Rattle.bitset.proofs.BitLaws.{below_or_not, member-and, member-or, member-shr, member-shl}

either-half : (x y n : Bool) → ((x && not n) || (y && n)) ≡ cond (not n) x y
either-half x y true = rw (and-false x, and-true y)
either-half x y false = rw (and-true x, and-false y) (or-false x)

-- choosing a bit is choosing the row and the column
chosen : (x : Bool) (a : List ℕ) (i k j l : ℕ) → cond x (member (get_or a i 0) j) (member (get_or a k 0) l) ≡ member (get_or a (cond x i k) 0) (cond x j l)
chosen true a i k j l = refl
chosen false a i k j l = refl

and-swap : (k y m : Bool) → (k && (y && m)) ≡ (y && (k && m))
and-swap true y m = refl
and-swap false y m = sym (and-false y)

-- bit j of a row that the code puts together
module _ (x y s m : ℕ) (B : Blocks s m) (j : ℕ) (h : j < 64) where
  in-mask : (k : ℕ) → k < 64 → member m k ≡ low_half s k
  in-mask k l = ap (λ (w : ℕ). member w k) B.mask ∙ member-set_of 64 (low_half s) k l

  in-low : low_half s j ≡ not (leb s j && low_half s (j - s))
  in-low = sym (ap not (B.halves j h) ∙ not-not (low_half s j))

  low_bit : member (bit_or (bit_and x m) (bit_and y m * 2 ^ s % 2 ^ 64)) j ≡ cond (low_half s j) (member x j) (member y (j - s))
  low_bit =
      member-or _ _ j
      ∙ ap₂ ◌||◌ (member-and x m j ∙ ap (λ (b : Bool). member x j && b) (in-mask j h ∙ in-low))
      (member-shl (bit_and y m) s j h ∙ ap (λ (b : Bool). leb s j && b) (member-and y m (j - s) ∙ ap (λ (b : Bool). member y (j - s) && b) (in-mask (j - s) (omega arith)))
      ∙ and-swap (leb s j) (member y (j - s)) (low_half s (j - s)))
      ∙ either-half (member x j) (member y (j - s)) (leb s j && low_half s (j - s))
      ∙ ap (λ (b : Bool). cond b (member x j) (member y (j - s))) (sym in-low)

  high_bit : member (bit_or (bit_and (x / 2 ^ s) m) (bit_and y (m * 2 ^ s % 2 ^ 64))) j ≡ cond (low_half s j) (member x (j + s)) (member y j)
  high_bit =
      member-or _ _ j
      ∙ ap₂ ◌||◌ (member-and (x / 2 ^ s) m j ∙ ap₂ ◌&&◌ (member-shr x s j) (in-mask j h ∙ in-low))
      (member-and y (m * 2 ^ s % 2 ^ 64) j ∙ ap (λ (b : Bool). member y j && b) (member-shl m s j h ∙ ap (λ (b : Bool). leb s j && b) (in-mask (j - s) (omega arith))))
      ∙ either-half (member x (j + s)) (member y j) (leb s j && low_half s (j - s))
      ∙ ap (λ (b : Bool). cond b (member x (j + s)) (member y j)) (sym in-low)

-- and the whole row
module _ (x y s m : ℕ) (B : Blocks s m) (hx : x < 2 ^ 64) (hy : y < 2 ^ 64) (hm : m < 2 ^ 64) where
  pub low_word : bit_or (bit_and x m) (bit_and y m * 2 ^ s % 2 ^ 64) ≡ set_of 64 (λ j. cond (low_half s j) (member x j) (member y (j - s)))
  low_word = is-set_of 64 _ _ (or_lt 64 _ _ (and_lt 64 x m hx hm) (mod-lt (bit_and y m * 2 ^ s) (pow_pos 64))) (low_bit x y s m B)

  pub high_word : bit_or (bit_and (x / 2 ^ s) m) (bit_and y (m * 2 ^ s % 2 ^ 64)) ≡ set_of 64 (λ j. cond (low_half s j) (member x (j + s)) (member y j))
  high_word =
      is-set_of 64 _ _ (or_lt 64 _ _ (and_lt 64 (x / 2 ^ s) m (omega (arith, shr_le x s)) hm) (and_lt 64 y (m * 2 ^ s % 2 ^ 64) hy (mod-lt (m * 2 ^ s) (pow_pos 64))))
      (high_bit x y s m B)

-- the rows of a low half, and those after them
module _ {s m : ℕ} (B : Blocks s m) where
  behind-half : (i : ℕ) → i + s < 64 → low_half s (i + s) ≡ not (low_half s i)
  behind-half i h =
      let e : i + s - s ≡ i = omega arith in
      sym (not-not (low_half s (i + s)))
      ∙ ap not (sym (B.halves (i + s) h) ∙ ap₂ ◌&&◌ (le-leb s (i + s) (omega arith)) (ap (low_half s) e))

  module _ (b : ℕ) (L : LowFrom s b) where
    pub low-more : LowFrom s (b + 2 * s)
    low-more = record {
      low = λ i h l k.
          let e : i ≡ i - s - s + s + s = omega arith in
          ap (low_half s) e ∙ behind-half (i - s - s + s) (omega arith) ∙ ap not (behind-half (i - s - s) (omega arith))
          ∙ not-not (low_half s (i - s - s)) ∙ L.low (i - s - s) (omega arith) (omega arith) (omega arith);
    }

    -- a row from b on is exchanged with a row from b on
    from-row-le : (i j : ℕ) → b ≤ i → i < 64 → b ≤ from_row s i j
    unfolding from_row
    from-row-le i j h l = go (low_half s i) (low_half s j) refl where
      go : (x y : Bool) → low_half s i ≡ x → b ≤ cond x (cond y i (i + s)) (cond y (i - s) i)
      go true true e = h
      go true false e = omega arith
      go false true e = ⊎_elim (λ (k : i < b + s). absurd (true≢false (sym (L.low i h k l) ∙ e))) (λ (k : b + s ≤ i). omega arith) (below_or_not i (b + s))
      go false false e = h

-- What the loop over the rows of a low half has done before row i.
pub record Moving (b i s : ℕ) (a r : List ℕ) : Type 0 where
  pub low : (k : ℕ) → b ≤ k → k < i → get_or r k 0 ≡ exchanged_row s a k
  pub high : (k : ℕ) → b ≤ k → k < i → get_or r (k + s) 0 ≡ exchanged_row s a (k + s)
  pub before : (k : ℕ) → k < b → get_or r k 0 ≡ get_or a k 0
  pub between : (k : ℕ) → i ≤ k → k < b + s → get_or r k 0 ≡ get_or a k 0
  pub behind : (k : ℕ) → i + s ≤ k → get_or r k 0 ≡ get_or a k 0

module _ {s m : ℕ} (B : Blocks s m) (b : ℕ) (L : LowFrom s b) (i : ℕ) (a r : List ℕ) (h : b ≤ i) (l : i < b + s) (room : b + s + s ≤ 64) (size : length r ≡ 64) (d : Moving b i s a r) where
  is-low : low_half s i ≡ true
  is-low = L.low i h l (omega arith)

  low-exchanged : (v : ℕ) → v ≡ set_of 64 (λ j. cond (low_half s j) (member (get_or r i 0) j) (member (get_or r (i + s) 0) (j - s))) → v ≡ exchanged_row s a i
  unfolding from_row from_column
  low-exchanged v e =
      e ∙ set_of-cong 64 _ _ (λ j k. rw (is-low, d.between i (omega arith) l, d.behind (i + s) (omega arith)) (chosen (low_half s j) a i (i + s) j (j - s)))

  high-exchanged : (w : ℕ) → w ≡ set_of 64 (λ j. cond (low_half s j) (member (get_or r i 0) (j + s)) (member (get_or r (i + s) 0) j)) → w ≡ exchanged_row s a (i + s)
  unfolding from_row from_column
  high-exchanged w e =
      let c : i + s - s ≡ i = omega arith in
      let f : low_half s (i + s) ≡ false = behind-half B i (omega arith) ∙ ap not is-low in
      e ∙ set_of-cong 64 _ _ (λ j k. rw (f, c, d.between i (omega arith) l, d.behind (i + s) (omega arith)) (chosen (low_half s j) a i (i + s) (j + s) j))

  pub moving-more : (v w : ℕ)
      → v ≡ set_of 64 (λ j. cond (low_half s j) (member (get_or r i 0) j) (member (get_or r (i + s) 0) (j - s)))
      → w ≡ set_of 64 (λ j. cond (low_half s j) (member (get_or r i 0) (j + s)) (member (get_or r (i + s) 0) j))
      → Moving b (i + 1) s a (set (set r i v) (i + s) w)
  moving-more v w e f =
      let put : ℕ → ℕ = λ k. get_or (set (set r i v) (i + s) w) k 0 in
      let other : (k : ℕ) → (k ≡ i → ⊥) → (k ≡ i + s → ⊥) → put k ≡ get_or r k 0 = λ k p q. get_or-set_other (set r i v) (i + s) k w 0 q ∙ get_or-set_other r i k v 0 p in
      let low : put i ≡ v = get_or-set_other (set r i v) (i + s) i w 0 (λ z. omega (arith, B.some)) ∙ get_or-set_same r i v 0 (omega arith) in
      let high : put (i + s) ≡ w = get_or-set_same (set r i v) (i + s) w 0 (simp length-set (omega arith)) in
      record {
        low = λ k p q. ⊎_elim
            (λ (z : k ≡ i). subst (λ (n : ℕ). put n ≡ exchanged_row s a n) (sym z) (low ∙ low-exchanged v e))
            (λ (z : k < i). other k (λ y. omega arith) (λ y. omega arith) ∙ d.low k p z)
            (eq-or-lt_of_le (le_of_suc-le-suc (rw add-one at q)));
        high = λ k p q. ⊎_elim
            (λ (z : k ≡ i). subst (λ (n : ℕ). put (n + s) ≡ exchanged_row s a (n + s)) (sym z) (high ∙ high-exchanged w f))
            (λ (z : k < i). other (k + s) (λ y. omega arith) (λ y. omega arith) ∙ d.high k p z)
            (eq-or-lt_of_le (le_of_suc-le-suc (rw add-one at q)));
        before = λ k p. other k (λ y. omega arith) (λ y. omega arith) ∙ d.before k p;
        between = λ k p q. other k (λ y. omega arith) (λ y. omega arith) ∙ d.between k (omega arith) q;
        behind = λ k p. other k (λ y. omega (arith, B.some)) (λ y. omega arith) ∙ d.behind k (omega arith);
      }

-- What the loop over the low halves has done: the rows below b are exchanged, the others unchanged.
pub record Done (b s : ℕ) (a r : List ℕ) : Type 0 where
  pub below : (k : ℕ) → k < b → k < 64 → get_or r k 0 ≡ exchanged_row s a k
  pub above : (k : ℕ) → b ≤ k → get_or r k 0 ≡ get_or a k 0

pub done_none : {s : ℕ} {a : List ℕ} → Done 0 s a a
done_none = record { below = λ k h l. absurd (omega arith); above = λ k h. refl }

pub done_more : {s m : ℕ} → Blocks s m → (b : ℕ) → LowFrom s b → (a r t : List ℕ) → Done b s a r → MovedFrom b s r t → Done (b + 2 * s) s a t
done_more {s} B b L a r t d e = record {
  below = λ k h l. ⊎_elim
      (λ (p : k < b). e.before k p ∙ d.below k p l)
      (λ (p : b ≤ k). ⊎_elim
      (λ (q : k < b + s). e.low k p q ∙ same k p l)
      (λ (q : b + s ≤ k). let z : k ≡ k - s + s = omega arith in subst (λ (n : ℕ). get_or t n 0 ≡ exchanged_row s r n) (sym z) (e.high (k - s) (omega arith) (omega arith)) ∙ same k p l)
      (below_or_not k (b + s)))
      (below_or_not k b);
  above = λ k h. e.behind k (omega arith) ∙ d.above k (omega arith);
} where
  same : (k : ℕ) → b ≤ k → k < 64 → exchanged_row s r k ≡ exchanged_row s a k
  same k p l = set_of-cong 64 _ _ (λ j q. ap (λ (x : ℕ). member x (from_column s k j)) (d.above (from_row s k j) (from-row-le B b L k j p l)))
