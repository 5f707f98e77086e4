-- Which bits of a block may be set, and that a block that passes question 4 has no others.
use mathlib.Core.Path.{◌≡◌, refl, sym, ◌∙◌, ap, ap₂}
use mathlib.Core.Bool.{Bool, true, false, not, ◌&&◌, cond, and-false, or-true}
use mathlib.Core.List.{List}
use mathlib.Core.Logic.{◌⊎◌, inl, inr}
use Prim.Native.Nat.{ℕ, zero, suc, ◌+◌, ◌-◌, ◌*◌, ◌/◌, ◌%◌, ◌≤◌, ◌<◌}
use native.Mathlib.Decide.{dec_lt}
use native.Mathlib.Omega.{arith}
use borrow.Author.Tests.{lt-ltb, le-ltb, lt-leb}
use lib.Dec.{T, ltb, ltb→lt, nltb→le}
use lib.ListN.{get_or}
use Rattle.logic.specs.Graph.{Nodes, all_below, implies}
use Rattle.logic.specs.Limits.{max_nodes, label_count}
use Rattle.logic.proofs.Below.{all_true, all-each}
use Rattle.bitset.specs.Words.{member}
use Rattle.bitset.proofs.SetLaws.{member-zero, is-set_of, set_of-member-lt}
use Rattle.sheet.specs.Sheet.{SheetForm, line_count, bit_in}
use Rattle.sheet.specs.Questions.{free, zero_right_def}

pub if-clear : (b c : Bool) → b ≡ false → implies b c ≡ true
if-clear b c e = rw e

pub clear : (b c : Bool) → c ≡ false → implies b c ≡ true → b ≡ false
clear true c e h = sym h ∙ e
clear false c e h = refl

-- where a test fails, the set that it guards has no member
pub guarded : (i m : ℕ) (b c : Bool) → (i < m → b ≡ c) → (m ≤ i → c ≡ false) → (ltb i m && b) ≡ c
guarded i m b c h l = go (ltb i m) (ltb→lt i m) (nltb→le i m) where
  go : (d : Bool) → (T d → i < m) → (T (not d) → m ≤ i) → (d && b) ≡ c
  go true p q = h (p tt)
  go false p q = sym (l (q tt))

-- its bits determine a byte
pub byte-ext : (x y : ℕ) → x < 256 → y < 256 → ((i : ℕ) → i < 8 → member x i ≡ member y i) → x ≡ y
byte-ext x y hx hy e = is-set_of 8 x (member y) hx e ∙ set_of-member-lt 8 y hy

no-bit : (x i : ℕ) → x ≡ 0 → member x i ≡ false
no-bit x i e = ap (λ x. member x i) e ∙ member-zero i

-- a bit of byte p is a bit of the word around the byte
pub bit-of-word : (k : List ℕ) (p i : ℕ) → 16 ≤ p → i < 8 → member (get_or k p 0) i ≡ member (get_or k (16 + 8 * ((p - 16) / 8) + (p % 8 * 8 + i) / 8) 0) ((p % 8 * 8 + i) % 8)
bit-of-word k p i l s =
    let at : p ≡ 16 + 8 * ((p - 16) / 8) + (p % 8 * 8 + i) / 8 = omega arith in
    let bit : i ≡ (p % 8 * 8 + i) % 8 = omega arith in
    ap₂ (λ x y. member (get_or k x 0) y) at bit

module _ (φ : SheetForm) (n : ℕ) (nodes : Nodes) where
  -- the head may be set, in every block
  head-free : (b p i : ℕ) → p < 3 → free φ n nodes b p i ≡ true
  unfolding free
  head-free zero p i l = rw (lt-ltb p 3 l)
  head-free (suc a) p i l = rw (lt-ltb p 3 l)

  -- what must be zero
  pub label-gap : (p i : ℕ) → 3 ≤ p → (p < 16) ⊎ (16 + 8 * line_count φ ≤ p) → free φ n nodes 0 p i ≡ false
  unfolding free
  label-gap p i l (inl u) = rw (le-ltb p 3 l, lt-leb 16 p u)
  label-gap p i l (inr u) = rw (le-ltb p 3 l, le-ltb p (16 + 8 * line_count φ) u, and-false)

  -- a node not in use has no label; from n on, line 48 has no bit either
  pub label-closed : (p i : ℕ) → 3 ≤ p → nodes (p % 8 * 8 + i) ≡ false → (p < 16 + 8 * label_count) ⊎ (n ≤ p % 8 * 8 + i) → free φ n nodes 0 p i ≡ false
  unfolding free
  label-closed p i l h (inl u) = rw (le-ltb p 3 l, lt-ltb p (16 + 8 * label_count) u, h, and-false, and-false)
  label-closed p i l h (inr u) = rw (le-ltb p 3 l, h, le-ltb (p % 8 * 8 + i) n u) (rw (neither (ltb p (16 + 8 * label_count)), and-false (ltb p (16 + 8 * line_count φ)), and-false)) where
    neither : (c : Bool) → cond c false false ≡ false
    neither true = refl
    neither false = refl

  pub arrow-gap : (a p i : ℕ) → 3 ≤ p → (p < 16) ⊎ (16 + 8 * max_nodes ≤ p) → free φ n nodes (suc a) p i ≡ false
  unfolding free
  arrow-gap a p i l (inl u) = rw (le-ltb p 3 l, lt-leb 16 p u)
  arrow-gap a p i l (inr u) = rw (le-ltb p 3 l, le-ltb p (16 + 8 * max_nodes) u, and-false)

  pub arrow-end : (a p i : ℕ) → 3 ≤ p → nodes (p % 8 * 8 + i) ≡ false → free φ n nodes (suc a) p i ≡ false
  arrow-end a p i l h = unfold free in rw (le-ltb p 3 l, h, and-false, and-false, and-false)

  pub arrow-start : (a p i : ℕ) → 3 ≤ p → nodes ((p - 16) / 8) ≡ false → free φ n nodes (suc a) p i ≡ false
  arrow-start a p i l h = unfold free in rw (le-ltb p 3 l, h, and-false, and-false)

  module _ (b : ℕ) (k : List ℕ) (e : zero_right_def φ n nodes b k ≡ true) where
    pub bit-free : (p i : ℕ) → p < φ.sums.body_bytes → i < 8 → implies (member (get_or k p 0) i) (free φ n nodes b p i) ≡ true
    unfolding zero_right_def
    bit-free p i l s = all-each 8 (λ i. implies (member (get_or k p 0) i) (free φ n nodes b p i)) (all-each φ.sums.body_bytes (λ p. all_below 8 (λ i. implies (member (get_or k p 0) i) (free φ n nodes b p i))) e p l) i s

    pub bit-clear : (p i : ℕ) → p < φ.sums.body_bytes → i < 8 → free φ n nodes b p i ≡ false → member (get_or k p 0) i ≡ false
    bit-clear p i l s f = clear (member (get_or k p 0) i) (free φ n nodes b p i) f (bit-free p i l s)

    pub byte-clear : (p : ℕ) → p < φ.sums.body_bytes → get_or k p 0 < 256 → ((i : ℕ) → free φ n nodes b p i ≡ false) → get_or k p 0 ≡ 0
    byte-clear p l small f = byte-ext (get_or k p 0) 0 small (omega arith) (λ i s. bit-clear p i l s (f i) ∙ sym (member-zero i))

    -- bit i of word j
    pub word-bit-clear : (j i : ℕ) → 16 + 8 * suc j ≤ φ.sums.body_bytes → ((p r : ℕ) → p ≡ 16 + 8 * j + i / 8 → r ≡ i % 8 → i < 64 → free φ n nodes b p r ≡ false) → bit_in k (16 + 8 * j) i ≡ false
    word-bit-clear j i l f = guarded i 64 _ false (λ s. bit-clear (16 + 8 * j + i / 8) (i % 8) (omega arith) (omega arith) (f (16 + 8 * j + i / 8) (i % 8) refl refl s)) (λ s. refl)

  -- a block that is zero outside its head and its m words, with only bits there that may be set, passes question 4
  module _ (b : ℕ) (k : List ℕ) (m : ℕ)
      (gap : (p : ℕ) → 3 ≤ p → p < φ.sums.body_bytes → (p < 16) ⊎ (16 + 8 * m ≤ p) → get_or k p 0 ≡ 0)
      (words : (p i : ℕ) → 16 ≤ p → p < 16 + 8 * m → i < 8 → implies (member (get_or k p 0) i) (free φ n nodes b p i) ≡ true) where
    bit-right : (p i : ℕ) → p < φ.sums.body_bytes → i < 8 → Dec (p < 3) → Dec (p < 16) → Dec (p < 16 + 8 * m) → implies (member (get_or k p 0) i) (free φ n nodes b p i) ≡ true
    bit-right p i l s (yes x) d e = rw (head-free b p i x, or-true)
    bit-right p i l s (no x) (yes d) e = if-clear _ _ (no-bit _ i (gap p (omega arith) l (inl d)))
    bit-right p i l s (no x) (no d) (yes e) = words p i (omega arith) e s
    bit-right p i l s (no x) (no d) (no e) = if-clear _ _ (no-bit _ i (gap p (omega arith) l (inr (omega arith))))

    pub zeros-right : zero_right_def φ n nodes b k ≡ true
    zeros-right = unfold zero_right_def in all_true φ.sums.body_bytes _ (λ p l. all_true 8 _ (λ i s. bit-right p i l s (dec_lt p 3) (dec_lt p 16) (dec_lt p (16 + 8 * m))))
