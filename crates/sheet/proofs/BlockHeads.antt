-- Bytes 0 to 2 of a block: what question 3 says about them, and the three as one number.
use mathlib.Core.Path.{◌≡◌, refl, sym, ◌∙◌}
use mathlib.Core.Bool.{Bool, true, false, ◌&&◌, and-eq-true_iff}
use mathlib.Core.List.{List, [], ◌∷◌}
use Prim.Native.Nat.{ℕ, zero, suc, ◌+◌, ◌*◌, ◌%◌, ◌≤◌, ◌<◌}
use native.Mathlib.Omega.{arith}
use borrow.Author.Tests.{eq-eqb, eqb-true, leb-true}
use lib.Dec.{eqb, leb}
use lib.ListN.{length, get_or}
use Rattle.logic.specs.Graph.{any_below}
use Rattle.logic.specs.Limits.{max_nodes}
use Rattle.bitset.specs.Words.{Bytes, word_at}
use Rattle.bitset.proofs.WordLaws.{sum_of_bytes, loaded}
use Rattle.seal.specs.Seal.{block_bytes}
use Rattle.sheet.specs.Sheet.{SheetForm, block_count, used_in}
use Rattle.sheet.specs.Questions.{node_count_right, head_right_def}
use Rattle.sheet.proofs.ZeroLaws.{same_test}

-- three bytes, by their tests and by their places
module _ (k : List ℕ) (x y z : ℕ) where
  told-bytes : (eqb (get_or k 0 0) x && (eqb (get_or k 1 0) y && eqb (get_or k 2 0) z)) ≡ true → (get_or k 0 0 ≡ x) × (get_or k 1 0 ≡ y) × (get_or k 2 0 ≡ z)
  told-bytes e =
      let a = (and-eq-true_iff (eqb (get_or k 0 0) x) _).0 e in
      let b = (and-eq-true_iff (eqb (get_or k 1 0) y) (eqb (get_or k 2 0) z)).0 a.1 in
      (eqb-true _ _ a.0, eqb-true _ _ b.0, eqb-true _ _ b.1)

  pub head_bytes : get_or k 0 0 ≡ x → get_or k 1 0 ≡ y → get_or k 2 0 ≡ z → (p : ℕ) → p < 3 → get_or k p 0 ≡ get_or (x ∷ y ∷ z ∷ []) p 0
  head_bytes a b c zero l = a
  head_bytes a b c (suc zero) l = b
  head_bytes a b c (suc (suc zero)) l = c
  head_bytes a b c (suc (suc (suc p))) l = absurd (omega arith)

-- question 3, for block 0 and for a later block
module _ (φ : SheetForm) (k : List ℕ) where
  pub record FirstHead : Type 0 where
    pub byte-0 : get_or k 0 0 ≡ 1
    pub byte-1 : get_or k 1 0 ≡ 0
    pub some : 1 ≤ get_or k 2 0
    pub few : get_or k 2 0 ≤ max_nodes
    pub used : any_below (get_or k 2 0) (used_in φ k) ≡ true

  pub first_head : head_right_def φ 0 k ≡ true → FirstHead
  unfolding head_right_def
  first_head e =
      let a = (and-eq-true_iff (eqb (get_or k 0 0) 1) _).0 e in
      let b = (and-eq-true_iff (eqb (get_or k 1 0) 0) _).0 a.1 in
      let c = (and-eq-true_iff (node_count_right (get_or k 2 0)) (any_below (get_or k 2 0) (used_in φ k))).0 b.1 in
      let d = (and-eq-true_iff (leb 1 (get_or k 2 0)) (leb (get_or k 2 0) max_nodes)).0 c.0 in
      record { byte-0 = eqb-true _ _ a.0; byte-1 = eqb-true _ _ b.0; some = leb-true _ _ d.0; few = leb-true _ _ d.1; used = c.1 }

  pub later-head : (a : ℕ) → head_right_def φ (suc a) k ≡ true → (get_or k 0 0 ≡ 2) × (get_or k 1 0 ≡ suc a) × (get_or k 2 0 ≡ 0)
  later-head a e = unfold head_right_def in told-bytes k 2 (suc a) 0 e

module _ (k : List ℕ) (h : length k ≡ block_bytes) (small : Bytes k) where
  pub head-number : (r : ℕ) → r ≡ word_at k 0 → r % 0x1000000 ≡ get_or k 0 0 + get_or k 1 0 * 0x100 + get_or k 2 0 * 0x10000
  head-number r e = unfold sum_of_bytes in omega (arith, e, loaded k 0 (sum_of_bytes k 0) (omega (arith, h)) refl, small 0, small 1, small 2)

  -- such a number determines the bytes
  pub number-told : (b : ℕ) → b < block_count → get_or k 0 0 + get_or k 1 0 * 0x100 + get_or k 2 0 * 0x10000 ≡ 2 + 0x100 * b → (get_or k 0 0 ≡ 2) × (get_or k 1 0 ≡ b) × (get_or k 2 0 ≡ 0)
  number-told b l w = omega (arith, small 0, small 1, small 2)

  module _ (r : ℕ) (e : r ≡ word_at k 0) where
    -- it is not the head of block 0
    pub not_first : (x : Bool) → (r % 0x1000000 % 0x10000 ≡ 1 → ⊥) → (eqb (get_or k 0 0) 1 && (eqb (get_or k 1 0) 0 && x)) ≡ false
    not_first x n = go (eqb (get_or k 0 0) 1) (eqb (get_or k 1 0) 0) refl refl where
      go : (a b : Bool) → eqb (get_or k 0 0) 1 ≡ a → eqb (get_or k 1 0) 0 ≡ b → (a && (b && x)) ≡ false
      go true true p q = absurd (n (omega (arith, head-number r e, eqb-true (get_or k 0 0) 1 p, eqb-true (get_or k 1 0) 0 q, small 2)))
      go true false p q = refl
      go false b p q = refl

    -- a later block
    pub later : (b : ℕ) → b < block_count → eqb (r % 0x1000000) (2 + 0x100 * b) ≡ (eqb (get_or k 0 0) 2 && (eqb (get_or k 1 0) b && eqb (get_or k 2 0) 0))
    later b l = same_test _ _ told says where
      told : eqb (r % 0x1000000) (2 + 0x100 * b) ≡ true → (eqb (get_or k 0 0) 2 && (eqb (get_or k 1 0) b && eqb (get_or k 2 0) 0)) ≡ true
      told q =
          let (x, y, z) = number-told b l (sym (head-number r e) ∙ eqb-true _ _ q) in
          rw (eq-eqb (get_or k 0 0) 2 x, eq-eqb (get_or k 1 0) b y, eq-eqb (get_or k 2 0) 0 z) refl

      says : (eqb (get_or k 0 0) 2 && (eqb (get_or k 1 0) b && eqb (get_or k 2 0) 0)) ≡ true → eqb (r % 0x1000000) (2 + 0x100 * b) ≡ true
      says q =
          let (x, y, z) = told-bytes k 2 b 0 q in
          eq-eqb _ _ (head-number r e ∙ omega (arith, x, y, z))
