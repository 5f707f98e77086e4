-- An arrow block without a row: its check bytes follow from its number, and it passes questions 2 to 4 whatever the nodes.
use mathlib.Core.Path.{◌≡◌, refl, sym, ap, ap₂, ◌∙◌}
use mathlib.Core.Bool.{Bool, true, false, not, ◌&&◌, and-false, and-eq-true_iff}
use mathlib.Core.List.{List, ◌∷◌}
use Prim.Native.Nat.{ℕ, ◌+◌, ◌-◌, ◌*◌, ◌/◌, ◌%◌, ◌≤◌, ◌<◌}
use native.Mathlib.Decide.{dec_lt}
use native.Mathlib.Omega.{arith}
use borrow.Author.Tests.{eqb-true, eqb-false, eq-eqb, ne_eqb, not-true}
use lib.Bits.{bit_or}
use lib.Dec.{eqb}
use lib.ListN.{length, get_or, take, replicate}
use Rattle.answer.specs.Asked.{passed}
use Rattle.logic.specs.Graph.{Nodes, all_below}
use Rattle.logic.proofs.Below.{all-each}
use Rattle.bitset.specs.Words.{Bytes, word_at}
use Rattle.bitset.proofs.SetLaws.{member-zero}
use Rattle.seal.specs.Seal.{block_bytes, modulo257, seal_of, seal_right_def}
use Rattle.seal.specs.declared.Modulo.{Modulo}
use Rattle.seal.specs.declared.Modulo.TheVariants.{M257, M255}
use Rattle.seal.proofs.SealLaws.{two-and-zeros}
use Rattle.sheet.specs.Sheet.{block_count, padding, SheetForm}
use Rattle.sheet.specs.SheetForms.{form_in}
use Rattle.sheet.specs.Questions.{head_right_def, ask_block_def}
use Rattle.sheet.specs.Masks.{word_count, blank_in, zeros_at, within, zero_but, Outside, Edges}
use Rattle.sheet.proofs.SheetQuestionLaws.{block-right, head-later}
use Rattle.sheet.proofs.FreeBits.{byte-ext, bit-of-word, zeros-right}
use Rattle.sheet.proofs.MaskLaws.{all-zero}
use Rattle.sheet.proofs.ZeroLaws.{zero-at, but-parts, word-clear}
use Rattle.sheet.proofs.BlockHeads.{head-number, number-told}

-- what is not such a block: block 0, one with another head
module _ (k : List ℕ) (b : ℕ) where
  pub not-block-0 : (sums : Modulo) → b ≡ 0 → blank_in sums b k ≡ false
  unfolding blank_in
  not-block-0 M257 e = rw (eq-eqb b 0 e) refl
  not-block-0 M255 e = refl

  pub not-headed : (sums : Modulo) → (word_at k 0 ≡ 2 + 0x100 * b → ⊥) → blank_in sums b k ≡ false
  unfolding blank_in
  not-headed M257 ne = rw (ne_eqb (word_at k 0) (2 + 0x100 * b) ne) (and-false (not (eqb b 0)))
  not-headed M255 ne = refl

module _ (k : List ℕ) (small : Bytes k) where
  -- nothing after the first three bytes
  module _ (e : zero_but modulo257 (λ j. 0) k ≡ true) where
    parts : (zeros_at k 3 13 ≡ true) × (all_below word_count (λ j. within k 0 j) ≡ true) × (zeros_at k (16 + 8 * word_count) (padding modulo257 word_count) ≡ true)
    parts = but-parts modulo257 (λ j. 0) k e

    inner : (p : ℕ) → 16 ≤ p → p < 16 + 8 * word_count → get_or k p 0 ≡ 0
    inner p l u = byte-ext (get_or k p 0) 0 (small p) (omega arith) (λ i s.
        let empty = all-each word_count (λ j. within k 0 j) parts.1 ((p - 16) / 8) (omega arith) in
        bit-of-word k p i l s ∙ word-clear k small ((p - 16) / 8) (omega arith) empty (p % 8 * 8 + i) (omega arith) ∙ sym (member-zero i))

    zeros-behind : (p : ℕ) → 3 ≤ p → p < modulo257.body_bytes → get_or k p 0 ≡ 0
    zeros-behind p l u = go (dec_lt p 16) (dec_lt p (16 + 8 * word_count)) where
      go : Dec (p < 16) → Dec (p < 16 + 8 * word_count) → get_or k p 0 ≡ 0
      go (yes a) b = zero-at k 3 13 parts.0 p l (omega arith)
      go (no a) (yes b) = inner p (omega arith) b
      go (no a) (no b) = zero-at k (16 + 8 * word_count) (padding modulo257 word_count) parts.2 p (omega arith) (omega arith)

  -- what the code finds: e at the edges, r in the words
  pub zeros-are : (e r : ℕ) → Edges modulo257 k e → Outside k 0 word_count 0 r → eqb (bit_or e r) 0 ≡ zero_but modulo257 (λ j. 0) k
  zeros-are e r d o = all-zero k modulo257 (λ j. 0) e r d (record { none = λ z j l. o.none z j (omega arith) l; some = λ h. o.some (λ j a b. h j b) })

  module _ (h : length k ≡ block_bytes) (b : ℕ) (inside : b < block_count) where
    -- the head of an arrow block, from its first word
    module _ (w : word_at k 0 ≡ 2 + 0x100 * b) where
      head_bytes : (get_or k 0 0 ≡ 2) × (get_or k 1 0 ≡ b) × (get_or k 2 0 ≡ 0)
      head_bytes = number-told k h small b inside (sym (head-number k h small (word_at k 0) refl) ∙ omega (arith, w, inside))

      head-is : (φ : SheetForm) → (b ≡ 0 → ⊥) → head_right_def φ b k ≡ true
      head-is φ ne =
          head-later φ k b ne
          ∙ ap₂ ◌&&◌ (eq-eqb (get_or k 0 0) 2 head_bytes.0) (ap₂ ◌&&◌ (eq-eqb (get_or k 1 0) b head_bytes.1) (eq-eqb (get_or k 2 0) 0 head_bytes.2))

    -- what the code finds in the check bytes, if it goes on to the words
    pub blank-is : (sums : Modulo) → sums ≡ M257 → (b ≡ 0 → ⊥) → word_at k 0 ≡ 2 + 0x100 * b → (seal_of modulo257 (2 ∷ b ∷ replicate 506 0) k && zero_but modulo257 (λ j. 0) k) ≡ blank_in sums b k
    unfolding blank_in seal_right_def
    blank-is sums m ne w = go (zero_but modulo257 (λ j. 0) k) refl ∙ sym (ap (λ s. blank_in s b k) m ∙ rw (ne_eqb b 0 ne, eq-eqb (word_at k 0) (2 + 0x100 * b) w) refl) where
      behind : zero_but modulo257 (λ j. 0) k ≡ true → (p : ℕ) → Dec (p < 3) → 2 ≤ p → p < modulo257.body_bytes → get_or k p 0 ≡ 0
      behind e p (yes u) l s = let at : p ≡ 2 = omega arith in ap (λ x. get_or k x 0) at ∙ (head_bytes w).2
      behind e p (no u) l s = zeros-behind e p (omega arith) s

      bare : zero_but modulo257 (λ j. 0) k ≡ true → take modulo257.body_bytes k ≡ 2 ∷ b ∷ replicate 506 0
      bare e = two-and-zeros k h (λ p l s. behind e p (dec_lt p 3) l s) ∙ ap₂ (λ x y. x ∷ y ∷ replicate 506 0) (head_bytes w).0 (head_bytes w).1

      go : (z : Bool) → zero_but modulo257 (λ j. 0) k ≡ z → (seal_of modulo257 (2 ∷ b ∷ replicate 506 0) k && z) ≡ (seal_right_def modulo257 k && z)
      go true e = ap (λ body. seal_of modulo257 body k && true) (sym (bare e))
      go false e = and-false (seal_of modulo257 (2 ∷ b ∷ replicate 506 0) k) ∙ sym (and-false (seal_right_def modulo257 k))

    -- such a block passes
    pub blank-passes : (sums : Modulo) → blank_in sums b k ≡ true → (held : Bool) (n : ℕ) (nodes : Nodes) → ask_block_def (form_in sums held) n nodes b k ≡ passed tt
    unfolding blank_in
    blank-passes M257 e held n nodes =
        let a = (and-eq-true_iff (not (eqb b 0)) _).0 e in
        let c = (and-eq-true_iff (eqb (word_at k 0) (2 + 0x100 * b)) _).0 a.1 in
        let d = (and-eq-true_iff (seal_right_def modulo257 k) _).0 c.1 in
        block-right (form_in M257 held) n nodes b k d.0 (head-is (eqb-true _ _ c.0) (form_in M257 held) (eqb-false b 0 (not-true _ a.0)))
        (zeros-right (form_in M257 held) n nodes b k 0 (λ p l u w. zeros-behind d.1 p l u) (λ p i l u s. absurd (omega arith)))
    blank-passes M255 e held n nodes = let z : ◌≡◌ {A = ℕ} 0 1 = cc in absurd (omega arith)
