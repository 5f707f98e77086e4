-- Question 4 by bytes and masks, as the code asks it, is the same as question 4 by bits.
use mathlib.Core.Path.{◌≡◌, refl, sym, ap, ap₂, ◌∙◌}
use mathlib.Core.Bool.{Bool, true, false, not, ◌&&◌, cond, and-eq-true_iff}
use mathlib.Core.List.{List}
use mathlib.Core.Logic.{◌⊎◌, inl, inr, ⊎_elim}
use Prim.Native.Nat.{ℕ, zero, suc, ◌+◌, ◌-◌, ◌*◌, ◌/◌, ◌%◌, ◌≤◌, ◌<◌}
use native.Mathlib.Omega.{arith}
use native.Mathlib.Decide.{dec_lt}
use borrow.Author.Tests.{eq-eqb, eqb-true, lt-ltb, le-leb, le-ltb}
use lib.Dec.{eqb, ltb}
use lib.ListN.{get_or}
use Rattle.logic.specs.Graph.{Nodes, all_below, implies}
use Rattle.logic.specs.Limits.{max_nodes, label_count}
use Rattle.logic.proofs.Below.{all-cong, all_true, all-each, none-outside}
use Rattle.bitset.specs.Words.{Bytes, set_of, member, word_at}
use Rattle.bitset.proofs.SetLaws.{set_of-empty, set_of-none, member-set_of}
use Rattle.bitset.proofs.WordLaws.{member-word_at}
use Rattle.seal.specs.Seal.{Form}
use Rattle.sheet.specs.Questions.{free, zero_right_def}
use Rattle.sheet.specs.Masks.{word_count, zeros_at, within, zero_but, line_mask, row_mask}
use Rattle.sheet.specs.Sheet.{padding, SheetForm, line_count}
use Rattle.sheet.proofs.FreeBits.{if-clear, clear, bit-of-word, label-gap, arrow-gap, bit-free, byte-clear, zeros-right}
use Rattle.sheet.proofs.BlockLaws.{label-lines, few-lines}

-- two tests that pass together are the same
pub same_test : (a b : Bool) → (a ≡ true → b ≡ true) → (b ≡ true → a ≡ true) → a ≡ b
same_test true b f g = sym (f refl)
same_test false true f g = g refl
same_test false false f g = refl

-- bytes from `at` on that are all zero
module _ (k : List ℕ) (at m : ℕ) where
  pub zeros-are : ((j : ℕ) → j < m → get_or k (at + j) 0 ≡ 0) → zeros_at k at m ≡ true
  zeros-are z = unfold zeros_at in all_true m _ (λ j l. eq-eqb _ _ (z j l))

  pub zero-at : zeros_at k at m ≡ true → (p : ℕ) → at ≤ p → p < at + m → get_or k p 0 ≡ 0
  unfolding zeros_at
  zero-at e p l u =
      let s : at + (p - at) ≡ p = omega arith in
      ap (λ x. get_or k x 0) (sym s) ∙ eqb-true _ _ (all-each m (λ j. eqb (get_or k (at + j) 0) 0) e (p - at) (omega arith))

-- the three tests of a block by its masks
pub but-parts : (φ : Form) (mask : ℕ → ℕ) (k : List ℕ) → zero_but φ mask k ≡ true
    → (zeros_at k 3 13 ≡ true) × (all_below word_count (λ j. within k (mask j) j) ≡ true) × (zeros_at k (16 + 8 * word_count) (padding φ word_count) ≡ true)
unfolding zero_but
but-parts φ mask k e =
    let a = (and-eq-true_iff (zeros_at k 3 13) _).0 e in
    let b = (and-eq-true_iff (all_below word_count (λ j. within k (mask j) j)) _).0 a.1 in
    (a.0, b.0, b.1)

-- a word within its mask, bit by bit
module _ (k : List ℕ) (bytes : Bytes k) (node : Nodes) (j : ℕ) (h : j < word_count) where
  abbrev word : Nodes
  word = member (word_at k (16 + 8 * j))

  abbrev mask : Nodes
  mask = member (set_of 64 node)

  within-is : within k (set_of 64 node) j ≡ all_below 64 (λ r. implies (word r) (mask r))
  within-is = unfold within in set_of-empty 64 (λ r. word r && not (mask r)) ∙ none-outside 64 word mask

  bit_is : (r : ℕ) → r < 64 → implies (word r) (mask r) ≡ implies (member (get_or k (16 + 8 * j + r / 8) 0) (r % 8)) (node r)
  bit_is r l = ap₂ implies (member-word_at k (16 + 8 * j) r bytes l) (member-set_of 64 node r l)

  within-bits : within k (set_of 64 node) j ≡ true → (r : ℕ) → r < 64 → implies (member (get_or k (16 + 8 * j + r / 8) 0) (r % 8)) (node r) ≡ true
  within-bits e r l = sym (bit_is r l) ∙ all-each 64 (λ r. implies (word r) (mask r)) (sym within-is ∙ e) r l

  bits-within : ((r : ℕ) → r < 64 → implies (member (get_or k (16 + 8 * j + r / 8) 0) (r % 8)) (node r) ≡ true) → within k (set_of 64 node) j ≡ true
  bits-within e = within-is ∙ all_true 64 (λ r. implies (word r) (mask r)) (λ r l. bit_is r l ∙ e r l)

-- a word without members has no bits, and is within every mask
pub word-clear : (k : List ℕ) → Bytes k → (j : ℕ) → j < word_count → within k 0 j ≡ true → (r : ℕ) → r < 64 → member (get_or k (16 + 8 * j + r / 8) 0) (r % 8) ≡ false
word-clear k bytes j h e r l = clear (member (get_or k (16 + 8 * j + r / 8) 0) (r % 8)) false refl (within-bits k bytes (λ i. false) j h (ap (λ (m : ℕ). within k m j) (set_of-none 64) ∙ e) r l)

pub within_none : (k : List ℕ) → Bytes k → (node : Nodes) (j : ℕ) → j < word_count → within k 0 j ≡ true → within k (set_of 64 node) j ≡ true
within_none k bytes node j h e = bits-within k bytes node j h (λ r l. if-clear (member (get_or k (16 + 8 * j + r / 8) 0) (r % 8)) (node r) (word-clear k bytes j h e r l))

module _ (φ : SheetForm) where
  -- a block in which bits may be set exactly where the masks have them
  module _ (k : List ℕ) (bytes : Bytes k) (n : ℕ) (nodes : Nodes) (b : ℕ) (masks : ℕ → Nodes)
      (gap : (p i : ℕ) → 3 ≤ p → (p < 16) ⊎ (16 + 8 * word_count ≤ p) → free φ n nodes b p i ≡ false)
      (inner : (p i : ℕ) → 16 ≤ p → p < 16 + 8 * word_count → free φ n nodes b p i ≡ masks ((p - 16) / 8) (p % 8 * 8 + i)) where
    module _ (e : zero_right_def φ n nodes b k ≡ true) where
      gap-zero : (p : ℕ) → 3 ≤ p → p < φ.sums.body_bytes → (p < 16) ⊎ (16 + 8 * word_count ≤ p) → get_or k p 0 ≡ 0
      gap-zero p l u w = byte-clear φ n nodes b k e p u (bytes p) (λ i. gap p i l w)

      word-right : (j : ℕ) → j < word_count → within k (set_of 64 (masks j)) j ≡ true
      word-right j l = bits-within k bytes (masks j) j (omega arith) (λ r h.
          let at_row : (16 + 8 * j + r / 8 - 16) / 8 ≡ j = omega arith in
          let at-node : (16 + 8 * j + r / 8) % 8 * 8 + r % 8 ≡ r = omega arith in
          ap (implies (member (get_or k (16 + 8 * j + r / 8) 0) (r % 8))) (sym (inner (16 + 8 * j + r / 8) (r % 8) (omega arith) (omega arith) ∙ ap₂ masks at_row at-node))
          ∙ bit-free φ n nodes b k e (16 + 8 * j + r / 8) (r % 8) (omega arith) (omega arith))

      asks : zero_but φ.sums (λ j. set_of 64 (masks j)) k ≡ true
      unfolding zero_but
      asks =
          ap₂ ◌&&◌ (zeros-are k 3 13 (λ j l. gap-zero (3 + j) (omega arith) (omega arith) (inl (omega arith))))
          (ap₂ ◌&&◌ (all_true word_count _ word-right) (zeros-are k (16 + 8 * word_count) (padding φ.sums word_count) (λ j l. gap-zero (16 + 8 * word_count + j) (omega arith) (omega arith) (inr (omega arith)))))

    module _ (e : zero_but φ.sums (λ j. set_of 64 (masks j)) k ≡ true) where
      parts : (zeros_at k 3 13 ≡ true) × (all_below word_count (λ j. within k (set_of 64 (masks j)) j) ≡ true) × (zeros_at k (16 + 8 * word_count) (padding φ.sums word_count) ≡ true)
      parts = but-parts φ.sums (λ j. set_of 64 (masks j)) k e

      word-bits : (p i : ℕ) → 16 ≤ p → p < 16 + 8 * word_count → i < 8 → implies (member (get_or k p 0) i) (free φ n nodes b p i) ≡ true
      word-bits p i l u s =
          let r : ℕ = p % 8 * 8 + i in
          ap (implies (member (get_or k p 0) i)) (inner p i l u)
          ∙ ap (λ x. implies x (masks ((p - 16) / 8) r)) (bit-of-word k p i l s)
          ∙ within-bits k bytes (masks ((p - 16) / 8)) ((p - 16) / 8) (omega arith) (all-each word_count (λ j. within k (set_of 64 (masks j)) j) parts.1 ((p - 16) / 8) (omega arith)) r (omega arith)

      answered : zero_right_def φ n nodes b k ≡ true
      answered =
          zeros-right φ n nodes b k word_count
          (λ p l u w. ⊎_elim (λ a. zero-at k 3 13 parts.0 p l (omega arith)) (λ a. zero-at k (16 + 8 * word_count) (padding φ.sums word_count) parts.2 p a (omega arith)) w)
          word-bits

    by-masks : zero_but φ.sums (λ j. set_of 64 (masks j)) k ≡ zero_right_def φ n nodes b k
    by-masks = same_test _ _ answered asks

  -- the masks that the code has
  module _ (k : List ℕ) (bytes : Bytes k) (n : ℕ) (nodes : Nodes) (b all : ℕ) (is_all : all ≡ set_of 64 nodes) where
    by_mask : (mask : ℕ → ℕ) (masks : ℕ → Nodes) → ((j : ℕ) → j < word_count → mask j ≡ set_of 64 (masks j)) → zero_but φ.sums mask k ≡ zero_but φ.sums (λ j. set_of 64 (masks j)) k
    unfolding zero_but
    by_mask mask masks e = ap (λ c. zeros_at k 3 13 && (c && zeros_at k (16 + 8 * word_count) (padding φ.sums word_count))) (all-cong word_count _ _ (λ j l. ap (λ (m : ℕ). within k m j) (e j l)))

    -- of block 0
    abbrev line_masks : ℕ → Nodes
    line_masks j i = cond (ltb j label_count) (nodes i) (ltb j (line_count φ) && ltb i n)

    pub masks-first : b ≡ 0 → zero_but φ.sums (line_mask φ n all) k ≡ zero_right_def φ n nodes b k
    unfolding free
    masks-first e =
        by_mask (line_mask φ n all) line_masks (λ j l. masks j (ltb j label_count) (ltb j (line_count φ)))
        ∙ by-masks k bytes n nodes 0 line_masks (λ p i l w. label-gap φ n nodes p i l (⊎_elim (λ u. inl u) (λ u. inr (omega (arith, few-lines φ))) w))
        (λ p i l u. inner p i l (dec_lt p (16 + 8 * label_count)) (dec_lt p (16 + 8 * line_count φ)))
        ∙ ap (λ x. zero_right_def φ n nodes x k) (sym e) where
          masks : (j : ℕ) (c d : Bool) → cond c all (cond d (set_of 64 (λ i. ltb i n)) 0) ≡ set_of 64 (λ i. cond c (nodes i) (d && ltb i n))
          masks j true d = is_all
          masks j false true = refl
          masks j false false = sym (set_of-none 64)

          inner : (p i : ℕ) → 16 ≤ p → Dec (p < 16 + 8 * label_count) → Dec (p < 16 + 8 * line_count φ) → free φ n nodes 0 p i ≡ line_masks ((p - 16) / 8) (p % 8 * 8 + i)
          inner p i l (yes u) d = rw (le-ltb p 3 (omega arith), le-leb 16 p l, lt-ltb p (16 + 8 * label_count) u, lt-ltb p (16 + 8 * line_count φ) (omega (arith, label-lines φ)), lt-ltb ((p - 16) / 8) label_count (omega arith))
          inner p i l (no u) (yes d) = rw (le-ltb p 3 (omega arith), le-leb 16 p l, le-ltb p (16 + 8 * label_count) (omega arith), lt-ltb p (16 + 8 * line_count φ) d, le-ltb ((p - 16) / 8) label_count (omega arith), lt-ltb ((p - 16) / 8) (line_count φ) (omega arith))
          inner p i l (no u) (no d) = rw (le-ltb p 3 (omega arith), le-leb 16 p l, le-ltb p (16 + 8 * label_count) (omega arith), le-ltb p (16 + 8 * line_count φ) (omega arith), le-ltb ((p - 16) / 8) label_count (omega arith), le-ltb ((p - 16) / 8) (line_count φ) (omega arith))

    -- of a later block
    pub masks-later : (b ≡ 0 → ⊥) → ((i : ℕ) → max_nodes ≤ i → nodes i ≡ false) → zero_but φ.sums (row_mask all) k ≡ zero_right_def φ n nodes b k
    unfolding free
    masks-later e few = by_mask (row_mask all) (λ j i. nodes j && nodes i) (λ j l. ap (λ c. cond c all 0) (ap (λ x. member x j) is_all ∙ member-set_of 64 nodes j (omega arith)) ∙ masks (nodes j)) ∙ go b e
      where
        masks : (c : Bool) → cond c all 0 ≡ set_of 64 (λ i. c && nodes i)
        masks true = is_all
        masks false = sym (set_of-none 64)

        inner : (a p i : ℕ) → 16 ≤ p → Dec (p < 16 + 8 * max_nodes) → free φ n nodes (suc a) p i ≡ (nodes ((p - 16) / 8) && nodes (p % 8 * 8 + i))
        inner a p i l (yes u) = rw (le-ltb p 3 (omega arith), le-leb 16 p l, lt-ltb p (16 + 8 * max_nodes) u)
        inner a p i l (no u) = rw (le-ltb p 3 (omega arith), le-leb 16 p l, le-ltb p (16 + 8 * max_nodes) (omega arith), few ((p - 16) / 8) (omega arith))

        go : (b : ℕ) → (b ≡ 0 → ⊥) → zero_but φ.sums (λ j. set_of 64 (λ i. nodes j && nodes i)) k ≡ zero_right_def φ n nodes b k
        go zero e = absurd (e refl)
        go (suc a) e =
            by-masks k bytes n nodes (suc a) (λ j i. nodes j && nodes i) (λ p i l w. arrow-gap φ n nodes a p i l (⊎_elim (λ u. inl u) (λ u. inr (omega arith)) w))
            (λ p i l u. inner a p i l (dec_lt p (16 + 8 * max_nodes)))
