-- What joining the second's words to the first's does to the blocks of two stored sheets.
use mathlib.Core.Logic.{◌≢◌}
use mathlib.Core.Path.{◌≡◌, refl, sym, ap, ap₂, ◌∙◌}
use mathlib.Core.Bool.{Bool, true, false, cond}
use mathlib.Core.List.{List, ◌++◌}
use Prim.Native.Nat.{ℕ, zero, suc, ◌+◌, ◌-◌, ◌*◌, ◌^◌, ◌≤◌, ◌<◌}
use native.Mathlib.Nat.{lt_of_lt_of_le}
use native.Mathlib.Decide.{dec_lt}
use native.Mathlib.Omega.{arith}
use borrow.Author.Tests.{lt-ltb, le-ltb}
use lib.Dec.{ltb}
use lib.ListN.{length, get_or, set, replicate}
use lib.Pow.{pow_mono}
use Rattle.logic.specs.Graph.{Graph, Nodes}
use Rattle.logic.specs.Limits.{Within, max_nodes, label_count}
use Rattle.logic.proofs.Inside.{no_node}
use Rattle.bitset.specs.Words.{set_of, bytes, word_at, put_word_def}
use Rattle.bitset.proofs.SetLaws.{set_of-lt, set_of-cong}
use Rattle.bitset.proofs.WordLaws.{word_at-of}
use Rattle.seal.specs.Seal.{block_bytes, Form, seal, sealed, reseal}
use Rattle.sheet.specs.Sheet.{present, block, line_of, line_count, label_block, arrow_block, padding}
use Rattle.sheet.proofs.BlockLaws.{body_of, word_byte, label_head, label_word, arrow_head, row_word_def, length-label_block, length-arrow_block, labels-fit, rows_fit}
use Rattle.sheet.proofs.WriteLaws.{raw, put-raw, seal-raw}
use Rattle.sheet.proofs.ChunkLaws.{chunks-same}
use Rattle.join_sheets.specs.Joined.{side_by_side, pairs_by_side, joined_graph}
use Rattle.join_sheets.specs.BesideWrites.{beside, put_beside_def}
use Rattle.join_sheets.proofs.Shifts.{beside-sets, first_alone, neither}

abbrev φ : Form
φ = present.sums

-- word j of a block
block-word : (head : List ℕ) (m : ℕ) (f : ℕ → ℕ) → length head ≡ 3 → 16 + 8 * m ≤ φ.body_bytes → length (block φ head m f) ≡ block_bytes → (j : ℕ) → j < m → f j < 2 ^ 64 → word_at (block φ head m f) (16 + 8 * j) ≡ f j
block-word head m f h fits len j l small =
    word_at-of (block φ head m f) (16 + 8 * j) (f j) (omega arith) small
    (λ b k. let e : 16 + 8 * j + b ≡ 16 + (8 * j + b) = omega arith in ap (λ p. get_or (block φ head m f) p 0) e ∙ word_byte φ head m f h fits j b l k)

set-small : (n : ℕ) (v : Nodes) → n ≤ max_nodes → set_of n v < 2 ^ 64
set-small n v h = let m : n ≤ 64 = omega arith in lt_of_lt_of_le (set_of-lt n v) (pow_mono m)

-- The words of a block f when i words e of another, raised by n, are joined to them from word `at` on.
module _ (at n : ℕ) (f e : ℕ → ℕ) where
  abbrev mixed : ℕ → ℕ → ℕ
  mixed i j = cond (ltb j at) (f j) (cond (ltb j (at + i)) (beside n (f j) (e (j - at))) (f j))

  mixed-before : (i j : ℕ) → j < at → mixed i j ≡ f j
  mixed-before i j l = rw (lt-ltb j at l)

  mixed-at : (i j : ℕ) → at ≤ j → j < at + i → mixed i j ≡ beside n (f j) (e (j - at))
  mixed-at i j l u = rw (le-ltb j at l, lt-ltb j (at + i) u)

  mixed-behind : (i j : ℕ) → at + i ≤ j → mixed i j ≡ f j
  mixed-behind i j l = rw (le-ltb j at (omega arith), le-ltb j (at + i) l)

  module _ (head : List ℕ) (h3 : length head ≡ 3) (m : ℕ) (c k other : List ℕ) (is : k ≡ raw φ head m f c) (own : (j : ℕ) → j < m → word_at k (16 + 8 * j) ≡ f j) where
    pub put-mixed : (i : ℕ) → at + i ≤ m → ((j : ℕ) → j < i → word_at other (16 + 8 * j) ≡ e j) → put_beside_def at n other i k ≡ raw φ head m (mixed i) c
    unfolding put_beside_def
    put-mixed zero l others = is ∙ ap (λ w. (head ++ replicate 13 0 ++ w ++ replicate (padding φ m) 0) ++ c) (chunks-same m 0 _ _ (λ j a b. ap (bytes 8) (go j (dec_lt j at)))) where
      go : (j : ℕ) → Dec (j < at) → f j ≡ mixed 0 j
      go j (yes u) = sym (mixed-before 0 j u)
      go j (no u) = sym (mixed-behind 0 j (omega arith))
    put-mixed (suc i) l others =
        let d : i ≡ (at + i) - at = omega arith in
        ap (λ y. put_word_def y (16 + 8 * (at + i)) (beside n (word_at k (16 + 8 * (at + i))) (word_at other (16 + 8 * i)))) (put-mixed i (omega arith) (λ j u. others j (omega arith)))
        ∙ put-raw φ head h3 m c (mixed i) (mixed (suc i)) (at + i) _ (omega arith)
        (mixed-at (suc i) (at + i) (omega arith) (omega arith) ∙ sym (ap₂ (beside n) (own (at + i) (omega arith)) (others i (omega arith) ∙ ap e d)))
        (λ j u q. go j q (dec_lt j at) (dec_lt j (at + i))) where
          go : (j : ℕ) → j ≢ at + i → Dec (j < at) → Dec (j < at + i) → mixed i j ≡ mixed (suc i) j
          go j q (yes a) b = mixed-before i j a ∙ sym (mixed-before (suc i) j a)
          go j q (no a) (yes b) = mixed-at i j (omega arith) b ∙ sym (mixed-at (suc i) j (omega arith) (omega arith))
          go j q (no a) (no b) = mixed-behind i j (omega arith) ∙ sym (mixed-behind (suc i) j (omega (arith, q)))

same-words : (head : List ℕ) (m : ℕ) (f w : ℕ → ℕ) → ((j : ℕ) → j < m → f j ≡ w j) → block φ head m f ≡ block φ head m w
unfolding block
same-words head m f w e = ap (λ x. sealed φ (head ++ replicate 13 0 ++ x ++ replicate (padding φ m) 0)) (chunks-same m 0 _ _ (λ j a b. ap (bytes 8) (e j (omega arith))))

block-raw : (head : List ℕ) (m : ℕ) (f : ℕ → ℕ) → block φ head m f ≡ raw φ head m f (seal φ (body_of φ head m f))
block-raw head m f = unfold block sealed in refl

-- the words of the blocks of a stored sheet
module _ (g : Graph) (few : g.n ≤ max_nodes) where
  line_word : (k : ℕ) → k < line_count present → word_at (label_block present g) (16 + 8 * k) ≡ label_word g k
  unfolding label_block
  line_word k l = block-word (label_head g) (line_count present) (label_word g) refl (labels-fit present) (length-label_block present g) k l (set-small g.n (line_of g k) few)

  row_word : (a i : ℕ) → i < max_nodes → word_at (arrow_block present g a) (16 + 8 * i) ≡ row_word_def g a i
  unfolding arrow_block
  row_word a i l = block-word (arrow_head a) max_nodes (row_word_def g a) refl (rows_fit present) (length-arrow_block present g a) i l (set-small g.n (g.joined a i) few)

module _ (g h : Graph) (few : g.n + h.n ≤ max_nodes) where
  -- a line of the joined graph is the two lines side by side
  line-joined : (k : ℕ) → line_of (joined_graph g h) k ≡ side_by_side g.n (line_of g k) (line_of h k)
  unfolding joined_graph
  line-joined k = go (ltb k label_count) where
    go : (b : Bool) → cond b (side_by_side g.n (g.labelled k) (h.labelled k)) (side_by_side g.n g.in_use h.in_use) ≡ side_by_side g.n (cond b (g.labelled k) g.in_use) (cond b (h.labelled k) h.in_use)
    go true = refl
    go false = refl

  new_line : (k : ℕ) → k < line_count present → mixed 0 g.n (label_word g) (label_word h) (line_count present) k ≡ label_word (joined_graph g h) k
  unfolding joined_graph
  new_line k l =
      let z : k - 0 ≡ k = omega arith in
      mixed-at 0 g.n (label_word g) (label_word h) (line_count present) k (omega arith) (omega arith)
      ∙ rw (z, line-joined k) (beside-sets g.n h.n (line_of g k) (line_of h k) (omega arith))

  -- Block 0, with the total as its n.
  pub lines-joined : reseal φ (set (put_beside_def 0 g.n (label_block present h) (line_count present) (label_block present g)) 2 (g.n + h.n)) ≡ label_block present (joined_graph g h)
  unfolding label_block joined_graph
  lines-joined =
      let c : List ℕ = seal φ (body_of φ (label_head g) (line_count present) (label_word g)) in
      ap (λ y. reseal φ (set y 2 (g.n + h.n)))
      (put-mixed 0 g.n (label_word g) (label_word h) (label_head g) refl (line_count present) c (label_block present g) (label_block present h) (block-raw (label_head g) (line_count present) (label_word g)) (line_word g (omega arith)) (line_count present) (omega arith) (line_word h (omega arith)))
      ∙ seal-raw φ (label_head (joined_graph g h)) refl (line_count present) c (mixed 0 g.n (label_word g) (label_word h) (line_count present)) (labels-fit present)
      ∙ same-words (label_head (joined_graph g h)) (line_count present) _ _ new_line

  module _ (v : Within g) (w : Within h) (a : ℕ) where
    -- rows from n on are empty in the first
    beyond : (i j : ℕ) → g.n ≤ i → g.joined a i j ≡ false
    beyond i j l = (v.arrows_in a).starts i j (no_node g i l)

    new_row : (i : ℕ) → mixed g.n g.n (row_word_def g a) (row_word_def h a) h.n i ≡ row_word_def (joined_graph g h) a i
    unfolding joined_graph pairs_by_side
    new_row i = go (dec_lt i g.n) (dec_lt i (g.n + h.n)) where
      go : Dec (i < g.n) → Dec (i < g.n + h.n) → mixed g.n g.n (row_word_def g a) (row_word_def h a) h.n i ≡ set_of (g.n + h.n) (pairs_by_side g.n (g.joined a) (h.joined a) i)
      go (yes p) q = rw (lt-ltb i g.n p) (first_alone g.n h.n (g.joined a i))
      go (no p) (yes q) =
          rw (le-ltb i g.n (omega arith), lt-ltb i (g.n + h.n) q, set_of-cong g.n (g.joined a i) (λ j. false) (λ j u. beyond i j (omega arith)))
          (beside-sets g.n h.n (λ j. false) (h.joined a (i - g.n)) (omega arith))
      go (no p) (no q) =
          rw (le-ltb i g.n (omega arith), le-ltb i (g.n + h.n) (omega arith))
          (neither g.n h.n (λ j. false) (h.joined a (i - g.n)) (g.joined a i) (λ j. beyond i j (omega arith)) (λ j. refl) (λ j. (w.arrows_in a).starts (i - g.n) j (no_node h (i - g.n) (omega arith))))

    -- The block of arrow a.
    pub rows-joined : reseal φ (put_beside_def g.n g.n (arrow_block present h a) h.n (arrow_block present g a)) ≡ arrow_block present (joined_graph g h) a
    unfolding arrow_block
    rows-joined =
        let c : List ℕ = seal φ (body_of φ (arrow_head a) max_nodes (row_word_def g a)) in
        ap (reseal φ)
        (put-mixed g.n g.n (row_word_def g a) (row_word_def h a) (arrow_head a) refl max_nodes c (arrow_block present g a) (arrow_block present h a) (block-raw (arrow_head a) max_nodes (row_word_def g a)) (row_word g (omega arith) a) h.n (omega arith) (λ i l. row_word h (omega arith) a i (omega arith)))
        ∙ seal-raw φ (arrow_head a) refl max_nodes c (mixed g.n g.n (row_word_def g a) (row_word_def h a) h.n) (rows_fit present)
        ∙ same-words (arrow_head a) max_nodes _ _ (λ i l. new_row i)
