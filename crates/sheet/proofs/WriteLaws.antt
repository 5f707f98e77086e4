-- What writing words into a block of a stored sheet does to the sheet.
use mathlib.Core.Logic.{◌≢◌, ⊎_elim}
use mathlib.Core.Path.{◌≡◌, refl, sym, ap, ap₂, ◌∙◌}
use mathlib.Core.Bool.{Bool, true, false, cond}
use mathlib.Core.List.{List, ◌++◌, append_assoc}
use Prim.Native.Nat.{ℕ, zero, suc, ◌+◌, ◌-◌, ◌*◌, ◌≤◌, ◌<◌}
use native.Mathlib.Nat.{eq-or-lt_of_le}
use native.Mathlib.Omega.{arith}
use borrow.Author.Tests.{eqb-true, eqb-false}
use lib.Dec.{eqb, ltb}
use lib.ListN.{length, get_or, take, drop, replicate, length-append, length-replicate}
use lib.Seq.{take_at, drop_at}
use Rattle.logic.specs.Graph.{Graph, Nodes, Pairs}
use Rattle.logic.specs.Limits.{Within, PairsIn, max_nodes, label_count, arrow_count}
use Rattle.logic.specs.Closing.{with_use}
use Rattle.logic.specs.Steps.{update, relabel, rejoin}
use Rattle.logic.proofs.Tables.{update_same, update_other}
use Rattle.logic.proofs.Inside.{no_node}
use Rattle.bitset.specs.Words.{set_of, bytes, put_word_def}
use Rattle.bitset.proofs.SetLaws.{set_of-cong}
use Rattle.bitset.proofs.WordLaws.{length-bytes}
use Rattle.seal.specs.Seal.{sealed, reseal, block_bytes, Form}
use Rattle.sheet.specs.Sheet.{sheet_bytes, block_count, chunks, block, SheetForm, line_of, line_count, label_block, arrow_block, store_in, with_lines, relabel_all, Rows, padding}
use Rattle.sheet.specs.Questions.{block_of}
use Rattle.sheet.specs.Writes.{put_rows_def}
use Rattle.sheet.proofs.ChunkLaws.{chunks-same, chunks-at}
use Rattle.sheet.proofs.BlockParts.{blocks-ext}
use Rattle.sheet.proofs.BlockLaws.{words_of, body_of, length-words, length-body, label_head, label_word, line-label, line-use, label-lines, arrow_head, row_word_def, length-label_block, length-arrow_block, length-store, labels-fit, rows_fit, first_block, later-block, lines-held}
use Rattle.sheet.proofs.ReplacedBlocks.{replaced, replaced-length, block_here, block-other}

-- a word is put in place of 8 bytes
put-mid : (A B D : List ℕ) (at x : ℕ) → length A ≡ at → length B ≡ 8 → put_word_def (A ++ (B ++ D)) at x ≡ A ++ (bytes 8 x ++ D)
unfolding put_word_def
put-mid A B D at x a b =
    ap₂ (λ y z. y ++ bytes 8 x ++ z) (take_at A (B ++ D) at a) (ap (drop (at + 8)) (sym (append_assoc A B D)) ∙ drop_at (A ++ B) D (at + 8) (length-append A B ∙ omega arith))
    ∙ append_assoc A (bytes 8 x) D

around : (P X B Y Z C : List ℕ) → ((P ++ (X ++ (B ++ Y))) ++ Z) ++ C ≡ (P ++ X) ++ (B ++ ((Y ++ Z) ++ C))
around P X B Y Z C = simp append_assoc

module _ (φ : Form) where
  -- a block with any check bytes
  abbrev pub raw : List ℕ → (m : ℕ) → (ℕ → ℕ) → List ℕ → List ℕ
  raw head m f c = body_of φ head m f ++ c

  module _ (head : List ℕ) (h3 : length head ≡ 3) (m : ℕ) (c : List ℕ) where
    -- a word is put into a block
    pub put-raw : (f h : ℕ → ℕ) (k x : ℕ) → k < m → h k ≡ x → ((j : ℕ) → j < m → j ≢ k → f j ≡ h j) → put_word_def (raw head m f c) (16 + 8 * k) x ≡ raw head m h c
    put-raw f h k x l e same =
        ap (λ y. put_word_def y (16 + 8 * k) x) (parts f) ∙ put-mid (before f) (bytes 8 (f k)) (after f) (16 + 8 * k) x before-length (length-bytes 8 (f k))
        ∙ ap₂ (λ y z. ((head ++ replicate 13 0) ++ y) ++ (bytes 8 x ++ ((z ++ replicate (padding φ m) 0) ++ c))) (unmoved k 0 (omega arith) (λ j a b q. omega arith)) (unmoved (m - suc k) (suc k) (omega arith) (λ j a b q. omega arith))
        ∙ ap (λ y. before h ++ (bytes 8 y ++ after h)) (sym e) ∙ sym (parts h) where
          before : (ℕ → ℕ) → List ℕ
          before f = (head ++ replicate 13 0) ++ words_of k f

          after : (ℕ → ℕ) → List ℕ
          after f = (chunks (m - suc k) (suc k) (λ j. bytes 8 (f j)) ++ replicate (padding φ m) 0) ++ c

          parts : (f : ℕ → ℕ) → raw head m f c ≡ before f ++ (bytes 8 (f k) ++ after f)
          parts f =
              ap (λ y. (head ++ replicate 13 0 ++ y ++ replicate (padding φ m) 0) ++ c) (chunks-at m k (λ j. bytes 8 (f j)) l)
              ∙ around (head ++ replicate 13 0) (words_of k f) (bytes 8 (f k)) (chunks (m - suc k) (suc k) (λ j. bytes 8 (f j))) (replicate (padding φ m) 0) c

          before-length : length (before f) ≡ 16 + 8 * k
          before-length = simp (length-append, length-replicate) (omega (arith, length-words k f))

          unmoved : (p i : ℕ) → i + p ≤ m → ((j : ℕ) → i ≤ j → j < i + p → j ≢ k) → chunks p i (λ j. bytes 8 (f j)) ≡ chunks p i (λ j. bytes 8 (h j))
          unmoved p i u d = chunks-same p i _ _ (λ j a b. ap (bytes 8) (same j (omega arith) (d j a b)))

    -- a sealed block
    pub seal-raw : (f : ℕ → ℕ) → 16 + 8 * m ≤ φ.body_bytes → reseal φ (raw head m f c) ≡ block φ head m f
    seal-raw f fits = unfold reseal block in ap (sealed φ) (take_at (body_of φ head m f) c φ.body_bytes (length-body φ head m f h3 fits))

    -- the first i words are put into a block; before the last of them it has the words of h, except that one
    put-rows-raw : (f h : ℕ → ℕ) (rows : List ℕ) (i : ℕ) → i ≤ m → ((j : ℕ) → j < i → get_or rows j 0 ≡ h j) → ((j : ℕ) → i ≤ j → j < m → f j ≡ h j) → put_rows_def i rows (raw head m f c) ≡ raw head m h c
    unfolding put_rows_def
    put-rows-raw f h rows zero l new old =
        ap (λ w. (head ++ replicate 13 0 ++ w ++ replicate (padding φ m) 0) ++ c) (chunks-same m 0 _ _ (λ j a b. ap (bytes 8) (old j (omega arith) (omega arith))))
    put-rows-raw f h rows (suc i) l new old =
        ap (λ y. put_word_def y (16 + 8 * i) (get_or rows i 0))
        (put-rows-raw f (update h i (f i)) rows i (omega arith) (λ j b. new j (omega arith) ∙ sym (update_other h i (f i) j (λ q. omega arith)))
        (λ j a b. ⊎_elim (λ q. ap f (sym q) ∙ sym (update_same h i (f i)) ∙ ap (update h i (f i)) q) (λ u. old j u b ∙ sym (update_other h i (f i) j (λ q. omega arith))) (eq-or-lt_of_le a)))
        ∙ put-raw (update h i (f i)) h i (get_or rows i 0) (omega arith) (sym (new i (omega arith))) (λ j b q. update_other h i (f i) j q)

  -- in a sealed block one word, or the first n, are put, and it is sealed again
  module _ (head : List ℕ) (h3 : length head ≡ 3) (m : ℕ) (fits : 16 + 8 * m ≤ φ.body_bytes) (f h : ℕ → ℕ) where
    word-put : (k x : ℕ) → k < m → h k ≡ x → ((j : ℕ) → j < m → j ≢ k → f j ≡ h j) → reseal φ (put_word_def (block φ head m f) (16 + 8 * k) x) ≡ block φ head m h
    word-put k x l e same = unfold block sealed in ap (reseal φ) (put-raw head h3 m _ f h k x l e same) ∙ seal-raw head h3 m _ h fits

    rows-put : (rows : List ℕ) (n : ℕ) → n ≤ m → ((i : ℕ) → i < n → get_or rows i 0 ≡ h i) → ((i : ℕ) → n ≤ i → i < m → f i ≡ h i) → reseal φ (put_rows_def n rows (block φ head m f)) ≡ block φ head m h
    rows-put rows n l new old = unfold block sealed in ap (reseal φ) (put-rows-raw head h3 m _ f h rows n l new old) ∙ seal-raw head h3 m _ h fits

module _ (φ : SheetForm) where
  -- block 0 replaced by that of another graph
  first-written : (make : List ℕ → List ℕ) (g : Graph) (v : ℕ → Nodes) (u : Nodes) → make (label_block φ g) ≡ label_block φ (with_lines g v u) → (t : List ℕ) → t ≡ store_in φ g
      → make (take block_bytes t) ++ drop block_bytes t ≡ store_in φ (with_lines g v u)
  unfolding store_in arrow_block
  first-written make g v u m t e =
      let arrows : List ℕ = chunks arrow_count 0 (arrow_block φ g) in
      rw e (rw (take_at (label_block φ g) arrows block_bytes (length-label_block φ g), drop_at (label_block φ g) arrows block_bytes (length-label_block φ g)) (ap (◌++ arrows) m))

  -- block 0 with line k replaced, and sealed
  line-written : (g : Graph) (v : ℕ → Nodes) (u : Nodes) (k x : ℕ) → k < line_count φ → x ≡ label_word (with_lines g v u) k → ((j : ℕ) → j < line_count φ → j ≢ k → line_of g j ≡ line_of (with_lines g v u) j)
      → (t : List ℕ) → t ≡ store_in φ g → reseal φ.sums (put_word_def (take block_bytes t) (16 + 8 * k) x) ++ drop block_bytes t ≡ store_in φ (with_lines g v u)
  unfolding label_block
  line-written g v u k x h q same =
      first-written (λ y. reseal φ.sums (put_word_def y (16 + 8 * k) x)) g v u
      (word-put φ.sums (label_head g) refl (line_count φ) (labels-fit φ) (label_word g) (label_word (with_lines g v u)) k x h (sym q) (λ j l d. ap (set_of g.n) (same j l d)))

  -- Labels: in the sheet that stores g, word k of block 0 replaced, and the block sealed.
  pub relabelled : (g : Graph) (v : Nodes) (k x : ℕ) (t : List ℕ) → k < label_count → t ≡ store_in φ g → x ≡ set_of g.n v
      → reseal φ.sums (put_word_def (take block_bytes t) (16 + 8 * k) x) ++ drop block_bytes t ≡ store_in φ (relabel g k v)
  relabelled g v k x t h e q =
      line-written g (update g.labelled k v) g.in_use k x (omega (arith, label-lines φ))
      (q ∙ ap (set_of g.n) (sym (line-label (relabel g k v) k h ∙ update_same g.labelled k v)))
      (λ j l d. ap (λ (w : Nodes). cond (ltb j label_count) w g.in_use) (sym (update_other g.labelled k v j d))) t e

  -- If block 0 holds the nodes in use: line 48 replaced.
  pub reused : (g : Graph) (u : Nodes) (x : ℕ) (t : List ℕ) → φ.holds_use ≡ true → t ≡ store_in φ g → x ≡ set_of g.n u
      → reseal φ.sums (put_word_def (take block_bytes t) (16 + 8 * label_count) x) ++ drop block_bytes t ≡ store_in φ (with_use g u)
  reused g u x t held e q =
      line-written g g.labelled u label_count x (omega (arith, lines-held φ true held)) q (λ j l d. let b : j < label_count = omega (arith, d, lines-held φ true held) in line-label g j b ∙ sym (line-label (with_use g u) j b)) t e

  -- All labels: in the sheet that stores g, the words of block 0 replaced, and the block sealed.
  pub all-relabelled : (g : Graph) (v : ℕ → Nodes) (rows : List ℕ) → ((k : ℕ) → k < label_count → get_or rows k 0 ≡ set_of g.n (v k)) → (t : List ℕ) → t ≡ store_in φ g
      → reseal φ.sums (put_rows_def label_count rows (take block_bytes t)) ++ drop block_bytes t ≡ store_in φ (relabel_all g v)
  unfolding label_block
  all-relabelled g v rows new =
      first-written (λ y. reseal φ.sums (put_rows_def label_count rows y)) g v g.in_use
      (rows-put φ.sums (label_head g) refl (line_count φ) (labels-fit φ) (label_word g) (label_word (relabel_all g v)) rows label_count (label-lines φ)
      (λ k l. new k l ∙ ap (set_of g.n) (sym (line-label (relabel_all g v) k l))) (λ k l u. ap (set_of g.n) (line-use g k l ∙ sym (line-use (relabel_all g v) k l))))

  -- Arrows: in the sheet that stores g, the rows of a's block replaced, and the block sealed.
  module _ (g : Graph) (w : Within g) (v : Pairs) (inside : PairsIn g v) (a : ℕ) (few : a < arrow_count) (rows : List ℕ) (r : Rows g.n v rows) where
    abbrev after : Graph
    after = rejoin g a v

    arrow-put : reseal φ.sums (put_rows_def g.n rows (arrow_block φ g a)) ≡ arrow_block φ after a
    unfolding arrow_block
    arrow-put =
        rows-put φ.sums (arrow_head a) refl max_nodes (rows_fit φ) (row_word_def g a) (row_word_def after a) rows g.n w.few_nodes
        (λ i l. r.row i l ∙ ap (λ u. set_of g.n (u i)) (sym (update_same g.joined a v)))
        (λ i l u. set_of-cong g.n _ _ (λ j b. (w.arrows_in a).starts i j (no_node g i l) ∙ sym (inside.starts i j (no_node g i l))) ∙ ap (λ u. set_of g.n (u i)) (sym (update_same g.joined a v)))

    pub rejoined : (t k : List ℕ) (from len : ℕ) → t ≡ store_in φ g → from ≡ block_bytes * suc a → len ≡ block_bytes → k ≡ reseal φ.sums (put_rows_def g.n rows (take len (drop from t)))
        → take from t ++ (k ++ drop len (drop from t)) ≡ store_in φ after
    unfolding label_block arrow_block
    rejoined t k from len e f l q =
        rw (f, l) (blocks-ext (replaced t k (suc a) size k-size (omega arith)) (store_in φ after) (replaced-length t k (suc a) size k-size (omega arith)) (length-store φ after) (λ j b. same j b (eqb j (suc a)) refl))
      where
        size : length t ≡ sheet_bytes
        size = ap length e ∙ length-store φ g

        made : k ≡ arrow_block φ after a
        made = q ∙ ap₂ (λ x y. reseal φ.sums (put_rows_def g.n rows (take x (drop y t)))) l f ∙ ap (λ x. reseal φ.sums (put_rows_def g.n rows (block_of x (suc a)))) e ∙ ap (λ x. reseal φ.sums (put_rows_def g.n rows x)) (later-block φ g a few) ∙ arrow-put

        k-size : length k ≡ block_bytes
        k-size = ap length made ∙ length-arrow_block φ after a

        kept : (j : ℕ) → j < block_count → j ≢ suc a → block_of (store_in φ g) j ≡ block_of (store_in φ after) j
        kept zero b d = first_block φ g ∙ sym (first_block φ after)
        kept (suc j) b d =
            later-block φ g j (omega arith) ∙ ap (λ u. block φ.sums (arrow_head j) max_nodes (λ i. set_of g.n (u i))) (sym (update_other g.joined a v j (λ z. d (ap suc z)))) ∙ sym (later-block φ after j (omega arith))

        same : (j : ℕ) → j < block_count → (here : Bool) → eqb j (suc a) ≡ here → block_of (replaced t k (suc a) size k-size (omega arith)) j ≡ block_of (store_in φ after) j
        same j b true z = ap (block_of (replaced t k (suc a) size k-size (omega arith))) (eqb-true j (suc a) z) ∙ block_here t k (suc a) size k-size (omega arith) ∙ made ∙ sym (later-block φ after a few) ∙ ap (block_of (store_in φ after)) (sym (eqb-true j (suc a) z))
        same j b false z = let d = eqb-false j (suc a) z in block-other t k (suc a) size k-size (omega arith) j d ∙ ap (λ x. block_of x j) e ∙ kept j b d
