-- The sheet that stores a graph within the limits passes the questions.
use mathlib.Core.Path.{◌≡◌, refl, sym, ◌∙◌, ap, ap₂}
use mathlib.Core.Bool.{Bool, true, false, ◌&&◌, cond}
use mathlib.Core.List.{List}
use mathlib.Core.Logic.{⊎_elim}
use Prim.Native.Nat.{ℕ, zero, suc, ◌+◌, ◌-◌, ◌*◌, ◌/◌, ◌%◌, ◌≤◌, ◌<◌}
use native.Mathlib.Omega.{arith}
use native.Mathlib.Decide.{dec_lt}
use borrow.Author.Tests.{eq-eqb, lt-ltb, le-ltb, le-leb, ltb-true}
use lib.Dec.{ltb}
use lib.ListN.{length, get_or}
use Rattle.answer.specs.Asked.{passed, ◌>>◌, is}
use Rattle.logic.specs.Graph.{Graph, Nodes, is_node, any_below, implies}
use Rattle.logic.specs.Limits.{Within, max_nodes, label_count, arrow_count}
use Rattle.logic.proofs.Inside.{some-n}
use Rattle.logic.proofs.Below.{any-cong, any-one}
use Rattle.bitset.specs.Words.{set_of, member}
use Rattle.bitset.proofs.SetLaws.{member-set_of, member-beyond}
use Rattle.seal.proofs.SealLaws.{sealed-right}
use Rattle.sheet.specs.Sheet.{block, SheetForm, present, line_of, line_count, label_block, arrow_block, store_in, store, blank, used_in, graph_in, Storable}
use Rattle.sheet.specs.Questions.{node_count_right, head_right_def, free, ask_block_def, ask_blocks, ask_sheet_in, SoundIn, Sound}
use Rattle.sheet.proofs.BlockLaws.{body_of, length-body, head_at, front-zero, pad-zero, word-bit, label_head, label_word, line-label, arrow_head, row_word_def, length-store, n-is, labels-fit, rows_fit, first_block, later-block}
use Rattle.sheet.proofs.BlockParts.{used-0}
use Rattle.sheet.proofs.SheetQuestionLaws.{block-right}
use Rattle.sheet.proofs.FreeBits.{if-clear, zeros-right}
use Rattle.store.proofs.StoredReads.{reads_back, all-storable}

module _ (φ : SheetForm) where
  -- a block with words for the m sets v has no bit where none may be set, and passes if its head does
  module _ (head : List ℕ) (m : ℕ) (v : ℕ → Nodes) (h : length head ≡ 3) (fits : 16 + 8 * m ≤ φ.sums.body_bytes) (n : ℕ) (nodes : Nodes) (b : ℕ)
      (inside : (p i : ℕ) → 16 ≤ p → p < 16 + 8 * m → p % 8 * 8 + i < n → implies (v ((p - 16) / 8) (p % 8 * 8 + i)) (free φ n nodes b p i) ≡ true) where
    abbrev f : ℕ → ℕ
    f j = set_of n (v j)

    abbrev k : List ℕ
    k = block φ.sums head m f

    word-right : (p i : ℕ) → 16 ≤ p → p < 16 + 8 * m → i < 8 → implies (member (get_or k p 0) i) (free φ n nodes b p i) ≡ true
    word-right p i l u s = ap (λ y. implies y (free φ n nodes b p i)) (word-bit φ.sums head m f h fits p i l u s) ∙ go (dec_lt (p % 8 * 8 + i) n) where
      go : Dec (p % 8 * 8 + i < n) → implies (member (f ((p - 16) / 8)) (p % 8 * 8 + i)) (free φ n nodes b p i) ≡ true
      go (yes x) = ap (λ y. implies y (free φ n nodes b p i)) (member-set_of n (v ((p - 16) / 8)) (p % 8 * 8 + i) x) ∙ inside p i l u x
      go (no x) = if-clear _ _ (member-beyond n (v ((p - 16) / 8)) (p % 8 * 8 + i) (omega arith))

    block-passes : head_right_def φ b k ≡ true → ask_block_def φ n nodes b k ≡ passed tt
    block-passes e =
        block-right φ n nodes b k (unfold block in sealed-right φ.sums (body_of φ.sums head m f) (length-body φ.sums head m f h fits)) e
        (zeros-right φ n nodes b k m (λ p l u w. ⊎_elim (front-zero φ.sums head m f h fits p l) (λ a. pad-zero φ.sums head m f h fits p a u) w) word-right)

  first-head-right : (k : List ℕ) (n : ℕ) → get_or k 0 0 ≡ 1 → get_or k 1 0 ≡ 0 → get_or k 2 0 ≡ n → node_count_right n ≡ true → any_below n (used_in φ k) ≡ true → head_right_def φ 0 k ≡ true
  unfolding head_right_def
  first-head-right k n a b c r u = ap₂ ◌&&◌ (eq-eqb _ _ a) (ap₂ ◌&&◌ (eq-eqb _ _ b) (ap₂ ◌&&◌ (ap node_count_right c ∙ r) (ap (λ m. any_below m (used_in φ k)) c ∙ u)))

  module _ (g : Graph) (w : Within g) where
    labels-pass : Storable φ g → ask_block_def φ g.n (is_node g) 0 (label_block φ g) ≡ passed tt
    unfolding label_block free graph_in
    labels-pass s =
        let at = head_at φ.sums (label_head g) (line_count φ) (label_word g) refl (labels-fit φ) in
        block-passes (label_head g) (line_count φ) (line_of g) refl (labels-fit φ) g.n (is_node g) 0 inside
        (first-head-right (label_block φ g) g.n (at 0 (omega arith)) (at 1 (omega arith)) (at 2 (omega arith)) (ap₂ ◌&&◌ (le-leb 1 g.n (some-n g w)) (le-leb g.n max_nodes w.few_nodes)) used)
      where
        used : any_below g.n (used_in φ (label_block φ g)) ≡ true
        used =
            any-cong g.n (used_in φ (label_block φ g)) g.in_use
            (λ i l. ap (λ k. used_in φ k i) (sym (first_block φ g)) ∙ sym (used-0 (store_in φ g) φ i) ∙ ap (λ h. h.in_use i) (reads_back φ g w s)) ∙ w.some_node

        -- a bit set in a label is a node in use; one set in line 48 is below n
        line : (k j : ℕ) → j < g.n → (d : Bool) → (d ≡ true → line_of g k ≡ g.labelled k) → (c : Bool) → line_of g k j ≡ c → implies c (cond d (is_node g j) (ltb j g.n)) ≡ true
        line k j l d f false e = refl
        line k j l false f true e = lt-ltb j g.n l
        line k j l true f true e = go (is_node g j) refl where
          go : (b : Bool) → is_node g j ≡ b → b ≡ true
          go true y = refl
          go false y = sym (w.labels_in k j y) ∙ ap (λ v. v j) (sym (f refl)) ∙ e

        inside : (p i : ℕ) → 16 ≤ p → p < 16 + 8 * line_count φ → p % 8 * 8 + i < g.n → implies (line_of g ((p - 16) / 8) (p % 8 * 8 + i)) (free φ g.n (is_node g) 0 p i) ≡ true
        inside p i l u x =
            ap (implies (line_of g ((p - 16) / 8) (p % 8 * 8 + i))) (rw (le-ltb p 3 (omega arith), le-leb 16 p l, lt-ltb p (16 + 8 * line_count φ) u))
            ∙ line ((p - 16) / 8) (p % 8 * 8 + i) x (ltb p (16 + 8 * label_count)) (λ e. line-label g ((p - 16) / 8) (omega (arith, ltb-true p (16 + 8 * label_count) e))) (line_of g ((p - 16) / 8) (p % 8 * 8 + i)) refl

    arrows-pass : (a : ℕ) → ask_block_def φ g.n (is_node g) (suc a) (arrow_block φ g a) ≡ passed tt
    unfolding arrow_block head_right_def free
    arrows-pass a =
        let at = head_at φ.sums (arrow_head a) max_nodes (row_word_def g a) refl (rows_fit φ) in
        block-passes (arrow_head a) max_nodes (g.joined a) refl (rows_fit φ) g.n (is_node g) (suc a) inside
        (rw (at 0 (omega arith), at 1 (omega arith), at 2 (omega arith)) (rw (eq-eqb (suc a) (suc a) refl))) where
          -- a bit that is set joins two nodes in use
          joins : (r j : ℕ) → (x y c : Bool) → is_node g r ≡ x → is_node g j ≡ y → g.joined a r j ≡ c → implies c (x && y) ≡ true
          joins r j x y false f h e = refl
          joins r j true true true f h e = refl
          joins r j true false true f h e = sym ((w.arrows_in a).ends r j h) ∙ e
          joins r j false y true f h e = sym ((w.arrows_in a).starts r j f) ∙ e

          inside : (p i : ℕ) → 16 ≤ p → p < 16 + 8 * max_nodes → p % 8 * 8 + i < g.n → implies (g.joined a ((p - 16) / 8) (p % 8 * 8 + i)) (free φ g.n (is_node g) (suc a) p i) ≡ true
          inside p i l u x =
              ap (implies (g.joined a ((p - 16) / 8) (p % 8 * 8 + i))) (rw (le-ltb p 3 (omega arith), le-leb 16 p l, lt-ltb p (16 + 8 * max_nodes) u))
              ∙ joins ((p - 16) / 8) (p % 8 * 8 + i) (is_node g ((p - 16) / 8)) (is_node g (p % 8 * 8 + i)) (g.joined a ((p - 16) / 8) (p % 8 * 8 + i)) refl refl refl

  module _ (g : Graph) (w : Within g) (s : Storable φ g) where
    later-pass : (m a : ℕ) → a + m ≤ arrow_count → ask_blocks φ (store_in φ g) m (suc a) ≡ passed tt
    unfolding ask_blocks ◌>>◌
    later-pass zero a h = refl
    later-pass (suc m) a h = rw (n-is φ g, later-block φ g a (omega arith), reads_back φ g w s, arrows-pass g w a) (later-pass m (suc a) (omega arith))

    pub passes : SoundIn φ (store_in φ g)
    unfolding ask_sheet_in ask_blocks is ◌>>◌
    passes =
        rw (length-store φ g)
        (ap₂ (λ n k. ask_block_def φ n (is_node (graph_in φ (store_in φ g))) 0 k >> ask_blocks φ (store_in φ g) arrow_count 1) (n-is φ g) (first_block φ g)
        ∙ ap (λ h. ask_block_def φ g.n (is_node h) 0 (label_block φ g) >> ask_blocks φ (store_in φ g) arrow_count 1) (reads_back φ g w s)
        ∙ ap (◌>> ask_blocks φ (store_in φ g) arrow_count 1) (labels-pass g w s) ∙ later-pass arrow_count 0 (omega arith))

pub stored-passes : (g : Graph) → Within g → Sound (store g)
stored-passes g w = passes present g w (all-storable g)

-- A blank sheet's graph is within the limits.
pub blank-within : (n : ℕ) → 1 ≤ n → n ≤ max_nodes → Within (blank n)
blank-within n l u =
    record {
      some_node = any-one n (λ i. ltb i n) 0 (omega arith) (lt-ltb 0 n (omega arith));
      few_nodes = u;
      use_below = λ i m. le-ltb i n m;
      labels_in = λ k i h. refl;
      arrows_in = λ a. record { starts = λ i j h. refl; ends = λ i j h. refl };
      no_more_labels = λ k i m. refl;
      no_more_arrows = λ a i j m. refl;
    }
