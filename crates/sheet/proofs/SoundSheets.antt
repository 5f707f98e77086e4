-- A sheet of bytes that passes the questions is the one that stores the graph it reads as, and that graph is within the limits.
use mathlib.Core.Path.{◌≡◌, refl, sym, ◌∙◌, ap, subst}
use mathlib.Core.Bool.{Bool, true, false, ◌&&◌, cond}
use mathlib.Core.List.{List}
use mathlib.Core.Logic.{inl, inr, ⊎_elim}
use Prim.Native.Nat.{ℕ, zero, suc, ◌+◌, ◌-◌, ◌*◌, ◌/◌, ◌%◌, ◌≤◌, ◌<◌}
use native.Mathlib.Nat.{eq-or-lt_of_le}
use native.Mathlib.Omega.{arith}
use native.Mathlib.Decide.{dec_lt}
use borrow.Author.Tests.{lt-ltb, le-ltb, eqb-true}
use lib.Dec.{ltb, eqb}
use lib.ListN.{length, get_or}
use Rattle.answer.proofs.AskedLaws.{refused-not-passed, is-yes, is-then}
use Rattle.answer.specs.Asked.{Asked, passed, refused, ◌>>◌, is}
use Rattle.logic.specs.Graph.{Graph, Nodes, is_node, any_below}
use Rattle.logic.specs.Limits.{Within, max_nodes, label_count, arrow_count}
use Rattle.logic.proofs.Inside.{no_node}
use Rattle.logic.proofs.Below.{any-cong}
use Rattle.bitset.specs.Words.{Bytes}
use Rattle.seal.specs.Seal.{block_bytes, seal_right_def}
use Rattle.sheet.specs.Sheet.{sheet_bytes, SheetForm, line_of, line_count, label_block, arrow_block, store_in, bit_in, used_in, graph_in, block_count}
use Rattle.sheet.specs.Questions.{block_of, head_right_def, free, zero_right_def, ask_block_def, ask_blocks, ask_sheet_in, SoundIn}
use Rattle.sheet.proofs.BlockLaws.{label_head, line-label, line-use, arrow_head, label-lines, few-lines, lines-held, labels-fit, rows_fit, length-store, first_block, later-block}
use Rattle.sheet.proofs.BlockParts.{length-block, block-small, block-bit, byte-2, used-0, blocks-ext}
use Rattle.sheet.proofs.FreeBits.{guarded, label-gap, label-closed, arrow-gap, arrow-end, arrow-start, word-bit-clear}
use Rattle.sheet.proofs.BlockHeads.{FirstHead, first_head, later-head, head_bytes}
use Rattle.sheet.proofs.FilledBlocks.{block-is}

pub both_yes : (x r : Asked (Unit {0})) → (x >> r) ≡ passed tt → (x ≡ passed tt) × (r ≡ passed tt)
unfolding ◌>>◌
both_yes (passed u) r e = (refl, e)
both_yes (refused q p) r e = refused-not-passed e

module _ (φ : SheetForm) where
  -- what the three questions of a block say
  pub record BlockRight (n : ℕ) (nodes : Nodes) (b : ℕ) (k : List ℕ) : Type 0 where
    pub check : seal_right_def φ.sums k ≡ true
    pub heads : head_right_def φ b k ≡ true
    pub zeros : zero_right_def φ n nodes b k ≡ true

  pub block-ok : (n : ℕ) (nodes : Nodes) (b : ℕ) (k : List ℕ) → ask_block_def φ n nodes b k ≡ passed tt → BlockRight n nodes b k
  unfolding ask_block_def
  block-ok n nodes b k e =
      let (seal, rest) = is-then (seal_right_def φ.sums k) 2 b (is (head_right_def φ b k) 3 b >> is (zero_right_def φ n nodes b k) 4 b) e in
      let (head, last) = is-then (head_right_def φ b k) 3 b (is (zero_right_def φ n nodes b k) 4 b) rest in
      record { check = seal; heads = head; zeros = is-yes _ 4 b last }

  module _ (t : List ℕ) where
    abbrev g : Graph
    g = graph_in φ t

    -- block b passes
    abbrev pub PassesIn : ℕ → Type 0
    PassesIn b = ask_block_def φ (get_or t 2 0) (is_node g) b (block_of t b) ≡ passed tt

    blocks-passed : (m b : ℕ) → ask_blocks φ t m b ≡ passed tt → (j : ℕ) → b ≤ j → j < b + m → PassesIn j
    unfolding ask_blocks
    blocks-passed zero b e j h k = absurd (omega arith)
    blocks-passed (suc m) b e j h k =
        let both = both_yes (ask_block_def φ (get_or t 2 0) (is_node g) b (block_of t b)) (ask_blocks φ t m (suc b)) e in
        ⊎_elim (λ q. subst PassesIn q both.0) (λ l. blocks-passed m (suc b) both.1 j l (omega arith)) (eq-or-lt_of_le h)

    -- what the questions about a sheet say
    pub sound-parts : SoundIn φ t → (length t ≡ sheet_bytes) × ((b : ℕ) → b < block_count → PassesIn b)
    unfolding ask_sheet_in
    sound-parts e =
        let (size, blocks) = is-then (eqb (length t) sheet_bytes) 1 0 (ask_blocks φ t block_count 0) e in
        (eqb-true (length t) sheet_bytes size, λ b l. blocks-passed block_count 0 blocks b (omega arith) (omega arith))

    module _ (small : Bytes t) (sound : SoundIn φ t) where
      size : length t ≡ sheet_bytes
      size = (sound-parts sound).0

      ok : (b : ℕ) → b < block_count → BlockRight (get_or t 2 0) (is_node g) b (block_of t b)
      ok b l = block-ok (get_or t 2 0) (is_node g) b (block_of t b) ((sound-parts sound).1 b l)

      head : FirstHead φ (block_of t 0)
      head = first_head φ (block_of t 0) (ok 0 (omega arith)).heads

      -- bit i of word j of block b, at q of the sheet, where no bit may be set
      clear-bit : (b j q i : ℕ) → b < block_count → 16 + 8 * suc j ≤ φ.sums.body_bytes → q ≡ block_bytes * b + (16 + 8 * j)
          → ((p r : ℕ) → p ≡ 16 + 8 * j + i / 8 → r ≡ i % 8 → i < 64 → free φ (get_or t 2 0) (is_node g) b p r ≡ false) → bit_in t q i ≡ false
      clear-bit b j q i l u e f = sym (block-bit t b (16 + 8 * j) q i e (omega (arith, φ.sums.whole))) ∙ word-bit-clear φ (get_or t 2 0) (is_node g) b (block_of t b) (ok b l).zeros j i u f

      -- the graph that the sheet stores: its labels are on nodes in use, its nodes in use are below n, its arrows join nodes in use
      label-in : (k i : ℕ) → is_node g i ≡ false → (ltb k label_count && bit_in t (16 + 8 * k) i) ≡ false
      label-in k i h =
          guarded k label_count _ false (λ d. clear-bit 0 k (16 + 8 * k) i (omega arith) (omega (arith, labels-fit φ, label-lines φ)) (omega arith)
          (λ p r e f s. let q : p % 8 * 8 + r ≡ i = omega arith in label-closed φ (get_or t 2 0) (is_node g) p r (omega arith) (ap (is_node g) q ∙ h) (inl (omega arith))))
          (λ d. refl)

      use-in : (i : ℕ) → get_or t 2 0 ≤ i → used_in φ t i ≡ false
      unfolding graph_in
      use-in i l = go φ.holds_use refl where
        go : (b : Bool) → φ.holds_use ≡ b → cond b (bit_in t (16 + 8 * label_count)) (λ j. ltb j (get_or t 2 0)) i ≡ false
        go false e = le-ltb i (get_or t 2 0) l
        go true e =
            clear-bit 0 label_count (16 + 8 * label_count) i (omega arith) (omega (arith, labels-fit φ, lines-held φ true e)) (omega arith)
            (λ p r e f s. label-closed φ (get_or t 2 0) (is_node g) p r (omega arith) (no_node g _ (omega arith)) (inr (omega arith)))

      arrow-clear : (a i j : ℕ) → ((p r : ℕ) → p ≡ 16 + 8 * i + j / 8 → r ≡ j % 8 → j < 64 → free φ (get_or t 2 0) (is_node g) (suc a) p r ≡ false)
          → (ltb a arrow_count && (ltb i max_nodes && bit_in t (block_bytes * (a + 1) + (16 + 8 * i)) j)) ≡ false
      arrow-clear a i j h =
          guarded a arrow_count _ false (λ d. guarded i max_nodes _ false (λ e. clear-bit (suc a) i (block_bytes * (a + 1) + (16 + 8 * i)) j (omega arith) (omega (arith, rows_fit φ)) (omega arith) h) (λ e. refl))
          (λ d. refl)

      sheet-within : Within g
      unfolding graph_in
      sheet-within =
          record {
            some_node =
                any-cong (get_or t 2 0) (used_in φ t) (used_in φ (block_of t 0)) (λ i l. used-0 t φ i)
                ∙ ap (λ n. any_below n (used_in φ (block_of t 0))) (sym (byte-2 t)) ∙ head.used;
            few_nodes = subst (λ x. x ≤ max_nodes) (byte-2 t) head.few;
            use_below = use-in;
            labels_in = label-in;
            arrows_in = λ a. record {
              starts = λ i j h. arrow-clear a i j (λ p r e f s. let q : (p - 16) / 8 ≡ i = omega arith in arrow-start φ (get_or t 2 0) (is_node g) a p r (omega arith) (ap (is_node g) q ∙ h));
              ends = λ i j h. arrow-clear a i j (λ p r e f s. let q : p % 8 * 8 + r ≡ j = omega arith in arrow-end φ (get_or t 2 0) (is_node g) a p r (omega arith) (ap (is_node g) q ∙ h));
            };
            no_more_labels = λ k i l. rw (le-ltb k label_count l);
            no_more_arrows = λ a i j l. rw (le-ltb a arrow_count l);
          }

      -- line k of the graph, as bits of the sheet
      line-is : (k i : ℕ) → k < line_count φ → line_of g k i ≡ bit_in t (16 + 8 * k) i
      unfolding graph_in
      line-is k i l = go (dec_lt k label_count) φ.holds_use refl where
        go : Dec (k < label_count) → (b : Bool) → φ.holds_use ≡ b → line_of g k i ≡ bit_in t (16 + 8 * k) i
        go (yes d) b e = ap (λ v. v i) (line-label g k d) ∙ ap (◌&& bit_in t (16 + 8 * k) i) (lt-ltb k label_count d)
        go (no d) true e =
            let q : label_count ≡ k = omega (arith, lines-held φ true e) in
            ap (λ v. v i) (line-use g k (omega arith))
            ∙ ap (λ b. cond b (bit_in t (16 + 8 * label_count)) (λ i. ltb i (get_or t 2 0)) i) e ∙ ap (λ k. bit_in t (16 + 8 * k) i) q
        go (no d) false e = absurd (omega (arith, lines-held φ false e))

      row_is : (a i j : ℕ) → a < arrow_count → i < max_nodes → g.joined a i j ≡ bit_in t (block_bytes * (a + 1) + (16 + 8 * i)) j
      row_is a i j d e = unfold graph_in in rw (lt-ltb a arrow_count d, lt-ltb i max_nodes e)

      label-block : block_of t 0 ≡ label_block φ g
      unfolding label_block graph_in
      label-block =
          let r = ok 0 (omega arith) in
          block-is φ (get_or t 2 0) (is_node g) 0 (block_of t 0) (length-block t size 0 (omega arith)) (block-small t small 0) r.check r.zeros
          (label_head g) (line_count φ) (line_of g) refl (labels-fit φ)
          (head_bytes (block_of t 0) 1 0 (get_or t 2 0) head.byte-0 head.byte-1 (byte-2 t))
          (label-gap φ (get_or t 2 0) (is_node g)) (λ p i l u. label-closed φ (get_or t 2 0) (is_node g) p i l (no_node g (p % 8 * 8 + i) u) (inr u))
          (λ j i l. line-is j i l ∙ sym (block-bit t 0 (16 + 8 * j) (16 + 8 * j) i (omega arith) (omega (arith, few-lines φ))))

      arrow-block : (a : ℕ) → a < arrow_count → block_of t (suc a) ≡ arrow_block φ g a
      unfolding arrow_block graph_in
      arrow-block a d =
          let r = ok (suc a) (omega arith) in
          let (x, y, z) = later-head φ (block_of t (suc a)) a r.heads in
          block-is φ (get_or t 2 0) (is_node g) (suc a) (block_of t (suc a)) (length-block t size (suc a) (omega arith)) (block-small t small (suc a)) r.check r.zeros
          (arrow_head a) max_nodes (g.joined a) refl (rows_fit φ)
          (head_bytes (block_of t (suc a)) 2 (suc a) 0 x y z)
          (arrow-gap φ (get_or t 2 0) (is_node g) a) (λ p i l u. arrow-end φ (get_or t 2 0) (is_node g) a p i l (no_node g (p % 8 * 8 + i) u))
          (λ i j l. row_is a i j d l ∙ sym (block-bit t (suc a) (16 + 8 * i) (block_bytes * (a + 1) + (16 + 8 * i)) j (omega arith) (omega arith)))

      sheet_is : t ≡ store_in φ g
      sheet_is = blocks-ext t (store_in φ g) size (length-store φ g) same where
        same : (b : ℕ) → b < block_count → block_of t b ≡ block_of (store_in φ g) b
        same zero l = label-block ∙ sym (first_block φ g)
        same (suc a) l = arrow-block a (omega arith) ∙ sym (later-block φ g a (omega arith))

  -- The sheet stores its graph, and its graph is within the limits.
  pub record Stored (t : List ℕ) : Type 0 where
    pub stored : t ≡ store_in φ (graph_in φ t)
    pub within : Within (graph_in φ t)

  pub sound-is-stored : (t : List ℕ) → Bytes t → SoundIn φ t → Stored t
  sound-is-stored t small sound = record { stored = sheet_is t small sound; within = sheet-within t small sound }

  -- So each graph has one sheet: two sheets that pass and read as the same graph are the same bytes.
  pub one_sheet : (s t : List ℕ) → Bytes s → Bytes t → SoundIn φ s → SoundIn φ t → graph_in φ s ≡ graph_in φ t → s ≡ t
  one_sheet s t small-s small-t sound-s sound-t e = (sound-is-stored s small-s sound-s).stored ∙ ap (store_in φ) e ∙ sym (sound-is-stored t small-t sound-t).stored
