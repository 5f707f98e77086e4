-- The questions as the code asks them, one by one and block by block.
use mathlib.Core.Path.{◌≡◌, refl, sym, ap, ap₂, ◌∙◌, subst}
use mathlib.Core.Bool.{true, false, not, ◌&&◌, cond, and-eq-true_iff, and_self, and-false, not-not}
use mathlib.Core.List.{List}
use Prim.Native.Nat.{ℕ, zero, suc, ◌+◌, ◌-◌, ◌*◌, ◌/◌, ◌%◌, ◌≤◌, ◌<◌}
use native.Mathlib.Omega.{arith}
use borrow.Author.Tests.{eq-eqb, lt-ltb, le-leb, ltb-true}
use lib.Dec.{eqb, ltb}
use lib.ListN.{length, get_or}
use Rattle.answer.specs.declared.Refusal.{Refusal}
use Rattle.answer.specs.declared.Answer.{Answer}
use Rattle.answer.specs.declared.Answer.TheVariants.{Done, Refused}
use Rattle.answer.specs.Answers.{asked}
use Rattle.answer.specs.Asked.{passed, refused, ◌>>◌, is}
use Rattle.logic.specs.Graph.{Nodes, is_node, any_below}
use Rattle.logic.specs.Limits.{max_nodes, label_count}
use Rattle.logic.proofs.Inside.{no_node}
use Rattle.logic.proofs.Below.{any_found, any-one}
use Rattle.bitset.specs.Words.{Bytes, set_of, member, combined, word_at}
use Rattle.bitset.proofs.SetLaws.{set_of-cong, set_of-empty, member-set_of}
use Rattle.bitset.proofs.WordLaws.{member-word_at}
use Rattle.seal.specs.Seal.{seal_right_def}
use Rattle.sheet.specs.Sheet.{SheetForm, sheet_bytes, block_count, bit_in, used_in, graph_in}
use Rattle.sheet.specs.Questions.{block_of, node_count_right, head_right_def, zero_right_def, ask_block_def, ask_blocks, ask_sheet_in}
use Rattle.sheet.specs.Masks.{Told}
use Rattle.sheet.proofs.BlockParts.{byte-2, nodes-0}
use Rattle.sheet.proofs.ZeroLaws.{same_test}
use Rattle.sheet.proofs.BlockHeads.{first_head}
use Rattle.sheet.proofs.SoundSheets.{block-ok}

-- question 3, for block 0 and for a later block
pub head_first : (φ : SheetForm) (k : List ℕ) (b : ℕ) → b ≡ 0 → head_right_def φ b k ≡ (eqb (get_or k 0 0) 1 && (eqb (get_or k 1 0) 0 && (node_count_right (get_or k 2 0) && any_below (get_or k 2 0) (used_in φ k))))
head_first φ k b e = unfold head_right_def in ap (λ x. head_right_def φ x k) e

pub head-later : (φ : SheetForm) (k : List ℕ) (b : ℕ) → (b ≡ 0 → ⊥) → head_right_def φ b k ≡ (eqb (get_or k 0 0) 2 && (eqb (get_or k 1 0) b && eqb (get_or k 2 0) 0))
unfolding head_right_def
head-later φ k zero e = absurd (e refl)
head-later φ k (suc a) e = refl

pub count-wrong : (φ : SheetForm) (k : List ℕ) (b : ℕ) → b ≡ 0 → node_count_right (get_or k 2 0) ≡ false → head_right_def φ b k ≡ false
count-wrong φ k b e n = rw (head_first φ k b e, n, and-false (eqb (get_or k 1 0) 0), and-false) refl

-- some number below m is in the set, by the word of those that are
any_word : (m : ℕ) (u : Nodes) → m ≤ 64 → not (eqb (set_of 64 (λ i. ltb i m && u i)) 0) ≡ any_below m u
any_word m u h = ap not (set_of-empty 64 (λ i. ltb i m && u i)) ∙ not-not (any_below 64 (λ i. ltb i m && u i)) ∙ same_test _ _ down up where
  down : any_below 64 (λ i. ltb i m && u i) ≡ true → any_below m u ≡ true
  down e =
      let (i, l, t) = any_found 64 (λ i. ltb i m && u i) e in
      let p = (and-eq-true_iff (ltb i m) (u i)).0 t in
      any-one m u i (ltb-true i m p.0) p.1

  up : any_below m u ≡ true → any_below 64 (λ i. ltb i m && u i) ≡ true
  up e = let (i, l, t) = any_found m u e in any-one 64 (λ i. ltb i m && u i) i (omega arith) (ap₂ ◌&&◌ (lt-ltb i m l) t)

-- question 3 of block 0, up to the nodes in use
pub head-used : (φ : SheetForm) (k : List ℕ) (b n all : ℕ) (nodes : Nodes) → Told φ k b n all nodes → b ≡ 0 → get_or k 0 0 ≡ 1 → get_or k 1 0 ≡ 0 → 1 ≤ get_or k 2 0 → get_or k 2 0 ≤ max_nodes → not (eqb all 0) ≡ head_right_def φ b k
head-used φ k b n all nodes t e x y l u =
    let f = t.first e in
    ap (λ (w : ℕ). not (eqb w 0)) (t.word (omega (arith, f.0)) ∙ set_of-cong 64 nodes _ (λ i l. f.1 i)) ∙ any_word (get_or k 2 0) (used_in φ k) (omega arith)
    ∙ sym (head_first φ k b e ∙ rw (eq-eqb _ _ x, eq-eqb _ _ y, le-leb _ _ l, le-leb _ _ u) refl)

-- the word of the nodes in use
module _ (φ : SheetForm) (t : List ℕ) (n : ℕ) (q : n ≡ get_or t 2 0) where
  pub told-held : Bytes t → (below r : ℕ) → below ≡ set_of 64 (λ j. ltb j n) → r ≡ combined ◌&&◌ below (word_at t (16 + 8 * label_count)) → φ.holds_use ≡ true → r ≡ set_of 64 (is_node (graph_in φ t))
  unfolding is_node graph_in
  told-held bytes below r b e h =
      e ∙ set_of-cong 64 _ _ (λ i l. ap₂ ◌&&◌ (ap (λ (w : ℕ). member w i) b ∙ member-set_of 64 (λ j. ltb j n) i l ∙ ap (ltb i) q)
      (member-word_at t (16 + 8 * label_count) i bytes l
      ∙ sym (ap (λ c. cond c (bit_in t (16 + 8 * label_count)) (λ j. ltb j (get_or t 2 0)) i) h ∙ ap (◌&& member (get_or t (16 + 8 * label_count + i / 8) 0) (i % 8)) (lt-ltb i 64 l))))

  pub told-all : (r : ℕ) → r ≡ set_of 64 (λ j. ltb j n) → φ.holds_use ≡ false → r ≡ set_of 64 (is_node (graph_in φ t))
  unfolding is_node graph_in
  told-all r e h =
      e ∙ set_of-cong 64 _ _ (λ i l. ap (ltb i) q ∙ sym (ap (ltb i (get_or t 2 0) &&◌) (ap (λ c. cond c (bit_in t (16 + 8 * label_count)) (λ j. ltb j (get_or t 2 0)) i) h) ∙ and_self (ltb i (get_or t 2 0))))

-- what holds for each block
pub told_of : (φ : SheetForm) (t : List ℕ) (n all : ℕ) → n ≡ get_or t 2 0 → (n ≤ max_nodes → all ≡ set_of 64 (is_node (graph_in φ t))) → (b : ℕ) (k : List ℕ) → k ≡ block_of t b → Told φ k b n all (is_node (graph_in φ t))
unfolding graph_in
told_of φ t n all q w b k e =
    record {
      word = w;
      below = λ i l. no_node (graph_in φ t) i (subst (λ (m : ℕ). m ≤ i) q l);
      first = λ z. let f : k ≡ block_of t 0 = e ∙ ap (block_of t) z in (
        q ∙ sym (byte-2 t) ∙ ap (λ c. get_or c 2 0) (sym f),
        λ i. ap (λ (v : Nodes). v i) (nodes-0 t φ) ∙ ap (λ (c : List ℕ). ltb i (get_or c 2 0) && used_in φ c i) (sym f),
      );
    }

module _ (φ : SheetForm) where
  -- 2 to 4 of a block, up to the first that fails, or to the end
  module _ (n : ℕ) (nodes : Nodes) (b : ℕ) (k : List ℕ) where
    pub ask-3 : seal_right_def φ.sums k ≡ true → head_right_def φ b k ≡ false → ask_block_def φ n nodes b k ≡ refused 3 b
    ask-3 e f = unfold ask_block_def is ◌>>◌ in rw (e, f)

    pub ask-4 : seal_right_def φ.sums k ≡ true → head_right_def φ b k ≡ true → zero_right_def φ n nodes b k ≡ false → ask_block_def φ n nodes b k ≡ refused 4 b
    ask-4 e f h = unfold ask_block_def is ◌>>◌ in rw (e, f, h)

    pub block-right : seal_right_def φ.sums k ≡ true → head_right_def φ b k ≡ true → zero_right_def φ n nodes b k ≡ true → ask_block_def φ n nodes b k ≡ passed tt
    block-right e f h = unfold ask_block_def is ◌>>◌ in rw (e, f, h)

  module _ (t : List ℕ) where
    -- question 1
    pub right-length : length t ≡ sheet_bytes → ask_sheet_in φ t ≡ ask_blocks φ t block_count 0
    right-length h = unfold ask_sheet_in is ◌>>◌ in rw (eq-eqb _ _ h)

    -- the blocks one by one
    module _ (n : ℕ) (n-is : n ≡ get_or t 2 0) where
      abbrev nodes : Nodes
      nodes = is_node (graph_in φ t)

      block-cons : (b : ℕ) → b < block_count → ask_blocks φ t (block_count - b) b ≡ (ask_block_def φ n nodes b (block_of t b) >> ask_blocks φ t (block_count - (b + 1)) (b + 1))
      unfolding ask_blocks
      block-cons b h =
          let m : block_count - b ≡ suc (block_count - (b + 1)) = omega arith in
          let j : suc b ≡ b + 1 = omega arith in
          ap (λ x. ask_blocks φ t x b) m ∙ ap₂ (λ y x. ask_block_def φ y nodes b (block_of t b) >> ask_blocks φ t (block_count - (b + 1)) x) (sym n-is) j

      pub block-next : (b : ℕ) (a : Answer) → b < block_count → asked a ≡ ask_block_def φ n nodes b (block_of t b) → a ≡ Done → ask_blocks φ t (block_count - b) b ≡ ask_blocks φ t (block_count - (b + 1)) (b + 1)
      block-next b a h e d = unfold ◌>>◌ in block-cons b h ∙ ap (◌>> ask_blocks φ t (block_count - (b + 1)) (b + 1)) (sym e ∙ ap asked d)

      pub block-stop : (b : ℕ) (a : Answer) (r : Refusal) → b < block_count → asked a ≡ ask_block_def φ n nodes b (block_of t b) → a ≡ Refused r → asked a ≡ ask_blocks φ t (block_count - b) b
      block-stop b a r h e d = unfold ◌>>◌ in ap asked d ∙ sym (block-cons b h ∙ ap (◌>> ask_blocks φ t (block_count - (b + 1)) (b + 1)) (sym e ∙ ap asked d))

      -- n is in range once block 0 has passed question 3
      pub few : (b : ℕ) → (0 < b → n ≤ max_nodes) → head_right_def φ b (block_of t b) ≡ true → n ≤ max_nodes
      few zero h e = let l : get_or (block_of t 0) 2 0 ≤ max_nodes = (first_head φ (block_of t 0) e).few in omega (arith, n-is, byte-2 t)
      few (suc b) h e = h (omega arith)

      pub few-after : (b : ℕ) (a : Answer) → (0 < b → n ≤ max_nodes) → asked a ≡ ask_block_def φ n nodes b (block_of t b) → a ≡ Done → n ≤ max_nodes
      few-after b a h e d = few b h (block-ok φ n nodes b (block_of t b) (sym e ∙ ap asked d)).heads

    pub blocks_end : (b : ℕ) → block_count ≤ b → ask_blocks φ t (block_count - b) b ≡ passed tt
    blocks_end b h = unfold ask_blocks in let m : block_count - b ≡ 0 = omega arith in ap (λ x. ask_blocks φ t x b) m
