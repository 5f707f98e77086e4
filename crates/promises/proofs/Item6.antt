-- Item 6 of document 02 is kept.
use mathlib.Core.Path.{◌≡◌, refl, sym, ap, ◌∙◌}
use mathlib.Core.Bool.{Bool, true, false, ◌&&◌, and-false}
use mathlib.Core.List.{List}
use mathlib.Core.Logic.{◌⊎◌, inl, inr, ⊎_elim}
use Prim.Native.Nat.{ℕ, zero, suc, ◌+◌, ◌-◌, ◌*◌, ◌/◌, ◌%◌, ◌≤◌, ◌<◌}
use native.Mathlib.Omega.{arith}
use native.Mathlib.Decide.{dec_lt}
use lib.Dec.{ltb}
use lib.ListN.{length, get_or}
use borrow.Author.Tests.{le-ltb}
use Rattle.answer.specs.Asked.{Asked, passed, refused}
use Rattle.answer.specs.declared.Answer.TheVariants.{Done, Refused}
use Rattle.answer.specs.declared.Refusal.TheVariants.{BlockHead, NotZero}
use Rattle.logic.specs.Syntax.{Edit}
use Rattle.logic.specs.Graph.{Graph, Nodes, is_node, any_below}
use Rattle.logic.specs.Limits.{label_count, arrow_count, max_nodes}
use Rattle.logic.proofs.Below.{any-cong}
use Rattle.logic.proofs.Bools.{true-false, is_false}
use Rattle.logic.proofs.Closing.{closed_none, nominal_empty, pair-empty-from, pair-empty-to, node_in_false, pair-in-false-from, pair-in-false-to, run-in_use, only_in_use}
use Rattle.logic.proofs.Theorem.{carried}
use Rattle.seal.specs.Seal.{block_bytes, Form, seal_right_def}
use Rattle.sheet.specs.Sheet.{present, former, block_count, sheet_bytes, bit_in, used_in, blank, graph_in, graph_of}
use Rattle.sheet.specs.Questions.{block_of, head_right_def, free, zero_right_def, ask_blocks, ask_sheet, SoundIn}
use Rattle.store.specs.Converted.{converted}
use Rattle.sheet.proofs.BlockParts.{block-bit, byte-2, used-0}
use Rattle.sheet.proofs.BlockLaws.{labels-fit, label-lines, rows_fit}
use Rattle.sheet.proofs.FreeBits.{guarded, label-closed, arrow-end, arrow-start, word-bit-clear}
use Rattle.sheet.proofs.SheetQuestionLaws.{ask-3, ask-4, right-length, block-next, block-stop}
use Rattle.sheet.proofs.SoundSheets.{sound-is-stored, one_sheet}
use Rattle.store.proofs.StoredReads.{read_back}
use Rattle.store.proofs.StoredPasses.{blank-within}
use Rattle.store.proofs.ConvertedLaws.{converted-reads}
use Rattle.apply.specs.Apply.{ask_apply, applied_sheet}
use Rattle.runs.specs.Enter.{enter_answer, enter_sheet}
use Rattle.answer.proofs.AskedLaws.{after-ends}
use Rattle.runs.proofs.Leaves.{leaves}
use Rattle.runs.proofs.Demand3.{entered-applied}
use Rattle.bitset.specs.Words.{Bytes}
use Rattle.runs.proofs.After.{applied-is, applied-read, after-graph}
use Rattle.close_node.proofs.CloseStages.{found, close-already, close-kept, open-already}
use Rattle.promises.proofs.Events.{events-right}
use Rattle.promises.specs.Item6.{Closed, UpTo4, Item6}

-- The nodes in use after apply and after enter: the same after a refusal, and those of the steps after done.
module _ (sheet : List ℕ) (bytes : Bytes sheet) where
  applied-uses : (edit : List ℕ) → (graph_of (applied_sheet sheet edit)).in_use ≡ (graph_of sheet).in_use
  unfolding applied_sheet
  applied-uses edit = go (ask_apply sheet edit) refl where
    go : (x : Asked Edit) → ask_apply sheet edit ≡ x → (graph_of (applied_sheet sheet edit)).in_use ≡ (graph_of sheet).in_use
    go (passed Z) e = let (s, f) = applied-read sheet edit Z e in ap (λ t. (graph_of t).in_use) (applied-is sheet edit Z e) ∙ ap (λ (g : Graph). g.in_use) (after-graph sheet bytes s edit Z f) ∙ run-in_use Z (graph_of sheet)
    go (refused q p) e = ap (λ t. (graph_of t).in_use) (after-ends e _ sheet)

  entered-uses : (book edit : List ℕ) (room : ℕ) → (graph_of (enter_sheet sheet book edit room)).in_use ≡ (graph_of sheet).in_use
  entered-uses book edit room = go (enter_answer sheet book edit room) refl where
    go : (x : Asked (Unit {0})) → enter_answer sheet book edit room ≡ x → (graph_of (enter_sheet sheet book edit room)).in_use ≡ (graph_of sheet).in_use
    go (passed u) e = ap (λ t. (graph_of t).in_use) (entered-applied sheet book edit room bytes e) ∙ applied-uses edit
    go (refused q p) e = ap (λ t. (graph_of t).in_use) (leaves.sheet_stays sheet book edit room q p e)

-- Question 4 of block b, once everything before it has passed.
module _ (t : List ℕ) where
  abbrev nodes : Nodes
  nodes = is_node (graph_of t)

  abbrev zeros : ℕ → Bool
  zeros b = zero_right_def present (get_or t 2 0) nodes b (block_of t b)

  up_to : (b : ℕ) → b < block_count → UpTo4 t b → (m : ℕ) → m ≤ b → ask_blocks present t block_count 0 ≡ ask_blocks present t (block_count - m) m
  up_to b l u zero k = refl
  up_to b l u (suc m) k =
      up_to b l u m (omega arith) ∙ block-next present t (get_or t 2 0) refl m Done (omega arith) (sym (u.before m (omega arith))) refl
      ∙ ap (λ (x : ℕ). ask_blocks present t (block_count - x) x) (omega arith)

  answers-4 : (b : ℕ) → b < block_count → UpTo4 t b → zeros b ≡ false → ask_sheet t ≡ refused 4 b
  answers-4 b l u z =
      right-length present t u.long ∙ up_to b l u b (omega arith)
      ∙ sym (block-stop present t (get_or t 2 0) refl b (Refused (NotZero b)) (NotZero b) l (sym (ask-4 present (get_or t 2 0) nodes b (block_of t b) u.check u.head z)) refl)

  -- the head of block 0 without a node in use
  used-none : any_below (graph_of t).n (graph_of t).in_use ≡ false → any_below (get_or (block_of t 0) 2 0) (used_in present (block_of t 0)) ≡ false
  unfolding graph_in
  used-none e =
      ap (λ (m : ℕ). any_below m (used_in present (block_of t 0))) (byte-2 t) ∙ sym (any-cong (get_or t 2 0) (used_in present t) (used_in present (block_of t 0)) (λ i l. used-0 t present i)) ∙ e

  head-wrong : any_below (get_or (block_of t 0) 2 0) (used_in present (block_of t 0)) ≡ false → head_right_def present 0 (block_of t 0) ≡ false
  head-wrong e = unfold head_right_def in rw (e, and-false, and-false, and-false)

  answers-3 : length t ≡ sheet_bytes → seal_right_def present.sums (block_of t 0) ≡ true → any_below (graph_of t).n (graph_of t).in_use ≡ false → ask_sheet t ≡ refused 3 0
  answers-3 long check e =
      right-length present t long
      ∙ sym (block-stop present t (get_or t 2 0) refl 0 (Refused (BlockHead 0)) (BlockHead 0) (omega arith) (sym (ask-3 present (get_or t 2 0) nodes 0 (block_of t 0) check (head-wrong (used-none e)))) refl)

  -- a bit that is there where the zeros would be right
  wrong : (b : ℕ) → (x : Bool) → (zeros b ≡ true → x ≡ false) → x ≡ true → zeros b ≡ false
  wrong b x f e = is_false (zeros b) (λ h. true-false e (f h))

  clear : (b j q i : ℕ) → zeros b ≡ true → 16 + 8 * suc j ≤ present.sums.body_bytes → q ≡ block_bytes * b + (16 + 8 * j)
      → ((p r : ℕ) → p ≡ 16 + 8 * j + i / 8 → r ≡ i % 8 → i < 64 → free present (get_or t 2 0) nodes b p r ≡ false) → bit_in t q i ≡ false
  clear b j q i z u e f = sym (block-bit t b (16 + 8 * j) q i e (omega (arith, present.sums.whole))) ∙ word-bit-clear present (get_or t 2 0) nodes b (block_of t b) z j i u f

  label-clear : zeros 0 ≡ true → (k i : ℕ) → nodes i ≡ false → (graph_of t).labelled k i ≡ false
  unfolding graph_in
  label-clear z k i h =
      guarded k label_count _ false (λ d. clear 0 k (16 + 8 * k) i z (omega (arith, labels-fit present, label-lines present)) (omega arith)
      (λ p r e f s. let q : p % 8 * 8 + r ≡ i = omega arith in label-closed present (get_or t 2 0) nodes p r (omega arith) (ap nodes q ∙ h) (inl (omega arith))))
      (λ d. refl)

  arrow-clear : (a : ℕ) → zeros (suc a) ≡ true → (i j : ℕ) → (nodes i ≡ false) ⊎ (nodes j ≡ false) → (graph_of t).joined a i j ≡ false
  unfolding graph_in
  arrow-clear a z i j h =
      guarded a arrow_count _ false (λ d. guarded i max_nodes _ false (λ m. clear (suc a) i (block_bytes * (a + 1) + (16 + 8 * i)) j z (omega (arith, rows_fit present)) (omega arith)
      (λ p r e f s. ⊎_elim
      (λ x. let q : (p - 16) / 8 ≡ i = omega arith in arrow-start present (get_or t 2 0) nodes a p r (omega arith) (ap nodes q ∙ x))
      (λ y. let q : p % 8 * 8 + r ≡ j = omega arith in arrow-end present (get_or t 2 0) nodes a p r (omega arith) (ap nodes q ∙ y)) h)) (λ m. refl))
      (λ d. refl)

  -- an arrow that is there is of one of the 16 kinds
  kind-few : (a i j : ℕ) → (graph_of t).joined a i j ≡ true → a < arrow_count
  unfolding graph_in
  kind-few a i j e = go (dec_lt a arrow_count) where
    go : Dec (a < arrow_count) → a < arrow_count
    go (yes l) = l
    go (no l) = true-false e (ap (◌&& (ltb i max_nodes && bit_in t (block_bytes * (a + 1) + (16 + 8 * i)) j)) (le-ltb a arrow_count (omega arith)))

closed-nodes : (g : Graph) (i j : ℕ) → Closed g i ⊎ Closed g j → (is_node g i ≡ false) ⊎ (is_node g j ≡ false)
closed-nodes g i j = ⊎_elim (λ x. inl (closed_none g i x)) (λ y. inr (closed_none g j y))

all_in_use : (f : Form) (card : List ℕ) (i : ℕ) → (graph_in (former f) card).in_use i ≡ ltb i (graph_in (former f) card).n
all_in_use f card i = unfold graph_in in refl

converted-uses : (f : Form) (card : List ℕ) → Bytes card → SoundIn (former f) card → (i : ℕ) → (graph_of (converted f card)).in_use i ≡ ltb i (graph_of (converted f card)).n
converted-uses f card small sound i = rw (converted-reads f card small sound) (all_in_use f card i)

pub item_6 : Item6
item_6 = record {
  in_use_at_400 = λ t i. unfold graph_in in refl;
  part_of_the_graph = one_sheet present;
  steps_keep_them = run-in_use;
  apply_keeps_them = λ sheet edit bytes. applied-uses sheet bytes edit;
  enter_keeps_them = λ sheet book edit room bytes. entered-uses sheet bytes book edit room;
  only_in_use = λ sheet bytes sound E i c. only_in_use (graph_of sheet) (sound-is-stored present sheet bytes sound).within E i (closed_none (graph_of sheet) i c);
  nominal_empty = λ g k c. nominal_empty g k (closed_none g k c);
  pair_empty = λ g k l. ⊎_elim (λ c. pair-empty-from g k l (closed_none g k c)) (λ c. pair-empty-to g k l (closed_none g l c));
  node_in_false = λ sheet bytes sound k E c. node_in_false (graph_of sheet) (sound-is-stored present sheet bytes sound).within k E (closed_none (graph_of sheet) k c);
  pair_in_false = λ sheet bytes sound k l R.
      let w = (sound-is-stored present sheet bytes sound).within in
      ⊎_elim (λ c. pair-in-false-from (graph_of sheet) w k l R (closed_none (graph_of sheet) k c)) (λ c. pair-in-false-to (graph_of sheet) w k l R (closed_none (graph_of sheet) l c));
  no_label = λ sheet bytes sound i c k. (sound-is-stored present sheet bytes sound).within.labels_in k i (closed_none (graph_of sheet) i c);
  no_arrow = λ sheet bytes sound i j c a.
      let w = (sound-is-stored present sheet bytes sound).within.arrows_in a in
      ⊎_elim (λ x. w.starts i j (closed_none (graph_of sheet) i x)) (λ y. w.ends i j (closed_none (graph_of sheet) j y)) c;
  label_else_4 = λ sheet u k i c e. answers-4 sheet 0 (omega arith) u (wrong sheet 0 _ (λ z. label-clear sheet z k i (closed_none (graph_of sheet) i c)) e);
  arrow_else_4 = λ sheet a u i j c e.
      let l : a < arrow_count = kind-few sheet a i j e in
      answers-4 sheet (suc a) (omega arith) u (wrong sheet (suc a) _ (λ z. arrow-clear sheet a z i j (closed-nodes (graph_of sheet) i j c)) e);
  blank_in_use = λ n i l u. ap (λ (g : Graph). g.in_use i) (read_back (blank n) (blank-within n l u));
  converted_in_use = converted-uses;
  histories = events-right;
  still_exact = carried;
  close_closed = λ sheet book i rules bytes q c. let d = close-already sheet book i (found sheet book i rules q) bytes c in (sym d.0, sym d.1);
  open_open = λ sheet book i rules bytes q c. let d = open-already sheet book i (found sheet book i rules q) bytes c in (sym d.0, sym d.1);
  none_in_use_3 = answers-3;
  close_54 = λ sheet book i rules q c k. let d = close-kept sheet book i (found sheet book i rules q) c k in (sym d.0, sym d.1);
}
