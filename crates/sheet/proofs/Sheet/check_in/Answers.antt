use mathlib.Core.Path.{◌≡◌, refl, sym, ap, ◌∙◌}
use mathlib.Core.List.{List}
use Prim.Native.Nat.{ℕ, ◌+◌, ◌-◌, ◌*◌, ◌≤◌}
use native.Mathlib.Omega.{arith}
use borrow.Author.Rules.{rules}
use lib.ListN.{length, get_or, take, drop}
use Rattle.answer.specs.declared.Answer.{Answer}
use Rattle.answer.specs.Answers.{asked}
use Rattle.answer.specs.Asked.{is, ◌>>◌}
use Rattle.logic.specs.Graph.{Nodes, is_node}
use Rattle.logic.specs.Limits.{max_nodes}
use Rattle.bitset.specs.Words.{set_of}
use Rattle.seal.specs.Seal.{block_bytes}
use Rattle.sheet.specs.SheetForms.{form_in}
use Rattle.sheet.specs.Masks.{Told}
use Rattle.sheet.specs.Questions.{block_of, head_right_def, ask_block_def, ask_sheet_in}
use Rattle.sheet.specs.Sheet.{SheetForm, graph_in}
use Rattle.sheet.proofs.BlockParts.{length-block, part-is}
use Rattle.sheet.proofs.SheetQuestionLaws.{right-length, block-next, block-stop, few, few-after, blocks_end, told_of}
use Rattle.sheet.proofs.Sheet.check_in.Goals as goal

-- block b of sheet t, as the part that is passed to the call
abbrev part : List ℕ → ℕ → List ℕ
part t b = take (block_bytes * b + block_bytes - block_bytes * b) (drop (block_bytes * b) t)

module _ (φ : SheetForm) (t : List ℕ) (all : ℕ) (word : get_or t 2 0 ≤ max_nodes → all ≡ set_of 64 (is_node (graph_in φ t))) (b : ℕ) where
  abbrev nodes : Nodes
  nodes = is_node (graph_in φ t)

  told : Told φ (part t b) b (get_or t 2 0) all nodes
  told = told_of φ t (get_or t 2 0) all refl word b _ (part-is t b)

  answered : (a : Answer) → ((v : Nodes) → Told φ (part t b) b (get_or t 2 0) all v → asked a ≡ ask_block_def φ (get_or t 2 0) v b (part t b)) → asked a ≡ ask_block_def φ (get_or t 2 0) nodes b (block_of t b)
  answered a e = e nodes told ∙ ap (ask_block_def φ (get_or t 2 0) nodes b) (part-is t b)

pub returns-then-sheet-ne-BYTES : goal.returns-then-sheet-ne-BYTES
returns-then-sheet-ne-BYTES c = unfold ask_sheet_in is ◌>>◌ in search rules

pub loop-b-init : goal.loop-b-init
loop-b-init c = (λ h. absurd (omega arith), right-length (form_in c.args.sums c.args.held) c.args.sheet.now c.if-sheet-ne-BYTES.false)

pub ask_block-answer-requires : goal.ask_block-answer-requires
ask_block-answer-requires c =
    let t = c.args.sheet.now in
    let φ = form_in c.args.sums c.args.held in
    let l = c.loop-b in (
      ap length (part-is t l.b) ∙ length-block t c.if-sheet-ne-BYTES.false l.b c.loop-b-test.true,
      λ e. few φ t _ refl l.b l.invariant.0 (ap (head_right_def φ l.b) (sym (part-is t l.b)) ∙ e),
      record { nodes = nodes φ t _ (c.nodes_told-all.ensures φ refl) l.b; told = told φ t _ (c.nodes_told-all.ensures φ refl) l.b },
      c.loop-b-test.true,
    )

pub returns-in_default : goal.returns-in_default
returns-in_default c =
    let t = c.args.sheet.now in
    let φ = form_in c.args.sums c.args.held in
    let l = c.loop-b in
    let r = c.ask_block-answer in
    block-stop φ t _ refl l.b r.result _ c.loop-b-test.true (answered φ t _ (c.nodes_told-all.ensures φ refl) l.b r.result r.ensures) c.in_default.is ∙ sym l.invariant.1

pub loop-b-preserved : goal.loop-b-preserved
loop-b-preserved c =
    let t = c.args.sheet.now in
    let φ = form_in c.args.sums c.args.held in
    let l = c.loop-b in
    let r = c.ask_block-answer in
    let a = answered φ t _ (c.nodes_told-all.ensures φ refl) l.b r.result r.ensures in (
      λ h. few-after φ t _ refl l.b r.result l.invariant.0 a c.in-Done.is,
      l.invariant.1 ∙ block-next φ t _ refl l.b r.result c.loop-b-test.true a c.in-Done.is,
    )

pub returns : goal.returns
returns c = let l = c.loop-b in sym (l.invariant.1 ∙ blocks_end (form_in c.args.sums c.args.held) c.args.sheet.now l.b c.loop-b-test.false)
