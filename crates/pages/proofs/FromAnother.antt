-- A page printed from one sheet and typed into another with the same n and nodes in use gives the second sheet that block of the first.
use mathlib.Core.Path.{◌≡◌, refl, sym, ◌∙◌, ap, ap₂}
use mathlib.Core.Bool.{Bool, cond}
use mathlib.Core.List.{List, [], ◌∷◌}
use Prim.Native.Nat.{ℕ, suc}
use borrow.Author.Tests.{eq-eqb}
use lib.Dec.{ltb}
use Rattle.answer.specs.Asked.{passed}
use Rattle.logic.specs.Graph.{Graph, Nodes}
use Rattle.logic.specs.Limits.{Within, max_nodes, label_count}
use Rattle.logic.specs.Steps.{update, rejoin}
use Rattle.bitset.specs.Words.{Bytes, set_of}
use Rattle.sheet.specs.Sheet.{present, store, graph_of, block, label_block, arrow_block, line_count, relabel_all}
use Rattle.sheet.specs.Questions.{block_of, Sound}
use Rattle.sheet.proofs.SoundSheets.{sound-is-stored}
use Rattle.sheet.proofs.BlockLaws.{first_block, later-block}
use Rattle.pages.specs.Typed.{Block, arrows, labels, typed, ask_type, typed_sheet}
use Rattle.pages.specs.Prints.{page_of, HasBlock, Alike}
use Rattle.pages.proofs.ComesBack.{arrows-into, labels-into, page-accepted, Printed}
use Rattle.pages.proofs.AfterTyping.{block_number, sheet_after}

-- the blocks of two graphs that are alike and have the same arrows of a kind, or the same labels
module _ (g h : Graph) (e : Alike h g) where
  same-arrows : (a : ℕ) → arrow_block present (rejoin h a (g.joined a)) a ≡ arrow_block present g a
  unfolding arrow_block update
  same-arrows a =
      ap₂ (λ (m : ℕ) (x : Bool). block present.sums (2 ∷ suc a ∷ 0 ∷ []) max_nodes (λ i. set_of m (cond x (g.joined a) (h.joined a) i))) (sym e.nodes) (eq-eqb a a refl)

  same-labels : label_block present (relabel_all h g.labelled) ≡ label_block present g
  unfolding label_block
  same-labels =
      sym (ap₂ (λ (m : ℕ) (u : Nodes). block present.sums (1 ∷ 0 ∷ m ∷ []) (line_count present) (λ k. set_of m (cond (ltb k label_count) (g.labelled k) u))) e.nodes e.in_use)

  same_block : Within g → (b : Block) → HasBlock b → block_of (store (typed h (page_of g b) b)) (block_number b) ≡ block_of (store g) (block_number b)
  same_block w (arrows a) l = ap (λ x. block_of (store x) (suc a)) (arrows-into g w h e a) ∙ later-block present (rejoin h a (g.joined a)) a l ∙ same-arrows a ∙ sym (later-block present g a l)
  same_block w labels l = ap (λ x. block_of (store x) 0) (labels-into g w h e) ∙ first_block present (relabel_all h g.labelled) ∙ same-labels ∙ sym (first_block present g)

module _ (first second page : List ℕ) (first_bytes : Bytes first) (second_bytes : Bytes second) (sound : Sound second) (e : Alike (graph_of second) (graph_of first)) (b : Block) (printed : Printed first page b) where
  pub accepted : ask_type second page ≡ passed b
  accepted = ap (ask_type second) printed.is_page ∙ page-accepted first second first_bytes printed.sound sound e b printed.block

  pub becomes : block_of (typed_sheet second page) (block_number b) ≡ block_of first (block_number b)
  becomes =
      let o = sound-is-stored present first first_bytes printed.sound in
      ap (λ t. block_of t (block_number b)) (sheet_after second page second_bytes b accepted ∙ ap (λ p. store (typed (graph_of second) p b)) printed.is_page)
      ∙ same_block (graph_of first) (graph_of second) e o.within b printed.block ∙ ap (λ t. block_of t (block_number b)) (sym o.stored)
