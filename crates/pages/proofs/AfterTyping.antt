-- After typing, the sheet stores the graph with only those arrows or labels changed, is sound, and prints the page that was typed.
use mathlib.Core.Logic.{◌≢◌}
use mathlib.Core.Path.{◌≡◌, refl, sym, ◌∙◌, ap}
use mathlib.Core.List.{List, [], ◌∷◌}
use Prim.Native.Nat.{ℕ, zero, suc, ◌<◌}
use native.Mathlib.Omega.{arith}
use mathlib.Core.Bool.{Bool, ◌&&◌, cond}
use borrow.Author.Tests.{ne_eqb}
use Rattle.answer.specs.Asked.{passed, after}
use Rattle.answer.proofs.AskedLaws.{then-passed}
use Rattle.logic.specs.Graph.{Graph, is_node}
use Rattle.logic.specs.Limits.{Within, max_nodes}
use Rattle.logic.specs.Steps.{update}
use Rattle.bitset.specs.Words.{Bytes, set_of}
use Rattle.sheet.specs.Sheet.{present, store, graph_of, block, label_block, arrow_block, block_count}
use Rattle.sheet.specs.Questions.{block_of, ask_sheet, Sound}
use Rattle.sheet.proofs.SoundSheets.{sound-is-stored}
use Rattle.sheet.proofs.BlockLaws.{first_block, later-block}
use Rattle.store.proofs.StoredPasses.{stored-passes}
use Rattle.store.proofs.StoredReads.{read_back}
use Rattle.pages.specs.Typed.{Block, arrows, labels, ask_page, marked, typed, ask_type, typed_sheet}
use Rattle.pages.specs.Prints.{page_of}
use Rattle.pages.proofs.TypeLaws.{head-named}
use Rattle.pages.proofs.RightLines.{typed-alike, typed-within}
use Rattle.pages.proofs.PageAccepted.{Right, accepted-right, accepted-page}

-- The number of a block in the sheet.
abbrev pub block_number : Block → ℕ
block_number (arrows a) = suc a
block_number labels = 0

-- its other blocks are those of the original graph
other-labels : (g : Graph) (page : List ℕ) (a : ℕ) → label_block present (typed g page (arrows a)) ≡ label_block present g
other-labels g page a = unfold label_block typed in refl

other-arrows : (g : Graph) (page : List ℕ) (b : Block) (c : ℕ) → suc c ≢ block_number b → arrow_block present (typed g page b) c ≡ arrow_block present g c
unfolding arrow_block typed update
other-arrows g page (arrows a) c d =
    ap (λ (x : Bool). block present.sums (2 ∷ suc c ∷ 0 ∷ []) max_nodes (λ i. set_of g.n (cond x (λ i j. is_node g i && marked g page i j) (g.joined c) i))) (ne_eqb c a (λ e. d (ap suc e)))
other-arrows g page labels c d = refl

module _ (sheet page : List ℕ) (are_bytes : Bytes sheet) (b : Block) (done : ask_type sheet page ≡ passed b) where
  abbrev g : Graph
  g = graph_of sheet

  asked : Sound sheet × (ask_page g page ≡ passed b)
  asked = unfold ask_type in let p = then-passed (ask_sheet sheet) (ask_page g page) b done in (p.1, p.2)

  within : Within g
  within = (sound-is-stored present sheet are_bytes asked.0).within

  right : Right g page b
  right = accepted-right g page b asked.1

  whole : Within (typed g page b)
  whole = typed-within g page within b (head-named g.n page b right.head).0

  pub sheet_after : typed_sheet sheet page ≡ store (typed g page b)
  sheet_after = unfold typed_sheet after in ap (λ x. after x (λ c. store (typed g page c)) sheet) done

  pub sound-after : Sound (typed_sheet sheet page)
  sound-after = ap ask_sheet sheet_after ∙ stored-passes (typed g page b) whole

  pub graph-after : graph_of (typed_sheet sheet page) ≡ typed g page b
  graph-after = ap graph_of sheet_after ∙ read_back (typed g page b) whole

  -- The nodes in use are unchanged.
  pub used-after : (graph_of (typed_sheet sheet page)).in_use ≡ g.in_use
  used-after = ap (λ (h : Graph). h.in_use) graph-after ∙ (typed-alike g page b).in_use

  -- The block's page is now the page that was typed.
  pub page-after : page_of (graph_of (typed_sheet sheet page)) b ≡ page
  page-after = ap (λ h. page_of h b) graph-after ∙ sym (accepted-page g page b right)

  -- Every other block is unchanged.
  pub others-after : (c : ℕ) → c < block_count → c ≢ block_number b → block_of (typed_sheet sheet page) c ≡ block_of sheet c
  others-after c l d = ap (λ t. block_of t c) sheet_after ∙ same c b l d ∙ ap (λ t. block_of t c) (sym (sound-is-stored present sheet are_bytes asked.0).stored) where
    same : (c : ℕ) (b : Block) → c < block_count → c ≢ block_number b → block_of (store (typed g page b)) c ≡ block_of (store g) c
    same zero (arrows a) l d = first_block present (typed g page (arrows a)) ∙ other-labels g page a ∙ sym (first_block present g)
    same zero labels l d = absurd (d refl)
    same (suc c) b l d = later-block present (typed g page b) c (omega arith) ∙ other-arrows g page b c d ∙ sym (later-block present g c (omega arith))
