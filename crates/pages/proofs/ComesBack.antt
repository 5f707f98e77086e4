-- Every printed page is accepted and gives back the sheet it came from, byte for byte.
use mathlib.Core.Path.{◌≡◌, refl, sym, ◌∙◌, ap, fun_ext}
use mathlib.Core.Bool.{Bool, true, false, cond}
use mathlib.Core.List.{List}
use Prim.Native.Nat.{ℕ}
use native.Mathlib.Omega.{arith}
use native.Mathlib.Decide.{dec_lt}
use borrow.Author.Tests.{lt-ltb, le-ltb, ltb-true, eqb-true}
use lib.Dec.{eqb, ltb, leb}
use lib.ListN.{length}
use Rattle.answer.specs.Asked.{passed, ◌>>◌, is, after}
use Rattle.answer.specs.Outputs.{ask_room}
use Rattle.logic.specs.Graph.{Graph}
use Rattle.logic.specs.Limits.{Within, label_count, arrow_count}
use Rattle.logic.specs.Steps.{update, rejoin}
use Rattle.logic.proofs.Inside.{no_node}
use Rattle.bitset.specs.Words.{Bytes}
use Rattle.sheet.specs.Sheet.{present, store, graph_of, relabel_all}
use Rattle.sheet.specs.Questions.{ask_sheet, Sound}
use Rattle.answer.proofs.AskedLaws.{passed-same, is-yes, then-passed}
use Rattle.sheet.proofs.SoundSheets.{sound-is-stored}
use Rattle.pages.specs.Page.{arrow_page_def, label_page_def}
use Rattle.pages.specs.Print.{ask_print_arrow, ask_print_labels}
use Rattle.pages.specs.Typed.{Block, arrows, labels, ask_page, typed, ask_type, typed_sheet}
use Rattle.pages.specs.Prints.{page_of, HasBlock, Alike}
use Rattle.pages.proofs.RightLines.{shown-printed}
use Rattle.pages.proofs.PageAccepted.{printed-right, right-accepted}

itself : (g : Graph) → Alike g g
itself g = record { nodes = refl; in_use = refl }

-- a graph's page shows what the graph has, also in a graph like it
module _ (g : Graph) (w : Within g) where
  module _ (h : Graph) (e : Alike h g) where
    pub arrows-into : (a : ℕ) → typed h (arrow_page_def g a) (arrows a) ≡ rejoin h a (g.joined a)
    unfolding typed
    arrows-into a = ap (rejoin h a) (fun_ext (λ i. fun_ext (λ j. elim (dec_lt i h.n) [
      | yes l ↦ shown-printed h g e w (arrows a) i l j
      | no l ↦ rw (no_node h i (omega arith)) (sym ((w.arrows_in a).starts i j (no_node g i (omega (arith, e.nodes)))))
    ])))

    pub labels-into : typed h (label_page_def g) labels ≡ relabel_all h g.labelled
    unfolding typed
    labels-into = ap (relabel_all h) (fun_ext (λ k. fun_ext (λ i. elim (dec_lt k label_count) [
      | yes l ↦ rw (lt-ltb k label_count l) (rw (lt-ltb k label_count l) at (shown-printed h g e w labels k (omega arith) i))
      | no l ↦ rw (le-ltb k label_count (omega arith)) (sym (w.no_more_labels k i (omega arith)))
    ])))

  -- and the graph itself is unchanged
  pub same_graph : (b : Block) → typed g (page_of g b) b ≡ g
  unfolding update
  same_graph (arrows a) = arrows-into g (itself g) a ∙ (λ t. record { n = g.n; in_use = g.in_use; labelled = g.labelled; joined = fun_ext (λ c. go c (eqb c a) refl) t }) where
    go : (c : ℕ) (x : Bool) → eqb c a ≡ x → cond x (g.joined a) (g.joined c) ≡ g.joined c
    go c true e = ap g.joined (sym (eqb-true c a e))
    go c false e = refl
  same_graph labels = labels-into g (itself g)

-- The page of a block of a sound sheet, typed into a sound sheet like it.
module _ (first second : List ℕ) (first_bytes : Bytes first) (first-sound : Sound first) (second-sound : Sound second) (e : Alike (graph_of second) (graph_of first)) where
  pub page-accepted : (b : Block) → HasBlock b → ask_type second (page_of (graph_of first) b) ≡ passed b
  unfolding ask_type ◌>>◌
  page-accepted b h =
      ap (λ x. x >> ask_page (graph_of second) (page_of (graph_of first) b)) second-sound
      ∙ right-accepted (graph_of second) (page_of (graph_of first) b) b (printed-right (graph_of second) (graph_of first) (sound-is-stored present first first_bytes first-sound).within e b h)

-- What printing requires: the sheet is sound and has the block, and the page is that block's.
pub record Printed (sheet page : List ℕ) (b : Block) : Type 0 where
  pub sound : Sound sheet
  pub block : HasBlock b
  pub is_page : page ≡ page_of (graph_of sheet) b

module _ (sheet : List ℕ) (room : ℕ) (page : List ℕ) where
  room-page : (p : List ℕ) → ask_room p room ≡ passed page → page ≡ p
  room-page p e = unfold ask_room in passed-same (sym (then-passed (is (leb (length p) room) 33 (length p)) (passed p) page e).2)

  pub arrow-printed : (a : ℕ) → ask_print_arrow sheet a room ≡ passed page → Printed sheet page (arrows a)
  unfolding ask_print_arrow
  arrow-printed a e =
      let r = then-passed (ask_sheet sheet) (is (ltb a arrow_count) 7 0 >> ask_room (arrow_page_def (graph_of sheet) a) room) page e in
      let q = then-passed (is (ltb a arrow_count) 7 0) (ask_room (arrow_page_def (graph_of sheet) a) room) page r.2 in
      record { sound = r.1; block = ltb-true a arrow_count (is-yes (ltb a arrow_count) 7 0 q.1); is_page = room-page (arrow_page_def (graph_of sheet) a) q.2 }

  pub labels-printed : ask_print_labels sheet room ≡ passed page → Printed sheet page labels
  unfolding ask_print_labels
  labels-printed e =
      let r = then-passed (ask_sheet sheet) (ask_room (label_page_def (graph_of sheet)) room) page e in
      record { sound = r.1; block = tt; is_page = room-page (label_page_def (graph_of sheet)) r.2 }

-- EVERY PAGE PRINTED: what either call writes, typed back, becomes the block it came from, and the sheet is unchanged.
module _ (sheet : List ℕ) (are_bytes : Bytes sheet) (room : ℕ) (page : List ℕ) where
  abbrev Back : Block → Type 0
  Back b = (ask_type sheet page ≡ passed b) × (typed_sheet sheet page ≡ sheet)

  back : (b : Block) → Printed sheet page b → Back b
  unfolding typed_sheet after
  back b s =
      let g : Graph = graph_of sheet in
      let o = sound-is-stored present sheet are_bytes s.sound in
      let p = page-accepted sheet sheet are_bytes s.sound s.sound (itself g) b s.block in
      (ap (ask_type sheet) s.is_page ∙ p, ap (typed_sheet sheet) s.is_page ∙ ap (λ x. after x (λ c. store (typed g (page_of g b) c)) sheet) p ∙ ap store (same_graph g o.within b) ∙ sym o.stored)

  pub arrow-page-back : (a : ℕ) → ask_print_arrow sheet a room ≡ passed page → Back (arrows a)
  arrow-page-back a e = back (arrows a) (arrow-printed sheet room page a e)

  pub label-page-back : ask_print_labels sheet room ≡ passed page → Back labels
  label-page-back e = back labels (labels-printed sheet room page e)
