-- A sheet closed and opened again is the same.
use mathlib.Core.Path.{◌≡◌, sym, ap, ◌∙◌}
use mathlib.Core.Bool.{true}
use mathlib.Core.List.{List}
use Prim.Native.Nat.{ℕ}
use Rattle.answer.specs.Asked.{Asked, passed, after}
use Rattle.answer.proofs.AskedLaws.{after_on, bind-passed, is-then}
use Rattle.bitset.specs.Words.{Bytes}
use Rattle.logic.specs.Syntax.{Expr, rule}
use Rattle.logic.specs.Graph.{Graph}
use Rattle.logic.specs.Limits.{Within}
use Rattle.logic.specs.Closing.{close_node_def, open_node_def, can_close_def}
use Rattle.logic.proofs.Closing.{close_open, open-close, close-within, open-within}
use Rattle.sheet.specs.Sheet.{present, store, graph_of}
use Rattle.store.proofs.StoredReads.{read_back}
use Rattle.sheet.proofs.SoundSheets.{sound-is-stored}
use Rattle.close_node.specs.Questions.{ask_node, ask_close, ask_open, closed_sheet, opened_sheet}
use Rattle.close_node.specs.Back.{GivesBack}
use Rattle.close_node.proofs.CloseStages.{Ready, found}

-- After done the sheet stores the changed graph, and the sheet before stored its own.
module _ (sheet book : List ℕ) (node : ℕ) (small : Bytes sheet) where
  abbrev Changed : Graph → List ℕ → Type 0
  Changed h t = (graph_of t ≡ h) × (sheet ≡ store (graph_of sheet))

  changed : (h : Graph) {x : Asked (Unit {0})} {rules : List (Expr rule)} → x ≡ passed tt → Ready sheet book node rules → (Within (graph_of sheet) → Within h) → Changed h (after x (λ u. store h) sheet)
  changed h e q w = let o = sound-is-stored present sheet small q.sound in (ap graph_of (after_on e _ sheet) ∙ read_back h (w o.within), o.stored)

  is-closed : (graph_of sheet).in_use node ≡ true → ask_close sheet book node ≡ passed tt → Changed (close_node_def (graph_of sheet) node) (closed_sheet sheet book node)
  unfolding ask_close closed_sheet
  is-closed u e =
      let (rules, read, rest) = bind-passed (ask_node sheet book node) _ tt (rw u at e) in
      let may : can_close_def (graph_of sheet) node ≡ true = (is-then _ 54 node _ rest).0 in
      changed (close_node_def (graph_of sheet) node) e (found sheet book node rules read) (λ w. close-within (graph_of sheet) w node may)

  is-opened : ask_open sheet book node ≡ passed tt → Changed (open_node_def (graph_of sheet) node) (opened_sheet sheet book node)
  unfolding ask_open opened_sheet
  is-opened e =
      let (rules, read, rest) = bind-passed (ask_node sheet book node) _ tt e in
      let q = found sheet book node rules read in
      changed (open_node_def (graph_of sheet) node) e q (λ w. open-within (graph_of sheet) w node q.below)

pub gives_back : GivesBack
unfolding closed_sheet opened_sheet
gives_back =
    record {
      closed_opened = λ sheet book book' node small u e f.
          let c = is-closed sheet book node small u e in
          after_on f _ _ ∙ ap (λ (g : Graph). store (open_node_def g node)) c.0 ∙ ap store (close_open (graph_of sheet) node u) ∙ sym c.1;
      opened_closed = λ sheet book book' node small u e f.
          let c = is-opened sheet book node small e in
          after_on f _ _ ∙ ap (λ (g : Graph). store (close_node_def g node)) c.0 ∙ ap store (open-close (graph_of sheet) node u) ∙ sym c.1;
    }
