-- One call on a sheet that keeps the book leaves a sheet that keeps it.
use mathlib.Core.Path.{◌≡◌, refl, sym, ap, ◌∙◌, subst}
use mathlib.Core.Bool.{Bool, true, false, cond}
use mathlib.Core.List.{List, [], ◌∷◌}
use Prim.Native.Nat.{ℕ, ◌<◌}
use lib.ListN.{length}
use Rattle.answer.specs.Asked.{Asked, passed, refused, ◌>>◌, is, after}
use Rattle.answer.proofs.AskedLaws.{bind-passed, is-then}
use Rattle.logic.specs.Syntax.{Expr, rule}
use Rattle.logic.specs.Graph.{Graph}
use Rattle.logic.specs.Limits.{Within}
use Rattle.logic.specs.Closing.{close_node_def, open_node_def, can_close_def}
use Rattle.logic.proofs.Closing.{close-within, open-within}
use Rattle.bitset.specs.Words.{Bytes}
use Rattle.sheet.specs.Sheet.{present, store, graph_of}
use Rattle.sheet.proofs.SoundSheets.{sound-is-stored}
use Rattle.store.proofs.StoredBytes.{store-small}
use Rattle.judge.specs.Questions.{ask_rules}
use Rattle.judge.proofs.QuestionLaws.{asked-hold}
use Rattle.judge.proofs.SheetAndBook.{book-passed}
use Rattle.close_node.specs.Questions.{ask_node, ask_close, ask_open, closed_sheet, opened_sheet}
use Rattle.close_node.proofs.Uses.{use-same}
use Rattle.close_node.proofs.CloseStages.{Ready, found}
use Rattle.runs.specs.Run.{Keeps, Call, log}
use Rattle.runs.specs.Demand3.{RunRight}
use Rattle.runs.proofs.Runs.{keeps}
use Rattle.runs.proofs.Demand3.{demand_3}
use Rattle.promises.specs.Events.{Event, entering, closing, opening, leaves}
use Rattle.promises.proofs.EventBytes.{n-bytes, enter-bytes}

module _ (book : List ℕ) where
  pub record Good (sheet : List ℕ) : Type 0 where
    pub bytes : Bytes sheet
    pub keeps : Keeps book sheet

  pub good_right : (sheet : List ℕ) (calls : List Call) → Good sheet → RunRight sheet book calls
  good_right sheet calls g = demand_3.every_run sheet book calls g.bytes g.keeps

  module _ (sheet : List ℕ) (i : ℕ) (g : Good sheet) where
    within : Within (graph_of sheet)
    within = (sound-is-stored present sheet g.bytes g.keeps.sound).within

    -- a graph with as many nodes that was judged, and the same graph
    judged : {rules : List (Expr rule)} (h : Graph) → Within h → h.n ≡ (graph_of sheet).n → Ready sheet book i rules → ask_rules h rules 0 ≡ passed tt → Keeps book (store h)
    judged {rules} h w e q a = keeps book rules h (record { within = w; book_read = rw e (book-passed sheet book q.read); hold = asked-hold h rules 0 a })

    same : {h : Graph} → h ≡ graph_of sheet → Keeps book (store h)
    same e = subst (Keeps book) ((sound-is-stored present sheet g.bytes g.keeps.sound).stored ∙ ap store (sym e)) g.keeps

    close-kept : ask_close sheet book i ≡ passed tt → Keeps book (store (close_node_def (graph_of sheet) i))
    unfolding ask_close close_node_def
    close-kept e = let (rules, r, h) = bind-passed (ask_node sheet book i) _ tt e in go rules (found sheet book i rules r) ((graph_of sheet).in_use i) refl h where
      go : (rules : List (Expr rule)) → Ready sheet book i rules → (u : Bool) → (graph_of sheet).in_use i ≡ u
          → cond u (is (can_close_def (graph_of sheet) i) 54 i >> ask_rules (close_node_def (graph_of sheet) i) rules 0) (passed tt) ≡ passed tt → Keeps book (store (close_node_def (graph_of sheet) i))
      go rules q true eu h = let (c, a) = is-then _ 54 i _ h in judged (close_node_def (graph_of sheet) i) (close-within (graph_of sheet) within i c) refl q a
      go rules q false eu h = same (use-same (graph_of sheet) i false eu)

    open_kept : ask_open sheet book i ≡ passed tt → Keeps book (store (open_node_def (graph_of sheet) i))
    unfolding ask_open open_node_def
    open_kept e = let (rules, r, h) = bind-passed (ask_node sheet book i) _ tt e in go rules (found sheet book i rules r) ((graph_of sheet).in_use i) refl h where
      go : (rules : List (Expr rule)) → Ready sheet book i rules → (u : Bool) → (graph_of sheet).in_use i ≡ u
          → cond u (passed tt) (ask_rules (open_node_def (graph_of sheet) i) rules 0) ≡ passed tt → Keeps book (store (open_node_def (graph_of sheet) i))
      go rules q true eu h = same (use-same (graph_of sheet) i true eu)
      go rules q false eu h = judged (open_node_def (graph_of sheet) i) (open-within (graph_of sheet) within i q.below) refl q h

    good-after : (x : Asked (Unit {0})) (h : Graph) → h.n < 256 → (x ≡ passed tt → Keeps book (store h)) → Good (after x (λ u. store h) sheet)
    unfolding after
    good-after (passed u) h few f = record { bytes = store-small h few; keeps = f refl }
    good-after (refused n p) h few f = g

  pub good-next : (sheet : List ℕ) (e : Event) → Good sheet → Good (leaves book sheet e)
  unfolding closed_sheet opened_sheet close_node_def open_node_def log
  good-next sheet (entering c) g = record { bytes = enter-bytes sheet book c.edit (length c.scratch) g.bytes; keeps = (good_right sheet (c ∷ []) g).kept.0 }
  good-next sheet (closing i) g = good-after sheet i g (ask_close sheet book i) (close_node_def (graph_of sheet) i) (n-bytes sheet g.bytes) (close-kept sheet i g)
  good-next sheet (opening i) g = good-after sheet i g (ask_open sheet book i) (open_node_def (graph_of sheet) i) (n-bytes sheet g.bytes) (open_kept sheet i g)
