-- Every list of calls with plans under one book, from a sheet that keeps the book.
use mathlib.Core.Path.{◌≡◌, refl}
use mathlib.Core.List.{List, [], ◌∷◌}
use Prim.Native.Nat.{ℕ, ◌-◌}
use Rattle.answer.specs.Asked.{Asked, passed, refused, after}
use Rattle.logic.specs.Closing.{close_node_def, open_node_def}
use Rattle.sheet.specs.Sheet.{store, graph_of}
use Rattle.close_node.specs.Questions.{ask_close, ask_open, closed_sheet, opened_sheet}
use Rattle.plan_store.specs.Store.{place_in}
use Rattle.plan_store.specs.Questions.{ask_return}
use Rattle.plan_store.specs.Calls.{returned_sheet}
use Rattle.runs.specs.Run.{Keeps}
use Rattle.bitset.specs.Words.{Bytes}
use Rattle.logic.specs.Lists.{All}
use Rattle.promises.specs.Events.{entering, closing, opening}
use Rattle.promises.specs.Plans.{PlanEvent, making, keeping, returning, dropping, State, left, sheets_through, runs_through, lines_through, PlannedRight}
use Rattle.promises.proofs.EventBytes.{store-next}
use Rattle.promises.proofs.EventKept.{Good, good-next}
use Rattle.promises.proofs.EventRuns.{Begins, opened, added, ended, all_right}
use Rattle.promises.proofs.Returns.{place-good}

module _ (book : List ℕ) where
  plan-next : (x : State) (c : PlanEvent) → Bytes x.store → Good book x.sheet → Good book (left book x c).sheet
  unfolding returned_sheet after
  plan-next x (making e) b g = good-next book x.sheet e g
  plan-next x (keeping v) b g = g
  plan-next x (returning v) b g = go (ask_return x.sheet x.store v book) refl where
    go : (q : Asked (Unit {0})) → ask_return x.sheet x.store v book ≡ q → Good book (after q (λ u. place_in x.store (v - 1)) x.sheet)
    go (refused n p) e = g
    go (passed u) e = place-good book x.sheet x.store v b e
  plan-next x (dropping v) b g = g

  all-kept : (x : State) (cs : List PlanEvent) → Bytes x.store → Good book x.sheet → All (Keeps book) (sheets_through book x cs)
  unfolding sheets_through
  all-kept x [] b g = tt
  all-kept x (c ∷ cs) b g = let n = plan-next x c b g in (n.keeps, all-kept (left book x c) cs (store-next book x c g.bytes b) n)

  begins : (x : State) (cs : List PlanEvent) → Bytes x.store → Good book x.sheet → Begins book x.sheet (runs_through book x cs) (lines_through book x cs)
  unfolding runs_through lines_through closed_sheet opened_sheet returned_sheet
  begins x [] b g = opened book x.sheet g
  begins x (making (entering c) ∷ cs) b g = let s = making (entering c) in added book x.sheet (left book x s).sheet c _ _ g refl (begins (left book x s) cs b (plan-next x s b g))
  begins x (making (closing i) ∷ cs) b g =
      let s = making (closing i) in ended book x.sheet (left book x s).sheet (store (close_node_def (graph_of x.sheet) i)) (ask_close x.sheet book i) _ _ g refl (begins (left book x s) cs b (plan-next x s b g))
  begins x (making (opening i) ∷ cs) b g =
      let s = making (opening i) in ended book x.sheet (left book x s).sheet (store (open_node_def (graph_of x.sheet) i)) (ask_open x.sheet book i) _ _ g refl (begins (left book x s) cs b (plan-next x s b g))
  begins x (keeping v ∷ cs) b g = begins (left book x (keeping v)) cs (store-next book x (keeping v) g.bytes b) g
  begins x (returning v ∷ cs) b g =
      let s = returning v in ended book x.sheet (left book x s).sheet (place_in x.store (v - 1)) (ask_return x.sheet x.store v book) _ _ g refl (begins (left book x s) cs b (plan-next x s b g))
  begins x (dropping v ∷ cs) b g = begins (left book x (dropping v)) cs (store-next book x (dropping v) g.bytes b) g

pub planned-right : (book : List ℕ) (x : State) (calls : List PlanEvent) → Bytes x.sheet → Bytes x.store → Keeps book x.sheet → PlannedRight book x calls
planned-right book x calls bytes b k =
    let g : Good book x.sheet = record { bytes = bytes; keeps = k } in
    let s = begins book x calls b g in
    record { kept = all-kept book x calls b g; runs_right = all_right book (runs_through book x calls) s.stored; runs_are = s.lines }
