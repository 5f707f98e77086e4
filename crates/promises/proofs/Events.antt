-- Every list of enter, close and open calls from a sheet that keeps the book.
use mathlib.Core.Path.{refl}
use mathlib.Core.List.{List, [], ◌∷◌}
use Prim.Native.Nat.{ℕ}
use Rattle.logic.specs.Lists.{All}
use Rattle.logic.specs.Closing.{close_node_def, open_node_def}
use Rattle.bitset.specs.Words.{Bytes}
use Rattle.sheet.specs.Sheet.{store, graph_of}
use Rattle.close_node.specs.Questions.{ask_close, ask_open, closed_sheet, opened_sheet}
use Rattle.runs.specs.Run.{Keeps}
use Rattle.promises.specs.Events.{Event, entering, closing, opening, leaves, sheets_after, runs, enter_lines, EventsRight}
use Rattle.promises.proofs.EventKept.{Good, good-next}
use Rattle.promises.proofs.EventRuns.{Begins, opened, added, ended, all_right}

module _ (book : List ℕ) where
  all-kept : (sheet : List ℕ) (es : List Event) → Good book sheet → All (Keeps book) (sheets_after book sheet es)
  unfolding sheets_after
  all-kept sheet [] g = tt
  all-kept sheet (e ∷ es) g = let n = good-next book sheet e g in (n.keeps, all-kept (leaves book sheet e) es n)

  begins : (sheet : List ℕ) (es : List Event) → Good book sheet → Begins book sheet (runs book sheet es) (enter_lines book sheet es)
  unfolding runs enter_lines closed_sheet opened_sheet
  begins sheet [] g = opened book sheet g
  begins sheet (entering c ∷ es) g = added book sheet (leaves book sheet (entering c)) c _ _ g refl (begins (leaves book sheet (entering c)) es (good-next book sheet (entering c) g))
  begins sheet (closing i ∷ es) g =
      ended book sheet (leaves book sheet (closing i)) (store (close_node_def (graph_of sheet) i)) (ask_close sheet book i) _ _ g refl (begins (leaves book sheet (closing i)) es (good-next book sheet (closing i) g))
  begins sheet (opening i ∷ es) g =
      ended book sheet (leaves book sheet (opening i)) (store (open_node_def (graph_of sheet) i)) (ask_open sheet book i) _ _ g refl (begins (leaves book sheet (opening i)) es (good-next book sheet (opening i) g))

pub events-right : (book sheet : List ℕ) (es : List Event) → Bytes sheet → Keeps book sheet → EventsRight book sheet es
events-right book sheet es bytes k =
    let g : Good book sheet = record { bytes = bytes; keeps = k } in
    let b = begins book sheet es g in
    record { kept = all-kept book sheet es g; runs_right = all_right book (runs book sheet es) b.stored; runs_are = b.lines }
