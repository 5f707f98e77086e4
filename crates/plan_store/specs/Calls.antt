-- What the calls leave: after done the new store or sheet, else everything as it was.
use Rattle.std.specs.Prelude.{List, ℕ, ◌-◌, length}
use Rattle.answer.specs.Asked.{after}
use Rattle.logic.specs.Steps.{update}
use Rattle.sheet.specs.Sheet.{graph_of}
use Rattle.plan_store.specs.Store.{no_plans, filled, unfilled, store_of, plans_of, place_in}
use Rattle.plan_store.specs.Questions.{ask_blank_store, ask_keep, ask_return, ask_drop}

-- No name is filled.
unfoldable pub blank_store_def : List ℕ → List ℕ
blank_store_def store = after (ask_blank_store (length store)) (λ u. store_of no_plans) store

-- The name holds the sheet's graph: "keeping again replaces".
unfoldable pub kept_store : (sheet store : List ℕ) (name : ℕ) → List ℕ
kept_store sheet store name = after (ask_keep sheet store name) (λ u. store_of (update (plans_of store) (name - 1) (filled (graph_of sheet)))) store

-- The name holds nothing.
unfoldable pub dropped_store : (store : List ℕ) (name : ℕ) → List ℕ
dropped_store store name = after (ask_drop store name) (λ u. store_of (update (plans_of store) (name - 1) unfilled)) store

-- The sheet is the kept one, byte for byte; the store is only read.
unfoldable pub returned_sheet : (sheet store : List ℕ) (name : ℕ) (book : List ℕ) → List ℕ
returned_sheet sheet store name book = after (ask_return sheet store name book) (λ u. place_in store (name - 1)) sheet
