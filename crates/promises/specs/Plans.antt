-- Events with plans (item 7 of document 02): keep, return and drop between the other calls, under one book, on a sheet and a store that only these
-- calls write. proofs/Plans proves `planned-right`.
use Rattle.std.specs.Prelude.{◌≡◌, List, [], ◌∷◌, ℕ}
use Rattle.close_node.specs.Questions.{ask_close, ask_open}
use Rattle.plan_store.specs.Questions.{ask_return}
use Rattle.plan_store.specs.Calls.{kept_store, returned_sheet, dropped_store}
use Rattle.runs.specs.Clerk.{Line}
use Rattle.runs.specs.Run.{Keeps, enter_line}
use Rattle.runs.specs.Demand3.{RunRight}
use Rattle.logic.specs.Lists.{All}
use Rattle.promises.specs.Events.{Event, entering, closing, opening, leaves, Run, onto, ends, logs}

-- A call: enter, close or open; keep the sheet under a name, return to the one kept there, drop it.
pub data PlanEvent : Type 0 where
  making : (e : Event) → PlanEvent
  keeping returning dropping : (name : ℕ) → PlanEvent

pub record State : Type 0 where
  pub sheet : List ℕ
  pub store : List ℕ

-- What it leaves.
abbrev pub left : (book : List ℕ) → State → PlanEvent → State
left book x (making e) = record { sheet = leaves book x.sheet e; store = x.store }
left book x (keeping name) = record { sheet = x.sheet; store = kept_store x.sheet x.store name }
left book x (returning name) = record { sheet = returned_sheet x.sheet x.store name book; store = x.store }
left book x (dropping name) = record { sheet = x.sheet; store = dropped_store x.store name }

-- The sheets after each call, the runs, what enter answers and leaves.
unfoldable pub sheets_through : (book : List ℕ) → State → List PlanEvent → List (List ℕ)
sheets_through book x [] = []
sheets_through book x (c ∷ cs) = (left book x c).sheet ∷ sheets_through book (left book x c) cs

-- "and a new run opens there"
unfoldable pub runs_through : (book : List ℕ) → State → List PlanEvent → List Run
runs_through book x [] = record { opens = x.sheet; calls = [] } ∷ []
runs_through book x (making (entering c) ∷ cs) = onto x.sheet c (runs_through book (left book x (making (entering c))) cs)
runs_through book x (making (closing node) ∷ cs) = ends (ask_close x.sheet book node) x.sheet (runs_through book (left book x (making (closing node))) cs)
runs_through book x (making (opening node) ∷ cs) = ends (ask_open x.sheet book node) x.sheet (runs_through book (left book x (making (opening node))) cs)
runs_through book x (keeping name ∷ cs) = runs_through book (left book x (keeping name)) cs
runs_through book x (returning name ∷ cs) = ends (ask_return x.sheet x.store name book) x.sheet (runs_through book (left book x (returning name)) cs)
runs_through book x (dropping name ∷ cs) = runs_through book (left book x (dropping name)) cs

unfoldable pub lines_through : (book : List ℕ) → State → List PlanEvent → List Line
lines_through book x [] = []
lines_through book x (making (entering c) ∷ cs) = enter_line book x.sheet c ∷ lines_through book (left book x (making (entering c))) cs
lines_through book x (making (closing node) ∷ cs) = lines_through book (left book x (making (closing node))) cs
lines_through book x (making (opening node) ∷ cs) = lines_through book (left book x (making (opening node))) cs
lines_through book x (keeping name ∷ cs) = lines_through book (left book x (keeping name)) cs
lines_through book x (returning name ∷ cs) = lines_through book (left book x (returning name)) cs
lines_through book x (dropping name ∷ cs) = lines_through book (left book x (dropping name)) cs

pub record PlannedRight (book : List ℕ) (x : State) (calls : List PlanEvent) : Type 0 where
  -- After each call the sheet keeps the book.
  pub kept : All (Keeps book) (sheets_through book x calls)
  -- Each run opens on a sheet that keeps the book, and everything that demand 3 says about runs holds for it.
  pub runs_right : All (λ r. Keeps book r.opens × RunRight r.opens book r.calls) (runs_through book x calls)
  -- Enter answers and leaves the same as in those runs, one after the other.
  pub runs_are : lines_through book x calls ≡ logs book (runs_through book x calls)
