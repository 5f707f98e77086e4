-- Events: enter, close and open calls under one book, each on the sheet as the previous call left it (item 6 of document 02), and the runs
-- among them. proofs/Events proves `events-right`.
use Rattle.std.specs.Prelude.{◌≡◌, List, [], ◌∷◌, ◌++◌, ℕ, length}
use Rattle.logic.specs.Lists.{All}
use Rattle.answer.specs.Asked.{Asked, passed, refused}
use Rattle.close_node.specs.Questions.{ask_close, ask_open, closed_sheet, opened_sheet}
use Rattle.runs.specs.Enter.{enter_sheet}
use Rattle.runs.specs.Clerk.{Line}
use Rattle.runs.specs.Run.{Keeps, Call, enter_line, log}
use Rattle.runs.specs.Demand3.{RunRight}

-- A call.
pub data Event : Type 0 where
  entering : (c : Call) → Event
  closing opening : (node : ℕ) → Event

-- The sheet after it.
abbrev pub leaves : (book sheet : List ℕ) → Event → List ℕ
leaves book sheet (entering c) = enter_sheet sheet book c.edit (length c.scratch)
leaves book sheet (closing node) = closed_sheet sheet book node
leaves book sheet (opening node) = opened_sheet sheet book node

-- The sheets after each of them.
unfoldable pub sheets_after : (book sheet : List ℕ) → List Event → List (List ℕ)
sheets_after book sheet [] = []
sheets_after book sheet (e ∷ es) = leaves book sheet e ∷ sheets_after book (leaves book sheet e) es

-- A run among them: the sheet that opens it, and its enter calls.
pub record Run : Type 0 where
  pub opens : List ℕ
  pub calls : List Call

-- The first run with one more call before its calls, on that sheet.
unfoldable pub onto : List ℕ → Call → List Run → List Run
onto sheet c [] = record { opens = sheet; calls = c ∷ [] } ∷ []
onto sheet c (r ∷ rs) = record { opens = sheet; calls = c ∷ r.calls } ∷ rs

-- "Each, when done, ends that run, and its sheet opens the next under that book"; a refusal ends none.
unfoldable pub ends : Asked (Unit {0}) → List ℕ → List Run → List Run
ends (passed u) sheet rs = record { opens = sheet; calls = [] } ∷ rs
ends (refused q p) sheet rs = rs

unfoldable pub runs : (book sheet : List ℕ) → List Event → List Run
runs book sheet [] = record { opens = sheet; calls = [] } ∷ []
runs book sheet (entering c ∷ es) = onto sheet c (runs book (leaves book sheet (entering c)) es)
runs book sheet (closing node ∷ es) = ends (ask_close sheet book node) sheet (runs book (leaves book sheet (closing node)) es)
runs book sheet (opening node ∷ es) = ends (ask_open sheet book node) sheet (runs book (leaves book sheet (opening node)) es)

-- What the enter calls answer and leave: in the list of calls, and in runs, one after the other.
unfoldable pub enter_lines : (book sheet : List ℕ) → List Event → List Line
enter_lines book sheet [] = []
enter_lines book sheet (entering c ∷ es) = enter_line book sheet c ∷ enter_lines book (leaves book sheet (entering c)) es
enter_lines book sheet (closing node ∷ es) = enter_lines book (leaves book sheet (closing node)) es
enter_lines book sheet (opening node ∷ es) = enter_lines book (leaves book sheet (opening node)) es

unfoldable pub logs : (book : List ℕ) → List Run → List Line
logs book [] = []
logs book (r ∷ rs) = log book r.opens r.calls ++ logs book rs

pub record EventsRight (book sheet : List ℕ) (events : List Event) : Type 0 where
  -- After each call the sheet keeps the book.
  pub kept : All (Keeps book) (sheets_after book sheet events)
  -- Each run opens on a sheet that keeps the book, and everything that demand 3 says about runs holds for it.
  pub runs_right : All (λ r. Keeps book r.opens × RunRight r.opens book r.calls) (runs book sheet events)
  -- Enter answers and leaves the same in the list of calls as in those runs, one after the other.
  pub runs_are : enter_lines book sheet events ≡ logs book (runs book sheet events)
