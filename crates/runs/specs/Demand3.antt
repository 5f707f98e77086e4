-- Demand 3, sentence by sentence. proofs/Demand3 proves it.
use Rattle.std.specs.Prelude.{◌≡◌, ◌↔◌, List, [], map, ℕ, T}
use Rattle.answer.specs.Asked.{passed, ◌>>◌}
use Rattle.logic.specs.Syntax.{Expr, rule}
use Rattle.logic.specs.Lists.{All}
use Rattle.logic.specs.Meaning.{value, hold_all}
use Rattle.logic.specs.Carry.{carry, carried_book}
use Rattle.sheet.specs.Sheet.{graph_of}
use Rattle.judge.specs.Questions.{ask_rules}
use Rattle.runs.specs.Scratch.{ask_scratch}
use Rattle.apply.specs.Apply.{after_steps}
use Rattle.runs.specs.Enter.{enter_answer, enter_sheet}
use Rattle.runs.specs.Clerk.{clerk}
use Rattle.bitset.specs.Words.{Bytes}
use Rattle.runs.specs.Run.{Keeps, Call, fed, log, entered_after_each, made_in_order, Given, Condition, Ensures}

-- For a run, as one statement about the whole list of calls.
pub record RunRight (opening book : List ℕ) (calls : List Call) : Type 0 where
  -- After each call the sheet keeps the book
  pub kept : All (λ l. Keeps book l.sheet) (log book opening calls)
  -- and is, byte for byte, what the entered edits alone, in their order, leave from the opening sheet,
  pub alone : map (λ l. l.sheet) (log book opening calls)
      ≡ map (made_in_order opening) (entered_after_each [] (log book opening calls))
  -- and answers and sheets are those of the plain clerk.
  pub clerks : log book opening calls ≡ clerk opening book (map fed calls)

pub record Demand3 : Type 1 where
  -- A rule carried back holds on the sheet before exactly when the rule holds on the sheet that the edit's steps leave.
  pub carried_holds : {book edit sheet : List ℕ} (i : Given book edit sheet) (K : Expr rule)
      → T (value (graph_of sheet) (carry i.steps K)) ↔ T (value (graph_of (after_steps i.steps sheet)) K)
  -- Whatever condition on the sheet before ensures the rules after, it holds only where all carried rules do.
  pub weakest : {book edit : List ℕ} (C : Condition book edit) → Ensures C → (sheet : List ℕ) (c : C.has sheet)
      → T (hold_all (graph_of sheet) (carried_book (C.given sheet c).steps (C.given sheet c).rules))
  -- They are such a condition themselves: where they all hold, the steps leave a sheet that keeps the book.
  pub carried_ensure : {book edit sheet : List ℕ} (i : Given book edit sheet)
      → T (hold_all (graph_of sheet) (carried_book i.steps i.rules)) → Keeps book (after_steps i.steps sheet)
  -- Where the carried book is within its limits and the scratch is long enough, the edit is entered exactly when all of them hold; the sheet is then
  -- the one that its steps leave. Long enough means: not shorter than the longest single carried rule (item 10 of document 02).
  pub entered_when : {book edit sheet : List ℕ} (i : Given book edit sheet) (room : ℕ)
      → ask_scratch (carried_book i.steps i.rules) room ≡ passed tt
      → (enter_answer sheet book edit room ≡ passed tt) ↔ T (hold_all (graph_of sheet) (carried_book i.steps i.rules))
  pub entered_leaves : {book edit sheet : List ℕ} (i : Given book edit sheet) (room : ℕ)
      → enter_answer sheet book edit room ≡ passed tt → enter_sheet sheet book edit room ≡ after_steps i.steps sheet
  -- Outside of runs too, on every sound sheet, even one that breaks the book: the answer is the first no of 31 to 33 for the carried book, else 41 with
  -- the first rule of the book itself that does not hold on the sheet that the steps leave, else done.
  pub enter_answers : {book edit sheet : List ℕ} (i : Given book edit sheet) (room : ℕ)
      → enter_answer sheet book edit room
      ≡ (ask_scratch (carried_book i.steps i.rules) room >> ask_rules (graph_of (after_steps i.steps sheet)) i.rules 0)
  -- For every list of enter calls under one book, refused ones included, from a sheet that keeps the book.
  pub every_run : (opening book : List ℕ) (calls : List Call) → Bytes opening → Keeps book opening → RunRight opening book calls
