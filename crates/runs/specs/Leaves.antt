-- What enter leaves in sheet and scratch, by its answer, for every input (demand 1, "The questions, in order" of document 01, and
-- item 10 of document 02).
-- proofs/Leaves proves it.
use Rattle.std.specs.Prelude.{◌≡◌, ◌≢◌, ◌⊎◌, List, ℕ, length}
use Rattle.answer.specs.Asked.{passed, refused}
use Rattle.judge.specs.Questions.{ask_sheet_and_book}
use Rattle.sheet.specs.Sheet.{graph_of}
use Rattle.runs.specs.Scratch.{writings}
use Rattle.runs.specs.Enter.{StepsAndCarried, ask_before41, enter_answer, enter_sheet, enter_scratch}
use Rattle.runs.specs.Run.{Call, log}
use Rattle.logic.specs.Lists.{All}

-- The scratch after done or 41: what the writings of the carried rules leave, up to the first broken one.
pub record ScratchWritten (sheet book edit scratch : List ℕ) : Type 0 where
  pub what : StepsAndCarried
  pub passes : ask_before41 sheet book edit (length scratch) ≡ passed what
  pub written : enter_scratch sheet book edit scratch ≡ writings (graph_of sheet) what.carried scratch

pub record Leaves : Type 0 where
  -- Only done changes the sheet.
  pub sheet_stays : (sheet book edit : List ℕ) (room q p : ℕ)
      → enter_answer sheet book edit room ≡ refused q p → enter_sheet sheet book edit room ≡ sheet
  -- After every refusal except 41 the scratch is as it was.
  pub scratch_stays : (sheet book edit scratch : List ℕ) (q p : ℕ)
      → enter_answer sheet book edit (length scratch) ≡ refused q p → q ≢ 41 → enter_scratch sheet book edit scratch ≡ scratch
  -- After done or 41 it is what those writings leave.
  pub scratch_written : (sheet book edit scratch : List ℕ) (p : ℕ)
      → (enter_answer sheet book edit (length scratch) ≡ passed tt) ⊎ (enter_answer sheet book edit (length scratch) ≡ refused 41 p)
      → ScratchWritten sheet book edit scratch
  -- A sheet that is not sound, or whose book is not within the limits, stays as it is through all calls, and each gets the same refusal.
  pub others_stay : (opening book : List ℕ) (calls : List Call) (q p : ℕ) → ask_sheet_and_book opening book ≡ refused q p
      → All (λ l. (l.answer ≡ refused q p) × (l.sheet ≡ opening)) (log book opening calls)
