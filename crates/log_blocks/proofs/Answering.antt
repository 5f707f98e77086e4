-- What is kept of an edit gets the same answer as the whole edit.
use mathlib.Core.Path.{◌≡◌, ap}
use mathlib.Core.List.{List}
use Prim.Native.Nat.{ℕ}
use Rattle.answer.specs.Asked.{Asked, passed, ◌>>=◌, ◌>>◌, after, outcome}
use Rattle.logic.specs.Syntax.{Edit}
use Rattle.logic.specs.Carry.{carried_book}
use Rattle.sheet.specs.Sheet.{graph_of}
use Rattle.judge.specs.Questions.{ask_sheet_and_book, ask_rules}
use Rattle.runs.specs.Scratch.{ask_scratch}
use Rattle.apply.specs.Apply.{after_steps}
use Rattle.runs.specs.Enter.{StepsAndCarried, ask_before41, ask_enter, enter_sheet}
use Rattle.printed.specs.AnswerLine.{asked_line}
use Rattle.printed.specs.Printed.{scratch_bytes, printed_line, printed_sheet}
use Rattle.log_blocks.specs.Taken.{kept}
use Rattle.log_blocks.proofs.KeptLaws.{kept-asked}

-- the questions, by the edit's own answer
before-41 : (sheet book : List ℕ) (room : ℕ) → Asked Edit → Asked StepsAndCarried
before-41 sheet book room q = do
  rules ← ask_sheet_and_book sheet book
  Z ← q
  ask_scratch (carried_book Z rules) room
  passed (record { steps = Z; carried = carried_book Z rules })

module _ (sheet book edit : List ℕ) (room : ℕ) where
  kept-before : ask_before41 sheet book (kept edit) room ≡ ask_before41 sheet book edit room
  kept-before = unfold ask_before41 before-41 in ap (before-41 sheet book room) (kept-asked (graph_of sheet).n edit)

  kept-enter : ask_enter sheet book (kept edit) room ≡ ask_enter sheet book edit room
  kept-enter = unfold ask_enter in ap (λ (q : Asked StepsAndCarried). q >>= (λ c. ask_rules (graph_of sheet) c.carried 0 >> passed c.steps)) kept-before

module _ (sheet book edit : List ℕ) where
  pub kept_line : printed_line sheet book (kept edit) ≡ printed_line sheet book edit
  kept_line = ap (λ (q : Asked Edit). asked_line (outcome q)) (kept-enter sheet book edit scratch_bytes)

  pub kept-sheet : printed_sheet sheet book (kept edit) ≡ printed_sheet sheet book edit
  kept-sheet = unfold enter_sheet in ap (λ (q : Asked Edit). after q (λ Z. after_steps Z sheet) sheet) (kept-enter sheet book edit scratch_bytes)
