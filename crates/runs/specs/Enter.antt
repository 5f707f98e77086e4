-- Enter on bytes: its answer, and what sheet and scratch hold afterwards, for every input ("The questions, in order" of document 01, and item 10 of
-- document 02).
use Rattle.std.specs.Prelude.{List, ℕ, length}
use Rattle.answer.specs.Asked.{Asked, passed, ◌>>=◌, ◌>>◌, after, outcome}
use Rattle.logic.specs.Syntax.{Expr, rule, Edit}
use Rattle.logic.specs.Carry.{carried_book}
use Rattle.sheet.specs.Sheet.{graph_of}
use Rattle.text.specs.Reading.{text_limits}
use Rattle.text.specs.Questions.{ask_edit}
use Rattle.judge.specs.Questions.{ask_sheet_and_book, ask_rules}
use Rattle.runs.specs.Scratch.{ask_scratch, writings}
use Rattle.apply.specs.Apply.{after_steps}

-- The result of the questions before 41: the steps of the edit, and the rules of the book carried back through them.
pub record StepsAndCarried : Type 0 where
  pub steps : Edit
  pub carried : List (Expr rule)

-- Sheet, then book, then edit, then a scratch of that many bytes: 1 to 33. It must have room for one carried rule at a time.
unfoldable pub ask_before41 : (sheet book edit : List ℕ) (room : ℕ) → Asked StepsAndCarried
ask_before41 sheet book edit room = do
  rules ← ask_sheet_and_book sheet book
  Z ← ask_edit (text_limits (graph_of sheet).n) edit
  ask_scratch (carried_book Z rules) room
  passed (record { steps = Z; carried = carried_book Z rules })

-- Then 41: does each rule hold after the edit? The carried rules are evaluated on the sheet as it is. The result is the edit.
unfoldable pub ask_enter : (sheet book edit : List ℕ) (room : ℕ) → Asked Edit
ask_enter sheet book edit room = do
  c ← ask_before41 sheet book edit room
  ask_rules (graph_of sheet) c.carried 0
  passed c.steps

-- The answer.
abbrev pub enter_answer : (sheet book edit : List ℕ) (room : ℕ) → Asked (Unit {0})
enter_answer sheet book edit room = outcome (ask_enter sheet book edit room)

-- The sheet afterwards: only done changes the sheet.
unfoldable pub enter_sheet : (sheet book edit : List ℕ) (room : ℕ) → List ℕ
enter_sheet sheet book edit room = after (ask_enter sheet book edit room) (λ Z. after_steps Z sheet) sheet

-- The scratch afterwards. After done or 41 (when 1 to 33 have passed) it is what the writings leave: each carried rule at its start over the previous
-- one, up to the first broken one.
unfoldable pub enter_scratch : (sheet book edit scratch : List ℕ) → List ℕ
enter_scratch sheet book edit scratch =
    after (ask_before41 sheet book edit (length scratch)) (λ c. writings (graph_of sheet) c.carried scratch) scratch
