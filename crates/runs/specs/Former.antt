-- Enter as it was before item 10 of document 02, kept for a single theorem (Unmoved): the scratch needed room for the whole carried book.
use Rattle.std.specs.Prelude.{List, ℕ}
use Rattle.answer.specs.Asked.{Asked, passed, ◌>>=◌, ◌>>◌, after, outcome}
use Rattle.logic.specs.Syntax.{Edit}
use Rattle.logic.specs.Carry.{carried_book}
use Rattle.sheet.specs.Sheet.{graph_of}
use Rattle.text.specs.Reading.{text_limits}
use Rattle.text.specs.Questions.{ask_edit}
use Rattle.judge.specs.Questions.{ask_sheet_and_book, ask_rules}
use Rattle.carry.specs.Carrying.{ask_size}
use Rattle.apply.specs.Apply.{after_steps}

-- Its questions; the result is the edit.
unfoldable pub former_enter : (sheet book edit : List ℕ) (room : ℕ) → Asked Edit
former_enter sheet book edit room = do
  rules ← ask_sheet_and_book sheet book
  Z ← ask_edit (text_limits (graph_of sheet).n) edit
  ask_size (carried_book Z rules) room
  ask_rules (graph_of sheet) (carried_book Z rules) 0
  passed Z

-- Its answer, and the sheet afterwards.
abbrev pub former_answer : (sheet book edit : List ℕ) (room : ℕ) → Asked (Unit {0})
former_answer sheet book edit room = outcome (former_enter sheet book edit room)

unfoldable pub former_sheet : (sheet book edit : List ℕ) (room : ℕ) → List ℕ
former_sheet sheet book edit room = after (former_enter sheet book edit room) (λ Z. after_steps Z sheet) sheet
