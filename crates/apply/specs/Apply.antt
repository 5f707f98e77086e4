-- Carrying out an edit: the sheet that its steps leave; and the call that does so, without a book.
use Rattle.std.specs.Prelude.{List, ℕ}
use Rattle.answer.specs.Asked.{Asked, ◌>>◌, after}
use Rattle.logic.specs.Syntax.{Edit}
use Rattle.logic.specs.Steps.{run}
use Rattle.sheet.specs.Sheet.{store, graph_of}
use Rattle.sheet.specs.Questions.{ask_sheet}
use Rattle.text.specs.Reading.{text_limits}
use Rattle.text.specs.Questions.{ask_edit}

-- The sheet that the steps of an edit leave: the one that stores the graph that they leave.
abbrev pub after_steps : Edit → List ℕ → List ℕ
after_steps Z sheet = store (run Z (graph_of sheet))

-- The sheet's questions, 1 to 4, then the edit's, 21 to 26. The result is the edit.
unfoldable pub ask_apply : List ℕ → List ℕ → Asked Edit
ask_apply sheet edit = do
  ask_sheet sheet
  ask_edit (text_limits (graph_of sheet).n) edit

-- The sheet afterwards: the one that the steps leave, or the sheet unchanged.
unfoldable pub applied_sheet : List ℕ → List ℕ → List ℕ
applied_sheet sheet edit = after (ask_apply sheet edit) (λ Z. after_steps Z sheet) sheet
