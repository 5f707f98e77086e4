-- Printing a page into an output: 1 to 4 of the sheet, 7 for a kind above 15, 33 for a short output. The result is the page.
use Rattle.std.specs.Prelude.{List, ℕ, ltb}
use Rattle.answer.specs.Asked.{Asked, ◌>>◌, is}
use Rattle.answer.specs.Outputs.{ask_room}
use Rattle.logic.specs.Limits.{arrow_count}
use Rattle.sheet.specs.Sheet.{graph_of}
use Rattle.sheet.specs.Questions.{ask_sheet}
use Rattle.pages.specs.Page.{arrow_page_def, label_page_def}

unfoldable pub ask_print_arrow : List ℕ → (arrow room : ℕ) → Asked (List ℕ)
ask_print_arrow sheet arrow room = do
  ask_sheet sheet
  is (ltb arrow arrow_count) 7 0
  ask_room (arrow_page_def (graph_of sheet) arrow) room

unfoldable pub ask_print_labels : List ℕ → (room : ℕ) → Asked (List ℕ)
ask_print_labels sheet room = do
  ask_sheet sheet
  ask_room (label_page_def (graph_of sheet)) room
