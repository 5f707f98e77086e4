-- Reading the words of a book or an edit into codes: 63, 64 to 70, 33.
use Rattle.std.specs.Prelude.{List, ℕ}
use Rattle.answer.specs.Asked.{Asked, ◌>>=◌}
use Rattle.answer.specs.Outputs.{ask_room}
use Rattle.names.specs.Names.{name_in, ask_names}
use Rattle.notation.specs.Words.{word_limits, ask_words}
use Rattle.keywords.specs.Rows.{row_goals}

unfoldable pub ask_from_words : (start rules : ℕ) (table text : List ℕ) (room : ℕ) → Asked (List ℕ)
ask_from_words start rules table text room = do
  es ← ask_names table
  bytes ← ask_words word_limits (name_in es) text (row_goals start 1) rules
  ask_room bytes room
