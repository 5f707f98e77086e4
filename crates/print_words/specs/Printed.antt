-- The words of codes that begin with a row of items at level 1.
use Rattle.std.specs.Prelude.{List, ℕ}
use Rattle.answer.specs.Asked.{Asked, ◌>>=◌, ◌>>◌}
use Rattle.answer.specs.Outputs.{ask_room}
use Rattle.names.specs.Names.{Naming, name_in, ask_names}
use Rattle.notation.specs.Spell.{spell}
use Rattle.notation.specs.Layout.{laid}
use Rattle.keywords.specs.Rows.{row_goals}

abbrev pub printed : Naming → (codes : List ℕ) (start rules : ℕ) → List ℕ
printed name codes start rules = laid (spell name codes (row_goals start 1) rules)

-- Printing with a naming: 33.
abbrev pub ask_printed : Naming → (codes : List ℕ) (start rules room : ℕ) → Asked (List ℕ)
ask_printed name codes start rules room = ask_room (printed name codes start rules) room

-- Printing with a table of names: 63, the text's own questions, 33.
unfoldable pub ask_to_words : (table : List ℕ) (text : Asked (Unit {0})) (codes : List ℕ) (start rules room : ℕ) → Asked (List ℕ)
ask_to_words table text codes start rules room = do
  es ← ask_names table
  text
  ask_printed (name_in es) codes start rules room
