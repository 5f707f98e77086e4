-- What a code writes first, by the number of its word and the row of what follows.
use Rattle.std.specs.Prelude.{◌≡◌, List, [], ◌∷◌, ℕ, ◌<◌, get_or, Option, Some, None}
use Rattle.names.specs.Token.{Token}
use Rattle.notation.specs.Spell.{Opens}
use Rattle.keywords.specs.Rows.{row_goals, Row}
use Rattle.keywords.specs.Phrases.{words}
use Rattle.print_words.specs.declared.print.Opened.{Opened}

-- The word of a number, if there is one.
unfoldable pub words_at : Option ℕ → List Token
words_at (Some w) = get_or words w [] ∷ []
words_at None = []

abbrev pub IsWord : Option ℕ → Type 0
IsWord (Some w) = w < 29
IsWord None = Unit {0}

-- A row of marks, numbers and things. At level 1 each thing may be wanted.
abbrev pub Known : ℕ → Type 0
Known row = Row 1 row

-- What is written first at each level.
pub record Opening (what : ℕ → Opens) (r : Opened) : Type 0 where
  pub is : (d : ℕ) → what d ≡ record { tokens = words_at r.word; then = row_goals r.row d }
  pub known : Known r.row
  pub is_word : IsWord r.word
