-- Books, edits and rules in words: printing and reading. The ranges are those for 60 nodes.
use Rattle.std.specs.Prelude.{cond, List, [], ◌∷◌, ℕ, eqb, leb, ltb, length, take}
use Rattle.answer.specs.Asked.{Asked, passed, refused, ◌>>=◌, ◌>>◌, is}
use Rattle.answer.specs.Outputs.{ask_room}
use Rattle.logic.specs.Syntax.{rule}
use Rattle.logic.specs.Limits.{max_nodes}
use Rattle.text.specs.Code.{code}
use Rattle.text.specs.Reading.{Limits, text_limits, carried_limits_def, most_rules}
use Rattle.text.specs.Questions.{ask_book, ask_first, ask_edit}
use Rattle.names.specs.Scan.{tokens}
use Rattle.names.specs.Names.{Naming, name_in, ask_names}
use Rattle.notation.specs.Grammar.{Goal, thing, expr, steps, text_end}
use Rattle.notation.specs.Spell.{spell}
use Rattle.notation.specs.Parse.{parse}
use Rattle.notation.specs.Layout.{laid}

-- The limits of a book or an edit; of a carried rule.
abbrev pub word_limits : Limits
word_limits = text_limits max_nodes

abbrev pub rule_limits : Limits
rule_limits = carried_limits_def max_nodes

-- What the words of a book, of an edit and of one rule must begin with. For a book that is nothing, and up to 32 rules follow; for the others none do.
abbrev pub book_goals : List Goal
book_goals = []

abbrev pub edit_goals : List Goal
edit_goals = thing (steps text_end) 1 ∷ []

abbrev pub rule_goals : List Goal
rule_goals = thing (expr rule) 1 ∷ []

-- The words for the codes of a book, an edit, a rule.
abbrev pub book_words : Naming → List ℕ → List ℕ
book_words name book = laid (spell name book book_goals most_rules)

abbrev pub edit_words : Naming → List ℕ → List ℕ
edit_words name edit = laid (spell name edit edit_goals 0)

abbrev pub rule_words : Naming → List ℕ → List ℕ
rule_words name K = laid (spell name K rule_goals 0)

-- Printing: 63 for the table, 11 to 16 for the book or 21 to 26 for the edit, 33.
unfoldable pub ask_book_to_words : (table book : List ℕ) (room : ℕ) → Asked (List ℕ)
ask_book_to_words table book room = do
  es ← ask_names table
  ask_book word_limits book
  ask_room (book_words (name_in es) book) room

unfoldable pub ask_edit_to_words : (table edit : List ℕ) (room : ℕ) → Asked (List ℕ)
ask_edit_to_words table edit room = do
  es ← ask_names table
  ask_edit word_limits edit
  ask_room (edit_words (name_in es) edit) room

-- Printing the first rule of a text, by the limits of a carried rule; no more bytes are read than such a rule may have: 63, 12 to 15, 33.
unfoldable pub ask_rule_to_words : (table text : List ℕ) (room : ℕ) → Asked (List ℕ)
ask_rule_to_words table text room = do
  es ← ask_names table
  K ← ask_first rule_limits (take rule_limits.longest text)
  ask_room (rule_words (name_in es) (code K)) room

-- Reading words: 64 to 69; then 70 if the codes are too long, with their length as the place.
module _ (l : Limits) (name : Naming) (text : List ℕ) (g : List Goal) (m : ℕ) where
  abbrev pub parse_text : Asked (List ℕ)
  parse_text = parse name l (length text) (tokens text) g m

  unfoldable pub ask_words : Asked (List ℕ)
  ask_words = do
    bytes ← parse_text
    is (leb (length bytes) l.longest) 70 (length bytes)
    passed bytes

abbrev pub read_book : Naming → List ℕ → Asked (List ℕ)
read_book name text = ask_words word_limits name text book_goals most_rules

abbrev pub read_edit : Naming → List ℕ → Asked (List ℕ)
read_edit name text = ask_words word_limits name text edit_goals 0

-- No call reads a carried rule.
abbrev pub read_rule : Naming → List ℕ → Asked (List ℕ)
read_rule name text = ask_words rule_limits name text rule_goals 0

-- Reading: 63, 64 to 70, 33.
unfoldable pub ask_book_from_words : (table text : List ℕ) (room : ℕ) → Asked (List ℕ)
ask_book_from_words table text room = do
  es ← ask_names table
  bytes ← read_book (name_in es) text
  ask_room bytes room

unfoldable pub ask_edit_from_words : (table text : List ℕ) (room : ℕ) → Asked (List ℕ)
ask_edit_from_words table text room = do
  es ← ask_names table
  bytes ← read_edit (name_in es) text
  ask_room bytes room

-- The place of a rule's first word in the words of a book, with rules counted from 0: the place of 69 if a book could have only the rules before it.
-- The words' length if there is no such rule, an earlier rule cannot be read, or the table is wrong; later faults do not matter.
unfoldable pub too_many : (end : ℕ) → Asked (List ℕ) → ℕ
too_many end (passed bytes) = end
too_many end (refused q p) = cond (eqb q 69) p end

unfoldable pub rule_in_words_def : (table text : List ℕ) (i : ℕ) → ℕ
rule_in_words_def table text i =
    cond (ltb i most_rules)
    (too_many (length text) (do
      es ← ask_names table
      parse_text word_limits (name_in es) text book_goals i))
    (length text)
