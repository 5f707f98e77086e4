-- The questions of counting (item 12 of document 02): "61, place 0, when n isn't 1 to 3, asked first, or when another label or arrow is named, asked
-- after book and edit".
use Rattle.std.specs.Prelude.{◌&&◌, List, ℕ, leb}
use Rattle.answer.specs.Asked.{Asked, passed, ◌>>=◌, ◌>>◌, is, after}
use Rattle.logic.specs.Syntax.{Expr, rule, Edit}
use Rattle.text.specs.Reading.{text_limits}
use Rattle.text.specs.Questions.{ask_book, ask_edit}
use Rattle.count_small.specs.declared.Four.{Four}
use Rattle.count_small.specs.Small.{four_counts}
use Rattle.count_small.specs.Names.{rules_only_first, edit_only_first}

-- "For n from 1 to 3"
abbrev pub most_small : ℕ
most_small = 3

-- The result of the questions: the rules of the book, and the edit.
pub record Texts : Type 0 where
  pub rules : List (Expr rule)
  pub edit : Edit

unfoldable pub ask_count : (n : ℕ) (book edit : List ℕ) → Asked Texts
ask_count n book edit = do
  is (leb 1 n && leb n most_small) 61 0
  rules ← ask_book (text_limits n) book
  Z ← ask_edit (text_limits n) edit
  is (rules_only_first rules && edit_only_first Z) 61 0
  passed (record { rules = rules; edit = Z })

-- The four counts, if all questions pass.
unfoldable pub ask_four : (n : ℕ) (book edit : List ℕ) → Asked Four
ask_four n book edit = do
  t ← ask_count n book edit
  passed (four_counts n t.rules t.edit)

-- The four counts after a refusal, each 0.
abbrev pub no_counts : Four
no_counts = record { kept = 0; lost = 0; repaired = 0; broken = 0 }

unfoldable pub counts_of : (n : ℕ) (book edit : List ℕ) → Four
counts_of n book edit = after (ask_count n book edit) (λ t. four_counts n t.rules t.edit) no_counts
