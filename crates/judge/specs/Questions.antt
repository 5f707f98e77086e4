-- The questions of judging a book on a sheet ("The questions, in order" of document 01); enter asks all of them except the last, too.
use Rattle.std.specs.Prelude.{List, [], ◌∷◌, ℕ, suc}
use Rattle.answer.specs.Asked.{Asked, passed, ◌>>=◌, ◌>>◌, is}
use Rattle.logic.specs.Syntax.{Expr, rule}
use Rattle.logic.specs.Graph.{Graph}
use Rattle.logic.specs.Meaning.{value}
use Rattle.sheet.specs.Sheet.{graph_of}
use Rattle.sheet.specs.Questions.{ask_sheet}
use Rattle.text.specs.Reading.{text_limits}
use Rattle.text.specs.Questions.{ask_book}

-- 41: the first rule that does not hold, counted from i.
unfoldable pub ask_rules : Graph → List (Expr rule) → ℕ → Asked (Unit {0})
ask_rules g [] i = passed tt
ask_rules g (K ∷ book) i = do
  is (value g K) 41 i
  ask_rules g book (suc i)

-- Sheet, then book: the result is the rules.
unfoldable pub ask_sheet_and_book : List ℕ → List ℕ → Asked (List (Expr rule))
ask_sheet_and_book sheet book = do
  ask_sheet sheet
  ask_book (text_limits (graph_of sheet).n) book

-- Judge: sheet, then book, then each rule.
unfoldable pub ask_judge : List ℕ → List ℕ → Asked (Unit {0})
ask_judge sheet book = do
  rules ← ask_sheet_and_book sheet book
  ask_rules (graph_of sheet) rules 0
