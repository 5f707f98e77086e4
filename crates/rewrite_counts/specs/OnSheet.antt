-- A stored book that passed on a sheet under the former ranges: what it is there after rewriting (proofs/RewrittenTruth).
use Rattle.std.specs.Prelude.{◌≡◌, List, map, ℕ}
use Rattle.answer.specs.Asked.{passed}
use Rattle.logic.specs.Syntax.{rule, Expr}
use Rattle.logic.specs.Graph.{Graph}
use Rattle.logic.specs.Meaning.{value}
use Rattle.text.specs.Reading.{text_limits}
use Rattle.text.specs.Questions.{ask_book}
use Rattle.rewrite_counts.specs.Rewritten.{rewritten_book, ask_rewritten}

-- It is rewritten, the rewritten book passes on that sheet, and each rule has the same truth as before.
pub record OnSheet (g : Graph) (book : List ℕ) (rules : List (Expr rule)) : Type 0 where
  pub bytes : List ℕ
  pub rewrites : ask_rewritten book ≡ passed bytes
  pub passes : ask_book (text_limits g.n) bytes ≡ passed (rewritten_book rules)
  pub same : map (value g) (rewritten_book rules) ≡ map (value g) rules
