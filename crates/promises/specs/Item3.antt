-- Item 3 of document 02: counts that say nothing. proofs/Item3 proves it.
use Rattle.std.specs.Prelude.{◌≡◌, List, ℕ, ◌≤◌, length}
use Rattle.answer.specs.Asked.{passed}
use Rattle.logic.specs.Syntax.{Expr, rule}
use Rattle.logic.specs.Limits.{max_nodes}
use Rattle.sheet.specs.Sheet.{graph_of}
use Rattle.sheet.specs.Questions.{Sound}
use Rattle.text.specs.Reading.{text_limits, former_limits_def}
use Rattle.text.specs.Questions.{ask_book}
use Rattle.rewrite_counts.specs.Rewritten.{ask_rewritten}
use Rattle.rewrite_counts.specs.OnSheet.{OnSheet}
use Rattle.bitset.specs.Words.{Bytes}

pub record Item3 : Type 0 where
  -- "Stored books pass once through a rewriter": rewriting again changes nothing, and a book that passes today's questions is left as it is.
  pub once : (book bytes : List ℕ) → ask_rewritten book ≡ passed bytes → ask_rewritten bytes ≡ passed bytes
  pub left_alone : (n : ℕ) → n ≤ max_nodes → (book : List ℕ) (rules : List (Expr rule)) → ask_book (text_limits n) book ≡ passed rules → ask_rewritten book ≡ passed book
  -- It does not become longer.
  pub no_longer : (book bytes : List ℕ) → ask_rewritten book ≡ passed bytes → length bytes ≤ length book
  -- "and truth on every sheet that the old book's node numbers fit is the same as before": it is rewritten, passes on that sheet, and each rule
  -- has the same truth as before.
  pub on_every_sheet : (sheet : List ℕ) → Bytes sheet → Sound sheet → (book : List ℕ) (rules : List (Expr rule)) → ask_book (former_limits_def (graph_of sheet).n) book ≡ passed rules → OnSheet (graph_of sheet) book rules
