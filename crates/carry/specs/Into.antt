-- 31 to 33 for a carried book: the answer, and the output afterwards.
use Rattle.std.specs.Prelude.{◌≡◌, List, ℕ, Result, length}
use Rattle.answer.specs.declared.Refusal.{Refusal}
use Rattle.answer.specs.Answers.{result_asked}
use Rattle.answer.specs.Asked.{passed, ◌>>◌, after}
use Rattle.answer.specs.Outputs.{written_at_start}
use Rattle.logic.specs.Syntax.{rule, Expr}
use Rattle.text.specs.Code.{book_code}
use Rattle.carry.specs.Carrying.{ask_size}

pub record Into (carried : List (Expr rule)) (answer : Result ℕ Refusal) (output output' : List ℕ) : Type 0 where
  pub answer_is : result_asked answer ≡ (ask_size carried (length output) >> passed (length (book_code carried)))
  pub output_is : output' ≡ after (ask_size carried (length output)) (λ u. written_at_start (book_code carried) output) output
