-- For the inner functions: a node put into the nodes in use or taken out of them, and the changed graph judged.
use Rattle.std.specs.Prelude.{◌≡◌, Bool, List, ℕ}
use Rattle.answer.specs.Asked.{after}
use Rattle.answer.specs.Answers.{asked}
use Rattle.answer.specs.declared.Answer.{Answer}
use Rattle.logic.specs.Syntax.{Expr, rule}
use Rattle.logic.specs.Graph.{Graph}
use Rattle.logic.specs.Steps.{update}
use Rattle.logic.specs.Closing.{with_use}
use Rattle.sheet.specs.Sheet.{store}
use Rattle.judge.specs.Questions.{ask_rules}

-- The graph with the node in use, or not.
abbrev pub set_use : Graph → ℕ → Bool → Graph
set_use g i used = with_use g (update g.in_use i used)

-- The rules were evaluated on the graph h; after done the sheet stores it, else it is as it was.
pub record Judged (rules : List (Expr rule)) (h : Graph) (answer : Answer) (sheet sheet' : List ℕ) : Type 0 where
  pub answer_is : asked answer ≡ ask_rules h rules 0
  pub sheet_is : sheet' ≡ after (ask_rules h rules 0) (λ u. store h) sheet
