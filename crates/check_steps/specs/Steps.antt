-- A rule in the work text, and what the steps turn it into.
use Rattle.std.specs.Prelude.{◌≡◌, List, ℕ, ◌≤◌, length, take, Result, Ok, Err}
use Rattle.answer.specs.Asked.{passed, refused}
use Rattle.logic.specs.Syntax.{Expr, rule}
use Rattle.logic.specs.Limits.{max_nodes, ranges, InRange}
use Rattle.text.specs.Code.{code}
use Rattle.text.specs.Reading.{longest_carried}
use Rattle.shortening.specs.Questions.{ask_steps}
use Rattle.check_steps.specs.Raised.{raised}

-- The first bytes of the work text are a rule with its numbers raised.
pub record RuleIs (work : List ℕ) (len : ℕ) (K : Expr rule) : Type 0 where
  pub is : take len work ≡ raised 0 (code K)
  pub room : len ≤ length work
  pub short : length work ≤ longest_carried
  pub range : InRange (ranges max_nodes) K

pub record SomeRuleIs (work : List ℕ) (len : ℕ) : Type 0 where
  pub what : Expr rule
  pub stands : RuleIs work len what

-- The steps lead from K to the rule in the work text; or the step with this number does not fit.
pub record Led (K : Expr rule) (steps work : List ℕ) (len : ℕ) : Type 0 where
  pub last : Expr rule
  pub asked : ask_steps steps 0 K ≡ passed last
  pub stands : RuleIs work len last

abbrev pub Stepped : Expr rule → (steps : List ℕ) → Result ℕ ℕ → (work : List ℕ) → Type 0
Stepped K steps (Ok len) work = Led K steps work len
Stepped K steps (Err i) work = ask_steps steps 0 K ≡ refused 59 i
