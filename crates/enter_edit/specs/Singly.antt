-- Carried rules judged one by one, in a scratch: what is required of the texts, and what is found.
use Rattle.std.specs.Prelude.{◌≡◌, List, map, ℕ, ◌≤◌, length}
use Rattle.answer.specs.Asked.{◌>>◌, after}
use Rattle.answer.specs.Answers.{asked}
use Rattle.answer.specs.declared.Answer.{Answer}
use Rattle.logic.specs.Syntax.{Expr, rule, Edit}
use Rattle.logic.specs.Graph.{Graph}
use Rattle.logic.specs.Carry.{carried_book}
use Rattle.logic.specs.Limits.{Ranges, EditInRange}
use Rattle.text.specs.Code.{code, book_code}
use Rattle.text.specs.Questions.{most_rules}
use Rattle.text.specs.Stands.{EditStands, RulesInRange}
use Rattle.ends.specs.Edits.{EditAt}
use Rattle.judge.specs.Questions.{ask_rules}
use Rattle.judge.specs.Judging.{RulesStand}
use Rattle.runs.specs.Scratch.{longest_rule_def, ask_scratch, writings}

-- A book of these rules and an edit of these steps, both read by these ranges.
pub record BothRead (r : Ranges) (book edit : List ℕ) (rules : List (Expr rule)) (Z : Edit) : Type 0 where
  pub is : book ≡ book_code rules
  pub range : RulesInRange r rules
  pub few : length rules ≤ most_rules
  pub stands : EditStands r edit 0 Z

pub record SomeRead (r : Ranges) (book edit : List ℕ) : Type 0 where
  pub rules : List (Expr rule)
  pub Z : Edit
  pub read : BothRead r book edit rules Z

-- The answer and the scratch after 31 to 33 and 41 for carried rules.
pub record Singly (g : Graph) (carried : List (Expr rule)) (answer : Answer) (scratch scratch' : List ℕ) : Type 0 where
  pub answer_is : asked answer ≡ (ask_scratch carried (length scratch) >> ask_rules g carried 0)
  pub scratch_is : scratch' ≡ after (ask_scratch carried (length scratch)) (λ u. writings g carried scratch) scratch

-- Rules stand in a text, and in another an edit that carries each of them to the same text as Z does; each fits a buffer of `room` bytes.
pub record EachFits (r : Ranges) (book edit : List ℕ) (from room : ℕ) (rules : List (Expr rule)) (Z : Edit) : Type 0 where
  pub stand : RulesStand r book 0 (length book) rules
  pub what : Edit
  pub what_at : EditAt edit from what
  pub same : map code (carried_book what rules) ≡ map code (carried_book Z rules)
  pub range : EditInRange r Z
  pub fits : longest_rule_def (carried_book Z rules) ≤ room

pub record SomeEachFits (r : Ranges) (book edit : List ℕ) (from room : ℕ) : Type 0 where
  pub rules : List (Expr rule)
  pub Z : Edit
  pub each : EachFits r book edit from room rules Z

-- The answer and the scratch after the writings.
pub record EachJudged (g : Graph) (carried : List (Expr rule)) (answer : Answer) (scratch scratch' : List ℕ) : Type 0 where
  pub answer_is : asked answer ≡ ask_rules g carried 0
  pub scratch_is : scratch' ≡ writings g carried scratch
