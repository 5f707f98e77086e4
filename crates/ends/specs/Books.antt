-- A rule and a book of rules in a text.
use Rattle.std.specs.Prelude.{◌≡◌, List, ℕ, ◌≤◌, length}
use Rattle.logic.specs.Syntax.{rule, Expr}
use Rattle.logic.specs.Limits.{Ranges}
use Rattle.text.specs.Code.{book_code}
use Rattle.text.specs.Questions.{most_rules}
use Rattle.text.specs.Stands.{Stands, RulesInRange}

-- A rule starts at this place of the text, with its numbers in some ranges.
pub record RuleAt (text : List ℕ) (at : ℕ) (K : Expr rule) : Type 0 where
  pub limits : Ranges
  pub place : Stands limits text at K

pub record SomeRule (text : List ℕ) (at : ℕ) : Type 0 where
  pub what : Expr rule
  pub stands : RuleAt text at what

-- The text is a book of these rules.
pub record BookIs (book : List ℕ) (rules : List (Expr rule)) : Type 0 where
  pub limits : Ranges
  pub is : book ≡ book_code rules
  pub range : RulesInRange limits rules
  pub few : length rules ≤ most_rules

pub record SomeBook (book : List ℕ) : Type 0 where
  pub what : List (Expr rule)
  pub is : BookIs book what
