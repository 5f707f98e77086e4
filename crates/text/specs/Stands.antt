-- An expression or an edit that starts at a place of a text. Inner functions require that there is one, and their contracts speak about every such one.
use Rattle.std.specs.Prelude.{◌≡◌, List, ◌++◌, ℕ, drop}
use Rattle.logic.specs.Syntax.{Sort, rule, Expr, Edit}
use Rattle.logic.specs.Lists.{All}
use Rattle.logic.specs.Limits.{Ranges, InRange, EditInRange}
use Rattle.text.specs.Code.{code, edit_code}

pub record Stands (r : Ranges) (text : List ℕ) (at : ℕ) {s : Sort} (e : Expr s) : Type 0 where
  pub rest : List ℕ
  pub here : drop at text ≡ code e ++ rest
  pub range : InRange r e

pub record SomeStands (r : Ranges) (text : List ℕ) (at : ℕ) (s : Sort) : Type 0 where
  pub what : Expr s
  pub stands : Stands r text at what

pub record EditStands (r : Ranges) (text : List ℕ) (at : ℕ) (Z : Edit) : Type 0 where
  pub rest : List ℕ
  pub here : drop at text ≡ edit_code Z ++ rest
  pub range : EditInRange r Z

pub record SomeEditStands (r : Ranges) (text : List ℕ) (at : ℕ) : Type 0 where
  pub what : Edit
  pub stands : EditStands r text at what

-- The numbers of each rule of a book are in range.
abbrev pub RulesInRange : Ranges → List (Expr rule) → Type 0
RulesInRange r rules = All (InRange r {s = rule}) rules
