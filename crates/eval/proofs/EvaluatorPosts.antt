-- What an evaluator finds at a place, for every expression that stands there.
use mathlib.Core.Bool.{Bool}
use mathlib.Core.List.{List}
use Prim.Native.Nat.{ℕ}
use Rattle.logic.specs.Syntax.{node, arrow, rule, Expr}
use Rattle.logic.specs.Limits.{ranges}
use Rattle.text.specs.Stands.{Stands}
use Rattle.eval.specs.Evaluated.{IsSetWithin, IsEitherWay, IsRelation, IsSettled}

module _ (n : ℕ) (text sheet : List ℕ) (at : ℕ) where
  abbrev pub SetAt : (within x next : ℕ) → Type 0
  SetAt within x next = (f : Expr node) → Stands (ranges n) text at f → IsSetWithin sheet n at f within x next

  abbrev pub RelationAt : (rows : List ℕ) (next : ℕ) → Type 0
  RelationAt rows next = (f : Expr arrow) → Stands (ranges n) text at f → IsRelation sheet n at f rows next

  abbrev pub WayAt : (rows : List ℕ) (turned : Bool) (next : ℕ) → Type 0
  WayAt rows turned next = (f : Expr arrow) → Stands (ranges n) text at f → IsEitherWay sheet n at f rows turned next

  abbrev pub SettledAt : (b : Bool) (next left : ℕ) → Type 0
  SettledAt b next left = (f : Expr rule) → Stands (ranges n) text at f → IsSettled sheet n text at f b next left
