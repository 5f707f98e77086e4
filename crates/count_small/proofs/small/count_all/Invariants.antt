use mathlib.Core.Path.{◌≡◌}
use mathlib.Core.List.{List}
use Rattle.logic.specs.Syntax.{Edit, Expr, rule}
use Rattle.logic.specs.Steps.{run}
use Rattle.logic.specs.Meaning.{hold_all}
use Rattle.count_small.specs.Small.{small_sheet, four_of}
use Rattle.count_small.specs.Counting.{Loaded, TextsStand}
use Rattle.count_small.proofs.small.count_all.Given as goal

abbrev pub invariant-loop-x : goal.invariant-loop-x
invariant-loop-x l = Loaded l.n l.sheet
    × ((rules : List (Expr rule)) (Z : Edit) → TextsStand l.n l.book l.edit rules Z → l.four ≡ four_of l.x (λ y. hold_all (small_sheet l.n y) rules) (λ y. hold_all (run Z (small_sheet l.n y)) rules))
