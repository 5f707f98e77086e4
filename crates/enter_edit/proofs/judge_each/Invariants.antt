use mathlib.Core.Path.{◌≡◌}
use mathlib.Core.List.{List}
use Prim.Native.Nat.{◌-◌, ◌≤◌}
use lib.ListN.{length}
use Rattle.logic.specs.Syntax.{Expr, rule, Edit}
use Rattle.logic.specs.Limits.{ranges}
use Rattle.sheet.specs.Sheet.{graph_of}
use Rattle.write.specs.Rules.{Started}
use Rattle.enter_edit.specs.Singly.{EachFits}
use Rattle.enter_edit.proofs.EachCarried.{Reached}
use Rattle.enter_edit.proofs.judge_each.Given as goal

abbrev pub invariant-loop-at : goal.invariant-loop-at
invariant-loop-at l = (l.i ≤ l.at) × (length l.work ≡ length l.initial.work) × (length l.scratch ≡ length l.initial.scratch) × Started l.edit l.from l.work l.rest.at l.rest.h l.rest.d
    × ((rules : List (Expr rule)) (Z : Edit) → EachFits (ranges (graph_of l.sheet).n) l.book l.edit l.from (length l.initial.scratch) rules Z → Reached (graph_of l.sheet) l.n l.book l.edit l.from l.initial.scratch l.at l.i l.scratch rules Z)

abbrev pub decreases-loop-at : goal.decreases-loop-at
decreases-loop-at l = length l.book - l.at
