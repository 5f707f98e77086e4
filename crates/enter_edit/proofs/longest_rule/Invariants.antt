use mathlib.Core.Path.{◌≡◌}
use mathlib.Core.List.{List}
use Prim.Native.Nat.{◌-◌}
use lib.ListN.{length}
use Rattle.logic.specs.Syntax.{Expr, rule, Edit}
use Rattle.ends.specs.Edits.{EditAt}
use Rattle.ends.specs.Books.{BookIs}
use Rattle.write.specs.Rules.{Started}
use Rattle.enter_edit.proofs.Longest.{Left}
use Rattle.enter_edit.proofs.longest_rule.Given as goal

abbrev pub invariant-loop-at : goal.invariant-loop-at
invariant-loop-at l = (length l.work ≡ length l.initial.work) × (length l.out ≡ length l.initial.out) × Started l.edit l.from l.work l.rest.at l.rest.h l.rest.d
    × ((rules : List (Expr rule)) (Z : Edit) → BookIs l.book rules → EditAt l.edit l.from Z → Left l.book rules Z l.at l.most)

abbrev pub decreases-loop-at : goal.decreases-loop-at
decreases-loop-at l = length l.book - l.at
