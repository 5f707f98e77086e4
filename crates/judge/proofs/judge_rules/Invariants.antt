use mathlib.Core.List.{List}
use Prim.Native.Nat.{◌≤◌, ◌-◌}
use Rattle.logic.specs.Syntax.{Expr, rule}
use Rattle.logic.specs.Limits.{ranges}
use Rattle.judge.specs.Judging.{RulesStand}
use Rattle.judge.proofs.RulesJudged.{Reached}
use Rattle.judge.proofs.judge_rules.Given as goal

abbrev pub invariant-loop-at : goal.invariant-loop-at
invariant-loop-at l = (l.i ≤ l.at) × ((rules : List (Expr rule)) → RulesStand (ranges l.n) l.text 0 l.end rules → Reached l.sheet l.n l.text l.end l.at l.i rules)

abbrev pub decreases-loop-at : goal.decreases-loop-at
decreases-loop-at l = l.end - l.at
