use mathlib.Core.Bool.{true}
use mathlib.Core.Path.{◌≡◌}
use Rattle.logic.specs.Graph.{all_below}
use Rattle.plan_store.specs.Questions.{place_right_def}
use Rattle.plan_store.proofs.check.Given as goal

abbrev pub invariant-loop-i : goal.invariant-loop-i
invariant-loop-i l = all_below l.i (place_right_def l.store) ≡ true
