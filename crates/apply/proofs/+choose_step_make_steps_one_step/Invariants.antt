-- Each call is further on in the edit, or at the same place and lower in this order: the steps, one step, a choice.
use Prim.Native.Nat.{◌+◌, ◌*◌, ◌-◌}
use lib.ListN.{length}
use Rattle.apply.proofs.StepsMade.{Making}
use Rattle.apply.proofs.+choose_step_make_steps_one_step.Given as goal

abbrev pub decreases-choose_step : goal.decreases-choose_step
decreases-choose_step l = 3 * (length l.edit.now - l.at)

abbrev pub decreases-make_steps : goal.decreases-make_steps
decreases-make_steps l = 3 * (length l.edit.now - l.at) + 2

abbrev pub decreases-one_step : goal.decreases-one_step
decreases-one_step l = 3 * (length l.edit.now - l.at) + 1

abbrev pub invariant-make_steps-loop-p : goal.invariant-make_steps-loop-p
invariant-make_steps-loop-p l = Making l.n l.all l.edit l.at l.p l.initial.sheet l.sheet

abbrev pub decreases-make_steps-loop-p : goal.decreases-make_steps-loop-p
decreases-make_steps-loop-p l = length l.edit - l.p
