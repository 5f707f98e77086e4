use Rattle.check_steps.proofs.Spans.{Raising}
use Rattle.check_steps.proofs.raise_numbers.Given as goal

abbrev pub invariant-loop-p : goal.invariant-loop-p
invariant-loop-p l = Raising l.text l.initial.work l.p l.numbers l.work
