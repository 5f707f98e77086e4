use Rattle.check_steps.proofs.Spans.{Passing}
use Rattle.check_steps.proofs.behind.Given as goal

abbrev pub invariant-loop-p : goal.invariant-loop-p
invariant-loop-p l = Passing l.text l.at l.p l.numbers l.wanted
