use Rattle.check_steps.proofs.Comparing.{Comparing}
use Rattle.check_steps.proofs.compare.Given as goal

abbrev pub invariant-loop-i : goal.invariant-loop-i
invariant-loop-i l = Comparing l.text l.sent l.i
