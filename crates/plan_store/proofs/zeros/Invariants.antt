use Rattle.plan_store.proofs.ByteLoops.{Zero}
use Rattle.plan_store.proofs.zeros.Given as goal

abbrev pub invariant-loop-j : goal.invariant-loop-j
invariant-loop-j l = Zero l.s l.at l.j l.all
