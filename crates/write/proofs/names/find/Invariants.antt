use Rattle.write.proofs.Finding.{Following}
use Rattle.write.proofs.names.find.Given as goal

abbrev pub invariant-loop-j : goal.invariant-loop-j
invariant-loop-j l = Following l.edit l.work l.h l.c l.k l.j

abbrev pub decreases-loop-j : goal.decreases-loop-j
decreases-loop-j l = l.j
