use Rattle.play.proofs.GameEdits.{LeftOf}
use Rattle.play.proofs.questions.fill.Given as goal

abbrev pub invariant-loop-length : goal.invariant-loop-length
invariant-loop-length l = LeftOf l.lengths l.size l.left l.length-index
