use Rattle.play.proofs.GameEdits.{Left}
use Rattle.play.proofs.questions.check_edits.Given as goal

abbrev pub invariant-loop-i : goal.invariant-loop-i
invariant-loop-i l = Left l.n l.edits l.lengths l.at l.i
