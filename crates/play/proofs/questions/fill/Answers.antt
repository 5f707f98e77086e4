use native.Mathlib.Omega.{arith}
use Rattle.play.proofs.GameEdits.{too_long, taken-off, all-taken}
use Rattle.play.proofs.questions.fill.Goals as goal

pub loop-length-init : goal.loop-length-init
loop-length-init c = record { sum = omega arith }

pub returns-then-length-left : goal.returns-then-length-left
returns-then-length-left c = too_long c.loop-length.invariant c.loop-length-test.true c.if-length-left.true

pub loop-length-preserved : goal.loop-length-preserved
loop-length-preserved c = taken-off c.loop-length.invariant c.loop-length-test.true c.if-length-left.false

pub returns : goal.returns
returns c = all-taken c.loop-length.invariant c.loop-length-test.false
