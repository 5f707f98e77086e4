use native.Mathlib.Omega.{arith}
use Rattle.check_steps.proofs.Comparing.{comparing-uneven, comparing-end, comparing-differs, comparing-next}
use Rattle.check_steps.proofs.compare.Goals as goal

pub returns-then-text-i : goal.returns-then-text-i
returns-then-text-i c = comparing-differs c.loop-i.invariant (omega (arith, c.loop-i-test.true, c.min-n.ensures)) (omega (arith, c.loop-i-test.true, c.min-n.ensures)) c.if-text-i.true

pub loop-i-preserved : goal.loop-i-preserved
loop-i-preserved c = comparing-next c.loop-i.invariant (omega (arith, c.loop-i-test.true, c.min-n.ensures)) (omega (arith, c.loop-i-test.true, c.min-n.ensures)) c.if-text-i.false

pub returns-then-text-sent : goal.returns-then-text-sent
returns-then-text-sent c = comparing-uneven c.loop-i.invariant _ c.min-n.ensures c.loop-i-test.false c.if-text-sent.true

pub returns : goal.returns
returns c = comparing-end c.loop-i.invariant (omega (arith, c.loop-i-test.false, c.min-n.ensures, c.if-text-sent.false)) (omega (arith, c.loop-i-test.false, c.min-n.ensures, c.if-text-sent.false))
