use native.Mathlib.Omega.{arith}
use Rattle.check_steps.proofs.Spans.{passing-none, passing-over, passing-next}
use Rattle.check_steps.proofs.behind.Goals as goal

pub returns-then-numbers-wanted-eq0 : goal.returns-then-numbers-wanted-eq0
returns-then-numbers-wanted-eq0 c = passing-none _ _ c.loop-p.invariant c.if-numbers-wanted-eq0.true

pub loop-p-preserved : goal.loop-p-preserved
loop-p-preserved c = passing-next _ _ c.loop-p.invariant c.loop-p-test.true c.if-numbers-wanted-eq0.false _ _ c.next_numbers-numbers.ensures c.next_wanted-wanted.ensures

pub returns : goal.returns
returns c = let r = c.loop-p.invariant in omega (arith, passing-over _ _ r c.loop-p-test.false, r.on, c.loop-p-test.false)
