use Rattle.check_steps.proofs.Spans.{raising-next, raising-end}
use Rattle.check_steps.proofs.raise_numbers.Goals as goal

pub loop-p-preserved : goal.loop-p-preserved
loop-p-preserved c = raising-next c.loop-p.invariant c.loop-p-test.true c.requires _ _ c.raised_byte.ensures c.next_numbers-numbers.ensures

pub returns : goal.returns
returns c = raising-end c.loop-p.invariant c.loop-p-test.false
