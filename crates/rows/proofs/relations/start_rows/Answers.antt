use Rattle.rows.proofs.OperationLaws.{rows-starting}
use Rattle.rows.proofs.relations.start_rows.Goals as goal

pub returns : goal.returns
returns c = (λ v w p q. rows-starting w _ _ c.loop-i-test.false p q c.loop-i.invariant.1, c.loop-i.invariant.0)
