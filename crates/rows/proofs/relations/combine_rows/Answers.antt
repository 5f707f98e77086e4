use native.Mathlib.Omega.{arith}
use Rattle.rows.proofs.OperationLaws.{rows-combined}
use Rattle.rows.proofs.relations.combine_rows.Goals as goal

pub returns : goal.returns
returns c = (λ v w p q. rows-combined w c.args.c (omega (arith, c.requires.0)) c.loop-i-test.false p q.row c.loop-i.invariant.1, c.loop-i.invariant.0)
