use native.Mathlib.Omega.{arith}
use lib.ListN.{length-set}
use Rattle.rows.proofs.OperationLaws.{changed-more}
use Rattle.count_small.proofs.Counting.{row_is}
use Rattle.count_small.proofs.small.rows_of.Goals as goal

pub loop-i-preserved : goal.loop-i-preserved
loop-i-preserved c =
    let l = c.loop-i in
    let k = c.loop-i-test.true in
    (simp length-set l.invariant.0, changed-more (omega (arith, l.invariant.0, k, c.requires)) l.invariant.1 (row_is c.args.n c.args.x l.i _ k c.part.ensures))
