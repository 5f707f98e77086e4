use lib.ListN.{length-set}
use Rattle.rows.proofs.MemberWalks.{inside-less}
use Rattle.rows.proofs.ColumnLaws.{put-more, put-end}
use Rattle.rows.proofs.relations.put_column.Goals as goal

pub loop-left-preserved : goal.loop-left-preserved
loop-left-preserved c = let l = c.loop-left in let f = c.first-j.ensures in let e = c.but_first-left.ensures.0 _ f.2 in
    (simp length-set l.invariant.0, inside-less _ _ _ _ e l.invariant.1, λ p r. put-more _ _ p _ _ _ _ _ l.invariant.0 f.1 e l.invariant.1 f.0 c.only.ensures c.either.ensures (l.invariant.2 p r))

pub returns : goal.returns
returns c = (λ p r. put-end _ _ p _ c.loop-left-test.false (c.loop-left.invariant.2 p r), c.loop-left.invariant.0)
