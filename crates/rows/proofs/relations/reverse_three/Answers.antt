use lib.ListN.{length-set}
use Rattle.rows.proofs.OperationLaws.{columns-of-three}
use Rattle.rows.proofs.relations.reverse_three.Goals as goal

pub returns : goal.returns
returns c =
    let s = c in
    (columns-of-three s.args.rows.now _ _ _ s.requires c.column.ensures c.column-2.ensures c.column-3.ensures, simp length-set s.requires)
