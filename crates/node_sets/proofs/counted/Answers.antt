use Rattle.node_sets.proofs.NodeSetLaws.{counted-members}
use Rattle.node_sets.proofs.counted.Goals as goal

pub returns : goal.returns
returns c n v h e = counted-members n v h e c.count_common.ensures
