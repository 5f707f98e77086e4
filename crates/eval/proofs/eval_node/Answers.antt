use Rattle.eval.proofs.InUse.{all-used, is_whole}
use Rattle.eval.proofs.eval_node.Goals as goal

pub node_within-requires : goal.node_within-requires
node_within-requires c = let s = c in (s.requires.0, all-used s.requires.0, s.requires.1)

pub returns : goal.returns
returns c e h = is_whole c.requires.0 (c.node_within.ensures e h)
