use Rattle.std.proofs.Common.{rules}
use Rattle.answer.specs.Asked.{◌>>◌}
use Rattle.node_sets.specs.NodeSets.{ask_nodes}
use Rattle.node_sets.proofs.nodes.Goals as goal

pub returns-in_err-passed : goal.returns-in_err-passed
returns-in_err-passed c = unfold ask_nodes ◌>>◌ in search rules

pub returns : goal.returns
unfolding ask_nodes ◌>>◌
returns c = search rules
