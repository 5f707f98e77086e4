use Rattle.std.proofs.Common.{rules, ◌≤◌, ◌<◌, arith}
use Rattle.answer.specs.Asked.{◌>>◌, is}
use Rattle.sheet.specs.Sheet.{graph_of}
use Rattle.node_sets.specs.NodeSets.{ask_row_set}
use Rattle.node_sets.proofs.row_set.Goals as goal

pub returns-in_err-passed : goal.returns-in_err-passed
returns-in_err-passed c = unfold ask_row_set ◌>>◌ in search rules

pub returns-then-i-node_count : goal.returns-then-i-node_count
unfolding ask_row_set ◌>>◌ is
returns-then-i-node_count c =
    let g = graph_of c.args.sheet.now in
    let few : g.n ≤ 64 = omega (arith, c.node_count.ensures) in
    let from_in : c.args.i.0 < g.n = omega (arith, c.if-i-node_count.true, c.node_count.ensures.0) in
    let read = c.counted.ensures _ _ few c.row_word.ensures in
    search rules

pub returns : goal.returns
unfolding ask_row_set ◌>>◌ is
returns c = search rules
