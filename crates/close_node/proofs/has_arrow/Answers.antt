use Rattle.std.proofs.Common.{◌≡◌, sym, ◌∙◌, below_more, arith}
use Rattle.sheet.specs.Sheet.{graph_of}
use Rattle.close_node.proofs.NodeTaken.{arrows_at, arrow-found, arrow-none}
use Rattle.close_node.proofs.has_arrow.Goals as goal

-- what `touched` answered for a kind, by the sheet's own count
pub returns-then-touched : goal.returns-then-touched
returns-then-touched c =
    let kind : arrows_at (graph_of c.args.sheet.now) c.args.node.0 c.loop-a.a ≡ c.touched.result = rw (← c.node_count-n.ensures.0) (sym c.touched.ensures) in
    arrow-found _ _ _ c.loop-a-test.true (kind ∙ c.if-touched.true)

pub loop-a-preserved : goal.loop-a-preserved
loop-a-preserved c =
    let kind : arrows_at (graph_of c.args.sheet.now) c.args.node.0 c.loop-a.a ≡ c.touched.result = rw (← c.node_count-n.ensures.0) (sym c.touched.ensures) in
    below_more _ _ c.loop-a.invariant (kind ∙ c.if-touched.false)

pub returns : goal.returns
returns c = arrow-none _ _ (λ a l. c.loop-a.invariant a (omega (arith, c.loop-a-test.false)))
