use native.Mathlib.Omega.{arith}
use Rattle.eval.proofs.RuleCases as cases
use Rattle.witness.specs.Witnessed.{WitnessOf}
use Rattle.witness.proofs.RuleShapes as shapes
use Rattle.witness.proofs.NamedParts.{nodes-some, nodes-none}
use Rattle.witness.proofs.outside_nodes.Goals as goal

pub overflow_add-at : goal.overflow_add-at
overflow_add-at c = let s = c.requires in let q = cases.as-sub-nodes _ _ _ s.1.what s.1.stands s.2 in omega (arith, q.inside)

pub eval_node-e-requires : goal.eval_node-e-requires
eval_node-e-requires c = let s = c.requires in let q = cases.as-sub-nodes _ _ _ s.1.what s.1.stands s.2 in (s.0, record { what = q.A; stands = q.first })

pub eval_node-f-requires : goal.eval_node-f-requires
eval_node-f-requires c =
    let s = c.requires in let q = cases.as-sub-nodes _ _ _ s.1.what s.1.stands s.2 in let a = c.eval_node-e.ensures q.A q.first in
    (s.0, record { what = q.B; stands = q.second _ a.ends })

pub returns-then-x-gt0 : goal.returns-then-x-gt0
returns-then-x-gt0 c e h =
    shapes.as-sub-nodes _ _ _ (WitnessOf _ _ _) e h c.requires.2
    (λ E F k. nodes-some _ _ _ _ _ c.requires.0 E F k _ _ _ _ _ c.eval_node-e.ensures c.eval_node-f.ensures c.minus-x.ensures _ c.if-x-gt0.true c.first.ensures.0 c.first.ensures.2)

pub returns-else-x-gt0 : goal.returns-else-x-gt0
returns-else-x-gt0 c e h =
    shapes.as-sub-nodes _ _ _ (WitnessOf _ _ _) e h c.requires.2
    (λ E F k. nodes-none _ _ _ _ _ c.requires.0 E F k _ _ _ _ _ c.eval_node-e.ensures c.eval_node-f.ensures c.minus-x.ensures c.if-x-gt0.false)
