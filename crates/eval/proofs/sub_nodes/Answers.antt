use mathlib.Core.List.{List}
use Prim.Native.Nat.{ℕ, ◌≤◌}
use native.Mathlib.Omega.{arith}
use lib.ListN.{get_or}
use Rattle.logic.specs.Syntax.{rule}
use Rattle.logic.specs.Limits.{ranges}
use Rattle.text.specs.Stands.{SomeStands}
use Rattle.eval.proofs.InUse.{all-used, part-used}
use Rattle.eval.proofs.CodePlaces.{operand-1, operand-2}
use Rattle.eval.proofs.RuleCases.{IsSubNodes, as-sub-nodes, sub-nodes-truth}
use Rattle.eval.proofs.sub_nodes.Goals as goal

case : {n at : ℕ} {text : List ℕ} (h : SomeStands (ranges n) text at rule) → get_or text at 0 ≤ 0x21 → IsSubNodes n text at h.what
case h u = as-sub-nodes _ _ _ h.what h.stands u

pub overflow_add-at : goal.overflow_add-at
overflow_add-at c = omega (arith, (case c.requires.1 c.requires.2).inside)

pub node_within-e-requires : goal.node_within-e-requires
node_within-e-requires c = let s = c.requires in (s.0, all-used s.0, operand-1 (case s.1 s.2))

pub node_within-f-requires : goal.node_within-f-requires
node_within-f-requires c =
    let s = c.requires in let q = case s.1 s.2 in let a = c.node_within-e.ensures q.A q.first in
    (s.0, part-used (all-used s.0) a, operand-2 q a.ends)

pub returns : goal.returns
returns c e h = let s = c.requires in sub-nodes-truth _ _ _ _ _ s.0 e _ (as-sub-nodes _ _ _ e h s.2) _ _ _ _ c.node_within-e.ensures c.node_within-f.ensures c.set_in.ensures
