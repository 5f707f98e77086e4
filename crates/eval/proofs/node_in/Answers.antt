use mathlib.Core.List.{List}
use Prim.Native.Nat.{ℕ, ◌<◌, ◌≤◌}
use native.Mathlib.Omega.{arith}
use lib.ListN.{get_or}
use Rattle.logic.specs.Syntax.{rule}
use Rattle.logic.specs.Limits.{ranges}
use Rattle.text.specs.Stands.{SomeStands}
use Rattle.eval.proofs.InUse.{nominal-used}
use Rattle.eval.proofs.CodePlaces.{operand}
use Rattle.eval.proofs.RuleCases.{IsNodeIn, as-node-in, node-in-truth}
use Rattle.eval.proofs.node_in.Goals as goal

case : {n at : ℕ} {text : List ℕ} (h : SomeStands (ranges n) text at rule) → 0x22 < get_or text at 0 → get_or text at 0 ≤ 0x23 → IsNodeIn n text at h.what
case h l u = as-node-in _ _ _ h.what h.stands l u

pub bounds-text-at : goal.bounds-text-at
bounds-text-at c = omega (arith, (case c.requires.1 c.requires.2 c.requires.3).inside)

pub nominal-requires : goal.nominal-requires
nominal-requires c = let s = c.requires in omega (arith, s.0.few, (case s.1 s.2 s.3).range)

pub node_within-e-requires : goal.node_within-e-requires
node_within-e-requires c =
    let s = c.requires in
    (s.0, nominal-used _ (c.nominal.ensures _ _ (omega (arith, s.0.few)) s.0.nodes), operand (case s.1 s.2 s.3))

pub node_in-requires : goal.node_in-requires
node_in-requires c = let s = c.requires in omega (arith, s.0.few, (case s.1 s.2 s.3).range)

pub returns : goal.returns
returns c e h = let s = c.requires in
    node-in-truth _ _ _ _ _ s.0 e _ (as-node-in _ _ _ e h s.2 s.3) _ _ _ (c.nominal.ensures _ _ (omega (arith, s.0.few)) s.0.nodes) c.node_within-e.ensures c.node_in.ensures
