use mathlib.Core.Path.{refl}
use mathlib.Core.List.{List}
use Prim.Native.Nat.{ℕ, ◌<◌, ◌≤◌}
use native.Mathlib.Omega.{arith}
use lib.ListN.{get_or}
use Rattle.logic.specs.Syntax.{rule}
use Rattle.logic.specs.Limits.{ranges}
use Rattle.text.specs.Stands.{SomeStands}
use Rattle.eval.proofs.CodePlaces.{operand}
use Rattle.eval.proofs.RuleCases.{IsPairIn, as-pair-in, pair-in-truth}
use Rattle.eval.proofs.pair_in.Goals as goal

case : {n at : ℕ} {text : List ℕ} (h : SomeStands (ranges n) text at rule) → 0x23 < get_or text at 0 → get_or text at 0 ≤ 0x24 → IsPairIn n text at h.what
case h l u = as-pair-in _ _ _ h.what h.stands l u

pub bounds-text-at : goal.bounds-text-at
bounds-text-at c = omega (arith, (case c.requires.1 c.requires.2 c.requires.3).inside)

pub bounds-text-at-2 : goal.bounds-text-at-2
bounds-text-at-2 c = omega (arith, (case c.requires.1 c.requires.2 c.requires.3).inside)

pub eval_arrow-next-requires : goal.eval_arrow-next-requires
eval_arrow-next-requires c = let s = c.requires in (s.0, operand (case s.1 s.2 s.3), refl)

pub pair_in-requires : goal.pair_in-requires
pair_in-requires c =
    let s = c.requires in let q = case s.1 s.2 s.3 in
    (omega (arith, s.0.few, q.range.0), omega (arith, s.0.few, q.range.1), c.eval_arrow-next.ensures.1)

pub returns : goal.returns
returns c e h = let s = c.requires in pair-in-truth _ _ _ _ _ s.0 e _ (as-pair-in _ _ _ e h s.2 s.3) _ _ c.eval_arrow-next.ensures.0 c.pair_in.ensures
