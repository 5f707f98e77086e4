use mathlib.Core.Path.{refl}
use mathlib.Core.List.{List}
use Prim.Native.Nat.{ℕ, ◌<◌, ◌≤◌}
use lib.ListN.{get_or}
use Rattle.logic.specs.Syntax.{rule}
use Rattle.logic.specs.Limits.{ranges}
use Rattle.text.specs.Stands.{SomeStands}
use Rattle.eval.proofs.CodePlaces.{operand-1, operand-2}
use Rattle.eval.proofs.RuleCases.{IsSubArrows, as-sub-arrows, sub-arrows-truth}
use Rattle.eval.proofs.sub_arrows.Goals as goal

case : {n at : ℕ} {text : List ℕ} (h : SomeStands (ranges n) text at rule) → 0x21 < get_or text at 0 → get_or text at 0 ≤ 0x22 → IsSubArrows n text at h.what
case h l u = as-sub-arrows _ _ _ h.what h.stands l u

pub eval_arrow-second-requires : goal.eval_arrow-second-requires
eval_arrow-second-requires c = let s = c.requires in (s.0, operand-1 (case s.1 s.2 s.3), refl)

pub eval_arrow-next-requires : goal.eval_arrow-next-requires
eval_arrow-next-requires c =
    let s = c.requires in let q = case s.1 s.2 s.3 in
    (s.0, operand-2 q (c.eval_arrow-second.ensures.0 q.A q.first).ends, refl)

pub returns : goal.returns
returns c e h = let s = c.requires in
    sub-arrows-truth _ _ _ _ _ s.0 e _ (as-sub-arrows _ _ _ e h s.2 s.3) _ _ _ _ c.eval_arrow-second.ensures.0 c.eval_arrow-next.ensures.0 c.rows_in.ensures
