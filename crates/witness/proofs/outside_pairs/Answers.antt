use mathlib.Core.Path.{refl}
use native.Mathlib.Omega.{arith}
use Rattle.eval.proofs.RuleCases as cases
use Rattle.witness.specs.Witnessed.{WitnessOf}
use Rattle.witness.proofs.RuleShapes as shapes
use Rattle.witness.proofs.NamedParts.{pairs-named}
use Rattle.witness.proofs.outside_pairs.Goals as goal

pub eval_arrow-second-requires : goal.eval_arrow-second-requires
eval_arrow-second-requires c =
    let s = c.requires in let q = cases.as-sub-arrows _ _ _ s.1.what s.1.stands s.2 s.3 in
    (s.0, record { what = q.A; stands = q.first }, refl)

pub eval_arrow-requires : goal.eval_arrow-requires
eval_arrow-requires c =
    let s = c.requires in let q = cases.as-sub-arrows _ _ _ s.1.what s.1.stands s.2 s.3 in
    (s.0, record { what = q.B; stands = q.second _ (c.eval_arrow-second.ensures.0 q.A q.first).ends }, refl)

pub returns : goal.returns
returns c e h = let s = c.requires in
    shapes.as-sub-arrows _ _ _ (WitnessOf _ _ _) e h (omega (arith, s.2, s.3))
    (λ R S k. pairs-named _ _ _ _ _ s.0 R S k _ _ _ _ c.eval_arrow-second.ensures.0 c.eval_arrow.ensures.0 _ c.first_pair.ensures)
