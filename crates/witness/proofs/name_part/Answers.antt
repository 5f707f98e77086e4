use native.Mathlib.Omega.{arith}
use Rattle.eval.proofs.CodePlaces.{starts-inside}
use Rattle.eval.proofs.RuleCases as cases
use Rattle.witness.proofs.RuleShapes as shapes
use Rattle.witness.proofs.NamedParts.{IfBroken, node-named, pair-named, not_named}
use Rattle.witness.proofs.name_part.Goals as goal

pub bounds-text-at : goal.bounds-text-at
bounds-text-at c = omega (arith, starts-inside _ _ _ c.requires.1.what c.requires.1.stands)

pub bounds-text-at-in-35 : goal.bounds-text-at-in-35
bounds-text-at-in-35 c = let s = c.requires in let q = cases.as-node-in _ _ _ s.1.what s.1.stands (omega (arith, c.in-35.is)) (omega (arith, c.in-35.is)) in omega (arith, q.inside)

pub bounds-text-at-in-36 : goal.bounds-text-at-in-36
bounds-text-at-in-36 c = let s = c.requires in let q = cases.as-pair-in _ _ _ s.1.what s.1.stands (omega (arith, c.in-36.is)) (omega (arith, c.in-36.is)) in omega (arith, q.inside)

pub bounds-text-at-in-36-2 : goal.bounds-text-at-in-36-2
bounds-text-at-in-36-2 c = let s = c.requires in let q = cases.as-pair-in _ _ _ s.1.what s.1.stands (omega (arith, c.in-36.is)) (omega (arith, c.in-36.is)) in omega (arith, q.inside)

pub only-requires : goal.only-requires
only-requires c =
    let s = c.requires in
    let q = cases.as-node-in _ _ _ s.1.what s.1.stands (omega (arith, c.in-35.is)) (omega (arith, c.in-35.is)) in
    omega (arith, c.from-i.ensures, q.range, s.0.few)

pub returns-in-35 : goal.returns-in-35
returns-in-35 c e h =
    shapes.as-node-in _ _ _ (IfBroken _ _ _) e h c.in-35.is
    (λ i E k. node-named _ _ _ _ i E k c.requires.0.few _ _ c.from-i.ensures c.only.ensures)

pub returns-in-36 : goal.returns-in-36
returns-in-36 c e h =
    shapes.as-pair-in _ _ _ (IfBroken _ _ _) e h c.in-36.is
    (λ i j R k. pair-named _ _ _ _ i j R k _ _ c.from.ensures c.from-in-36.ensures)

pub returns-in_default : goal.returns-in_default
returns-in_default c e h =
    shapes.as-not _ _ _ (IfBroken _ _ _) e h (omega (arith, shapes.rule-code _ _ _ e h, c.requires.2)) (λ K k. not_named _ _ K)
