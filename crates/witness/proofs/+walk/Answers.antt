use native.Mathlib.Omega.{arith}
use Rattle.eval.proofs.CodePlaces.{starts-inside}
use Rattle.eval.proofs.RuleCases.{as-two}
use Rattle.ends.proofs.Behind.{some-tree, behind-stands}
use Rattle.witness.proofs.RuleShapes as shapes
use Rattle.witness.proofs.WalkedLaws.{Finds, both_first, both-second, either_first, either_second, alone}
use Rattle.witness.proofs.+walk.Goals as goal

pub bounds-text-at : goal.bounds-text-at
bounds-text-at t c = omega (arith, starts-inside _ _ _ c.requires.1.what c.requires.1.stands)

pub overflow_add-first : goal.overflow_add-first
overflow_add-first t c = omega (arith, starts-inside _ _ _ c.requires.1.what c.requires.1.stands)

pub walk-k-requires : goal.walk-k-requires
walk-k-requires t c =
    let s = c.requires in let q = as-two _ _ _ s.1.what s.1.stands (omega (arith, c.if-c-eq37.true)) (omega (arith, c.if-c-eq37.true)) in
    (omega (arith, c.decreases, q.inside), (s.0, record { what = q.A; stands = q.first }))

pub walk-requires : goal.walk-requires
walk-requires t c =
    let s = c.requires in let q = as-two _ _ _ s.1.what s.1.stands (omega (arith, c.if-c-eq37.true)) (omega (arith, c.if-c-eq37.true)) in
    let a = c.walk-k.ensures q.A q.first in
    (omega (arith, c.decreases, q.inside, a.ends), (s.0, record { what = q.B; stands = q.second _ a.ends }))

pub past-requires : goal.past-requires
past-requires t c =
    let s = c.requires in let q = as-two _ _ _ s.1.what s.1.stands (omega (arith, c.if-c-eq37.true)) (omega (arith, c.if-c-eq37.true)) in
    let a = c.walk-k.ensures q.A q.first in
    some-tree (record { what = q.B; stands = q.second _ a.ends })

pub eval_rule-t-requires : goal.eval_rule-t-requires
eval_rule-t-requires t c =
    let s = c.requires in let q = as-two _ _ _ s.1.what s.1.stands (omega (arith, c.if-c-eq38.true)) (omega (arith, c.if-c-eq38.true)) in
    (s.0, record { what = q.A; stands = q.first })

pub past-requires-then-t : goal.past-requires-then-t
past-requires-then-t t c =
    let s = c.requires in let q = as-two _ _ _ s.1.what s.1.stands (omega (arith, c.if-c-eq38.true)) (omega (arith, c.if-c-eq38.true)) in
    let a = c.eval_rule-t.ensures q.A q.first in
    some-tree (record { what = q.B; stands = q.second _ a.ends })

pub walk-requires-else-t : goal.walk-requires-else-t
walk-requires-else-t t c =
    let s = c.requires in let q = as-two _ _ _ s.1.what s.1.stands (omega (arith, c.if-c-eq38.true)) (omega (arith, c.if-c-eq38.true)) in
    let a = c.eval_rule-t.ensures q.A q.first in
    (omega (arith, c.decreases, q.inside, a.ends), (s.0, record { what = q.B; stands = q.second _ a.ends }))

pub returns-in-None : goal.returns-in-None
returns-in-None t c k h =
    shapes.as-both _ _ _ (Finds _ _ _ _ _ _) k h c.if-c-eq37.true
    (λ K L i. both-second _ _ _ _ K L i _ _ _ _ c.walk-k.ensures c.in-None.is c.walk.ensures)

pub returns-in-Some : goal.returns-in-Some
returns-in-Some t c k h =
    shapes.as-both _ _ _ (Finds _ _ _ _ _ _) k h c.if-c-eq37.true
    (λ K L i. both_first _ _ _ _ K L i _ _ _ _ c.walk-k.ensures c.in-Some.is (λ f j. behind-stands _ c.past.ensures f j))

pub returns-then-t : goal.returns-then-t
returns-then-t t c k h =
    shapes.as-either _ _ _ (Finds _ _ _ _ _ _) k h c.if-c-eq38.true
    (λ K L i. either_first _ _ _ _ K L i _ _ _ c.eval_rule-t.ensures c.if-t.true (λ f j. behind-stands _ c.past-then-t.ensures f j))

pub returns-else-t : goal.returns-else-t
returns-else-t t c k h =
    shapes.as-either _ _ _ (Finds _ _ _ _ _ _) k h c.if-c-eq38.true
    (λ K L i. either_second _ _ _ _ K L i _ _ _ _ c.eval_rule-t.ensures c.if-t.false c.walk-else-t.ensures)

pub returns-then-t-2 : goal.returns-then-t-2
returns-then-t-2 t c k h =
    alone _ _ _ _ k h (c.if-c-eq37.false, c.if-c-eq38.false) _ _ (c.eval_rule-t-else-c-eq38.ensures k h) _ (rw c.if-t-2.true)

pub returns-else-t-2 : goal.returns-else-t-2
returns-else-t-2 t c k h =
    alone _ _ _ _ k h (c.if-c-eq37.false, c.if-c-eq38.false) _ _ (c.eval_rule-t-else-c-eq38.ensures k h) _ (rw c.if-t-2.false)
