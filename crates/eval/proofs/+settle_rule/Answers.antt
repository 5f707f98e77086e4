use native.Mathlib.Omega.{arith}
use Rattle.eval.proofs.CodePlaces.{some-inside, inside-at, operand, operand-1, operand-2}
use Rattle.eval.proofs.RulesUpto.{upto-few}
use Rattle.eval.proofs.RuleCases.{as-two, as-not, leaf-settled, first-settled, second-settled, not-settled}
use Rattle.eval.proofs.+settle_rule.Goals as goal

pub bounds-text-at : goal.bounds-text-at
bounds-text-at t c = omega (arith, some-inside c.requires.1)

pub settle_rule-k-requires : goal.settle_rule-k-requires
settle_rule-k-requires t c =
    let q = as-two _ _ _ c.requires.1.what c.requires.1.stands c.if-c-le36.false c.if-c-le38.true in
    (omega (arith, c.decreases, q.inside), (c.requires.0, operand-1 q))

pub overflow_add-result : goal.overflow_add-result
overflow_add-result t c =
    let q = as-two _ _ _ c.requires.1.what c.requires.1.stands c.if-c-le36.false c.if-c-le38.true in
    let a = c.settle_rule-k.ensures q.A q.first in
    omega (arith, upto-few _ _ _ _ _ a.ends, inside-at _ _ _ _ q.first)

pub past_rules-requires : goal.past_rules-requires
past_rules-requires t c =
    let q = as-two _ _ _ c.requires.1.what c.requires.1.stands c.if-c-le36.false c.if-c-le38.true in
    let a = c.settle_rule-k.ensures q.A q.first in
    record { limits = _; end = _; stand = a.ends }

pub settle_rule-l-requires : goal.settle_rule-l-requires
settle_rule-l-requires t c =
    let q = as-two _ _ _ c.requires.1.what c.requires.1.stands c.if-c-le36.false c.if-c-le38.true in
    let a = c.past_rules.ensures _ _ (c.settle_rule-k.ensures q.A q.first).ends in
    (omega (arith, c.decreases, q.inside, a), (c.requires.0, operand-2 q a))

pub settle_rule-k-requires-else-c-le38 : goal.settle_rule-k-requires-else-c-le38
settle_rule-k-requires-else-c-le38 t c =
    let q = as-not _ _ _ c.requires.1.what c.requires.1.stands c.if-c-le38.false in
    (omega (arith, c.decreases, q.inside), (c.requires.0, operand q))

pub returns-then-c-le36 : goal.returns-then-c-le36
returns-then-c-le36 t c k h = leaf-settled _ _ _ _ k (c.leaf_rule-k.ensures k h)

pub returns-then-decided : goal.returns-then-decided
returns-then-decided t c k h =
    first-settled _ _ _ _ k (as-two _ _ _ k h c.if-c-le36.false c.if-c-le38.true) _ _ _ _
    c.settle_rule-k.ensures c.decided.ensures c.if-decided.true

pub returns-else-decided : goal.returns-else-decided
returns-else-decided t c k h =
    second-settled _ _ _ _ k (as-two _ _ _ k h c.if-c-le36.false c.if-c-le38.true) _ _ _ _ _ _ _ _
    c.settle_rule-k.ensures c.past_rules.ensures c.settle_rule-l.ensures c.decided.ensures c.if-decided.false

pub returns-else-c-le38 : goal.returns-else-c-le38
returns-else-c-le38 t c k h = not-settled _ _ _ _ k (as-not _ _ _ k h c.if-c-le38.false) _ _ _ c.settle_rule-k-else-c-le38.ensures
