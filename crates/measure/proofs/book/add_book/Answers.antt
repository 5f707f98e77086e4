use Rattle.std.proofs.Common.{arith, ap, length}
use Rattle.ends.proofs.RulePlaces.{rule_fits, first-left}
use Rattle.measure.proofs.RuleMeasures.{adding-first, adding-more, adding-end}
use Rattle.measure.proofs.book.add_book.Goals as goal

pub loop-at-init : goal.loop-at-init
loop-at-init c = adding-first _ _ c.requires.0 c.requires.1

pub add_rule-at-requires : goal.add_rule-at-requires
add_rule-at-requires c = let a = c.loop-at.invariant in let r = a.each a.some.what a.some.is in let q = first-left c.loop-at-test.true r.stand in (record { what = q.K; stands = q.stands }, a.long)

pub overflow_add-n : goal.overflow_add-n
overflow_add-n c = let a = c.loop-at.invariant in let r = a.each a.some.what a.some.is in let q = first-left c.loop-at-test.true r.stand in omega (arith, r.number, ap length q.are, a.some.is.few)

pub loop-at-smaller : goal.loop-at-smaller
loop-at-smaller c = let a = c.loop-at.invariant in let r = a.each a.some.what a.some.is in let q = first-left c.loop-at-test.true r.stand in
    omega (arith, c.loop-at-test.true, rule_fits _ _ q.K q.stands, (c.add_rule-at.ensures q.K q.stands).ends)

pub loop-at-preserved : goal.loop-at-preserved
loop-at-preserved c = adding-more _ _ _ _ _ _ c.loop-at-test.true c.add_rule-at.auto.state c.loop-at.invariant c.add_rule-at.ensures

pub returns : goal.returns
returns c = adding-end _ _ _ _ c.loop-at-test.false c.loop-at.invariant
