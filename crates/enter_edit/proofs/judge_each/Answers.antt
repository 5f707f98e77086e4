use native.Mathlib.Omega.{arith}
use borrow.Author.Rules.{rules}
use mathlib.Core.Path.{refl, sym, ◌∙◌}
use Rattle.judge.proofs.RulesJudged.{opened}
use Rattle.enter_edit.proofs.EachCarried.{reached-start, next-rule, all_hold, all-written, rule_fits, read, written, stands-there}
use Rattle.enter_edit.proofs.judge_each.Goals as goal

pub start-rest-requires : goal.start-rest-requires
start-rest-requires c = let p = c.requires in (record { what = p.1.each.what; stands = p.1.each.what_at }, p.2)

pub loop-at-init : goal.loop-at-init
loop-at-init c = (search rules, refl, refl, c.start-rest.ensures, λ rules Z f. reached-start _ _ _ _ _ _ _ rules Z c.node_count-n.ensures.0 f)

pub write_rule-written-requires : goal.write_rule-written-requires
write_rule-written-requires c =
    let l = c in let s = l in
    let q = next-rule _ _ _ _ _ _ (l.loop-at.invariant.4 _ _ s.requires.1.each) c.loop-at-test.true in (
      record { from = s.args.from; started = l.loop-at.invariant.3; fits = rule_fits _ _ _ _ _ _ q },
      record { short = s.requires.2.short; long = l.loop-at.invariant.1 ∙ l.start-rest.auto.work ∙ s.requires.2.long },
    )

-- what the evaluator requires of the sheet, and the rule that was written
pub rule_holds-requires : goal.rule_holds-requires
rule_holds-requires c =
    let w = c in
    let s = w in
    let i = w.loop-at.invariant in
    let q = next-rule _ _ _ _ _ _ (i.4 _ _ s.requires.1.each) w.loop-at-test.true in
    let count = w.node_count-n.ensures in (
      opened _ _ _ (λ k. omega (arith, w.type_inv.sheet k)) s.requires.0
          count.0 count.2 w.all_nodes-all.ensures,
      record { what = _; stands = stands-there _ _ _ _ _ _ q (w.write_rule-written.ensures _ i.3).0 },
    )

pub returns-then-not-rule_holds : goal.returns-then-not-rule_holds
returns-then-not-rule_holds c rules Z f =
    let w = c in let i = w.loop-at.invariant in
    let q = next-rule _ _ _ _ _ _ (i.4 rules Z f) w.loop-at-test.true in let r = (w.write_rule-written.ensures _ i.3).0 in
    let v = sym (c.rule_holds.ensures _ (stands-there _ _ _ _ _ _ q r)) ∙ c.if-not-rule_holds.true in
    record { answer_is = sym (q.broken-answer v); scratch_is = written _ _ _ _ _ _ q r ∙ sym (q.broken-scratch v) }

pub overflow_add-i : goal.overflow_add-i
overflow_add-i c = let w = c in
    omega (arith, w.loop-at.invariant.0, w.loop-at-test.true, w.well_formed.1.0)

pub loop-at-smaller : goal.loop-at-smaller
loop-at-smaller c =
    let w = c in let i = w.loop-at.invariant in
    let q = next-rule _ _ _ _ _ _ (i.4 _ _ w.requires.1.each) w.loop-at-test.true in
    omega (arith, read _ _ _ _ _ _ q (w.write_rule-written.ensures _ i.3).0, q.inside, q.some)

pub loop-at-preserved : goal.loop-at-preserved
loop-at-preserved c =
    let w = c in let i = w.loop-at.invariant in
    let l = w.loop-at-test.true in let y = w.write_rule-written.ensures _ i.3 in
    let q = next-rule _ _ _ _ _ _ (i.4 _ _ w.requires.1.each) l in (
      omega (arith, read _ _ _ _ _ _ q y.0, q.some, i.0),
      w.write_rule-written.auto.work ∙ i.1,
      w.write_rule-written.auto.out ∙ i.2,
      y.1,
      λ rules Z f. let q = next-rule _ _ _ _ _ _ (i.4 rules Z f) l in
          let v = sym (c.rule_holds.ensures _ (stands-there _ _ _ _ _ _ q y.0)) ∙ c.if-not-rule_holds.false in
          q.more _ _ (read _ _ _ _ _ _ q y.0) (written _ _ _ _ _ _ q y.0) v,
    )

pub returns : goal.returns
returns c rules Z f =
    let d = c.loop-at.invariant.4 rules Z f in
    record { answer_is = sym (all_hold _ _ _ _ _ _ d c.loop-at-test.false); scratch_is = sym (all-written _ _ _ _ _ _ d c.loop-at-test.false) }
