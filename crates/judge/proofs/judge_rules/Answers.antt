use mathlib.Core.Path.{ap, ◌∙◌}
use native.Mathlib.Omega.{arith}
use Rattle.answer.specs.Answers.{asked}
use borrow.Author.Rules.{rules}
use Rattle.rows.proofs.OperationLaws.{not_is}
use Rattle.judge.proofs.RulesJudged.{opened, for-count, first_of, ends-inside, reached-start, reached-next, broken, none-broken}
use Rattle.judge.proofs.judge_rules.Goals as goal

pub loop-at-init : goal.loop-at-init
loop-at-init c = (search rules, λ rules s. reached-start _ _ _ _ rules s)

-- In each of these, d says what is left of the rules, and f is the first of them.
pub eval_rule-k-requires : goal.eval_rule-k-requires
eval_rule-k-requires c =
    let count = c.node_count-n.ensures in
    let d = c.loop-at.invariant.1 _ (for-count _ _ _ _ _ _ count.0 c.requires.1.stand) in
    let f = first_of _ _ _ _ d.left d.stand c.loop-at-test.true in
    (opened _ _ _ (λ p. omega (arith, c.type_inv.sheet p)) c.requires.0 count.0 count.2 c.all_nodes-all.ensures, record { what = f.K; stands = f.stands })

pub overflow_sub-result : goal.overflow_sub-result
overflow_sub-result c =
    let d = c.loop-at.invariant.1 _ (for-count _ _ _ _ _ _ c.node_count-n.ensures.0 c.requires.1.stand) in
    let f = first_of _ _ _ _ d.left d.stand c.loop-at-test.true in
    omega (arith, (c.eval_rule-k.ensures f.K f.stands).ends)

pub returns-then-not-k : goal.returns-then-not-k
returns-then-not-k c rules s =
    broken _ _ _ _ _ _ rules (c.loop-at.invariant.1 rules (for-count _ _ _ _ _ _ c.node_count-n.ensures.0 s)) _ _
    c.eval_rule-k.ensures c.loop-at-test.true (not_is _ _ c.if-not-k.true)

pub overflow_add-i : goal.overflow_add-i
overflow_add-i c = omega (arith, ends-inside _ _ _ c.requires.1.what c.requires.1.stand, c.loop-at.invariant.0, c.loop-at-test.true)

pub loop-at-smaller : goal.loop-at-smaller
loop-at-smaller c =
    let d = c.loop-at.invariant.1 _ (for-count _ _ _ _ _ _ c.node_count-n.ensures.0 c.requires.1.stand) in
    let f = first_of _ _ _ _ d.left d.stand c.loop-at-test.true in
    omega (arith, (c.eval_rule-k.ensures f.K f.stands).ends, f.inside, f.some)

pub loop-at-preserved : goal.loop-at-preserved
loop-at-preserved c =
    let d = c.loop-at.invariant.1 _ (for-count _ _ _ _ _ _ c.node_count-n.ensures.0 c.requires.1.stand) in
    let f = first_of _ _ _ _ d.left d.stand c.loop-at-test.true in (
      omega (arith, (c.eval_rule-k.ensures f.K f.stands).ends, f.some, c.loop-at.invariant.0),
      λ rules r. reached-next _ _ _ _ _ _ rules (c.loop-at.invariant.1 rules r) _ _ c.eval_rule-k.ensures c.loop-at-test.true (not_is _ _ c.if-not-k.false),
    )

pub returns : goal.returns
returns c rules s =
    let n = none-broken _ _ _ _ _ _ rules (c.loop-at.invariant.1 rules (for-count _ _ _ _ _ _ c.node_count-n.ensures.0 s)) c.loop-at-test.false in
    let v = c.without_rule.ensures in (ap asked v.0 ∙ n.0, v.1 ∙ n.1)
