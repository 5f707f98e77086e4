use borrow.Author.Rules.{rules}
use native.Mathlib.Omega.{arith}
use native.Mathlib.Nat.{sub-zero}
use mathlib.Core.Path.{sym, ap₂, ◌∙◌}
use Rattle.logic.specs.Syntax.{rule}
use Rattle.text.specs.Reading.{expr}
use Rattle.text.specs.Questions.{rules_end, rule_start_def}
use Rattle.text.proofs.TextStages.{was_read, start-here, start-next, start-stopped}
use Rattle.text.proofs.Text.rule_start.Goals as goal

pub loop-init : goal.loop-init
loop-init c = unfold rule_start_def in (search rules, ap₂ (λ r k. rules_end r k c.args.book.now 0) c.limits_for-limits.ensures (sub-zero c.args.i))

pub returns : goal.returns
returns c = start-here _ _ _ _ (omega (arith, c.loop-test.false)) ∙ c.loop.invariant.1

pub returns-in_default : goal.returns-in_default
returns-in_default c =
    start-stopped _ _ _ _ (omega (arith, c.loop-test.true)) c.loop.invariant.0 (sym c.read.ensures ∙ c.in_default.is) ∙ c.loop.invariant.1

pub loop-preserved : goal.loop-preserved
loop-preserved c =
    let e = sym c.read.ensures ∙ c.in-Ok.is in
    ((was_read _ _ (expr rule) _ e).inside c.loop.invariant.0, start-next _ _ _ _ _ (omega (arith, c.loop-test.true)) e ∙ c.loop.invariant.1)
