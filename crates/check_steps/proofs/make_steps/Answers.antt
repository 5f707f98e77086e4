use Rattle.std.proofs.Common.{arith, ◌≡◌, ◌+◌, ◌*◌}
use mathlib.Core.Path.{refl, sym, ◌∙◌}
use Rattle.check_steps.proofs.Places.{placed, unplaced}
use Rattle.check_steps.proofs.Leading.{leading_end, leading-cut, leading_step}
use Rattle.check_steps.proofs.make_steps.Goals as goal

pub returns-then-steps-p-lt3 : goal.returns-then-steps-p-lt3
returns-then-steps-p-lt3 c = leading-cut c.loop-i.invariant (omega (arith, c.loop-i-test.true, c.div_ceil-i-end.ensures)) c.if-steps-p-lt3.true

pub returns-in_default : goal.returns-in_default
returns-in_default c = (leading_step c.loop-i.invariant c.if-steps-p-lt3.false c.offset-at.ensures.0 c.from-law.ensures refl c.make_step.ensures.text_after).unfit (unplaced (sym c.in_default.is ∙ c.make_step.ensures.value))

pub loop-i-preserved : goal.loop-i-preserved
loop-i-preserved c =
    let e : 3 * (c.loop-i.i + 1) ≡ 3 * c.loop-i.i + 3 = omega arith in
    let p = placed (sym c.in-Some.is ∙ c.make_step.ensures.value) in
    rw e ((leading_step c.loop-i.invariant c.if-steps-p-lt3.false c.offset-at.ensures.0 c.from-law.ensures p.is c.make_step.ensures.text_after).leading p.some)

pub returns : goal.returns
returns c = leading_end c.loop-i.invariant (omega (arith, c.loop-i-test.false, c.div_ceil-i-end.ensures))
