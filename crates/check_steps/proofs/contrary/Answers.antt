use native.Mathlib.Omega.{arith}
use mathlib.Core.Path.{refl, sym, ◌∙◌}
use Rattle.check_steps.proofs.Places.{place-none, place-some, placed, unplaced}
use Rattle.check_steps.proofs.Spans.{again-in}
use Rattle.check_steps.proofs.Sides.{contrary-none, contrary-other, contrary-found}
use Rattle.check_steps.proofs.contrary.Goals as goal

pub returns-in_err-second : goal.returns-in_err-second
returns-in_err-second c = c.from_residual.ensures ∙ place-none (contrary-none _ _ _ (sym (unplaced c.in_err-second.ensures)) refl)

pub bounds-text-second : goal.bounds-text-second
bounds-text-second c = let p = placed c.in_ok-second.ensures in let f = again-in _ _ _ _ p.is p.some in omega (arith, f.low, f.room)

pub returns-then-text-second-ne5 : goal.returns-then-text-second-ne5
returns-then-text-second-ne5 c = let p = placed c.in_ok-second.ensures in place-none (contrary-other _ _ _ p.is p.some c.if-text-second-ne5.true)

pub overflow_sub-result : goal.overflow_sub-result
overflow_sub-result c = let p = placed c.in_ok-second.ensures in let f = again-in _ _ _ _ p.is p.some in omega (arith, f.low)

pub returns : goal.returns
returns c =
    let p = placed c.in_ok-second.ensures in
    let f = again-in _ _ _ _ p.is p.some in
    place-some (λ z. omega (arith, f.low)) (contrary-found _ _ _ p.is p.some c.if-text-second-ne5.false)
