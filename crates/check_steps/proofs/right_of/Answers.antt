use native.Mathlib.Omega.{arith}
use mathlib.Core.Path.{ap, ◌∙◌}
use Prim.Native.Nat.{◌-◌}
use Rattle.check_steps.specs.Raised.{second_bytes_def, found_at}
use Rattle.check_steps.proofs.Places.{place-some}
use Rattle.check_steps.proofs.Sides.{right-4, right-5, right-again, right-next}
use Rattle.check_steps.proofs.right_of.Goals as goal

pub returns-in-4 : goal.returns-in-4
returns-in-4 c = c.contrary.ensures ∙ ap found_at (right-4 _ _ _ c.in-4.is)

pub returns-in-5 : goal.returns-in-5
returns-in-5 c = place-some (λ z. omega (arith, c.behind.ensures)) (ap (◌- 1) c.behind.ensures ∙ right-5 _ _ _ (λ e. omega (arith, c.in-5.is)) c.in-5.is)

pub returns-in_default : goal.returns-in_default
unfolding second_bytes_def
returns-in_default c = c.again.ensures ∙ ap found_at (right-again _ _ _ (λ e. omega arith) (λ e. omega arith) c.if-law-eq0.true)

pub returns-in_default-2 : goal.returns-in_default-2
unfolding second_bytes_def
returns-in_default-2 c = place-some (λ z. omega arith) (right-next _ _ _ (λ e. omega arith) (λ e. omega arith) c.if-law-eq0.false)
