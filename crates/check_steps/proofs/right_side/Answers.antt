use mathlib.Core.Path.{ap, ◌∙◌}
use Rattle.check_steps.specs.Raised.{first_bytes_def, second_bytes_def, found_at}
use Rattle.check_steps.proofs.Places.{place-none}
use Rattle.check_steps.proofs.Sides.{side-short, side-unknown, side-first, side-any, side-second, side-both}
use Rattle.check_steps.proofs.right_side.Goals.{then-at-text-via-then-at-text, then-at-text-via-else-at-text+then-law-gt8, then-at-text-via-else-at-text+else-law-gt8+then-text-at, else-law-ne0-via-then-law-ne0+else-text-at-2, else-law-ne0-via-else-law-ne0}
use Rattle.check_steps.proofs.right_side.Goals as goal

pub returns-then-at-text : goal.returns-then-at-text
unfolding first_bytes_def second_bytes_def
returns-then-at-text c = elim c.then-at-text.branch [
  | then-at-text-via-then-at-text w ↦ place-none (side-short _ _ _ w.if-at-text.true)
  | then-at-text-via-else-at-text+then-law-gt8 w ↦ place-none (side-unknown _ _ _ w.if-at-text.false w.if-law-gt8.true)
  | then-at-text-via-else-at-text+else-law-gt8+then-text-at w ↦ place-none (side-first _ _ _ w.if-at-text.false w.if-law-gt8.false w.if-text-at.true)
]

pub returns-then-text-at-2 : goal.returns-then-text-at-2
unfolding first_bytes_def second_bytes_def
returns-then-text-at-2 c = place-none (side-second _ _ _ c.if-at-text.false c.if-law-gt8.false c.if-text-at.false c.if-law-ne0.true c.if-text-at-2.true)

pub returns : goal.returns
unfolding first_bytes_def second_bytes_def
returns c = elim c.else-law-ne0.branch [
  | else-law-ne0-via-then-law-ne0+else-text-at-2 w ↦ c.right_of.ensures ∙ ap found_at (side-both _ _ _ c.if-at-text.false c.if-law-gt8.false c.if-text-at.false w.if-law-ne0.true w.if-text-at-2.false)
  | else-law-ne0-via-else-law-ne0 w ↦ c.right_of.ensures ∙ ap found_at (side-any _ _ _ c.if-at-text.false c.if-law-gt8.false c.if-text-at.false w.if-law-ne0.false)
]
