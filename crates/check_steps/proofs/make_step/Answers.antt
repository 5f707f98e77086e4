use native.Mathlib.Omega.{arith}
use mathlib.Core.Path.{◌∙◌}
use Rattle.check_steps.proofs.Places.{place-none, place-some, placed, unplaced}
use Rattle.check_steps.proofs.Sides.{moved-by}
use Rattle.check_steps.proofs.Leaving.{leaves_none, from-bounds, put-length, step_left}
use Rattle.check_steps.proofs.make_step.Goals as goal

pub returns-in_err-from-clause-value : goal.returns-in_err-from-clause-value
returns-in_err-from-clause-value c = c.from_residual.ensures ∙ place-none (leaves_none _ _ _ (unplaced c.in_err-from.ensures)).0

pub returns-in_err-from-clause-text_after : goal.returns-in_err-from-clause-text_after
returns-in_err-from-clause-text_after c = (leaves_none _ _ _ (unplaced c.in_err-from.ensures)).1

pub put_byte-requires : goal.put_byte-requires
put_byte-requires c = let p = placed c.in_ok-from.ensures in (from-bounds _ _ _ _ p.is p.some).high

pub copy_within-requires-clause-start_le_end : goal.copy_within-requires-clause-start_le_end
copy_within-requires-clause-start_le_end c =
    let p = placed c.in_ok-from.ensures in
    let b = from-bounds _ _ _ _ p.is p.some in
    omega (arith, b.high, put-length _ _ _ c.put_byte.ensures)

pub copy_within-requires-clause-dest_in_bounds : goal.copy_within-requires-clause-dest_in_bounds
copy_within-requires-clause-dest_in_bounds c =
    let p = placed c.in_ok-from.ensures in
    let b = from-bounds _ _ _ _ p.is p.some in
    omega (arith, b.low, b.high, put-length _ _ _ c.put_byte.ensures)

pub overflow_sub-result : goal.overflow_sub-result
overflow_sub-result c = let p = placed c.in_ok-from.ensures in (from-bounds _ _ _ _ p.is p.some).low

pub overflow_sub-result-2 : goal.overflow_sub-result-2
overflow_sub-result-2 c =
    let p = placed c.in_ok-from.ensures in
    let l = step_left _ _ _ p.is p.some c.put_byte.ensures (c.copy_within.ensures.after ∙ moved-by _ _ _) in
    omega (arith, l.bounds.high, l.same_length)

pub returns : goal.returns
returns c =
    let p = placed c.in_ok-from.ensures in
    let l = step_left _ _ _ p.is p.some c.put_byte.ensures (c.copy_within.ensures.after ∙ moved-by _ _ _) in
    record { value = place-some (λ z. omega (arith, l.bounds.low, l.bounds.high, l.same_length)) l.answer; text_after = l.bytes }
