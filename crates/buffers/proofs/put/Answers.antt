use mathlib.Core.Path.{sym, ◌∙◌}
use Prim.Native.Nat.{◌+◌, ◌-◌, ◌≤◌}
use native.Mathlib.Omega.{arith}
use lib.ListN.{length}
use lib.Seq.{take_all}
use Rattle.buffers.proofs.FilledLaws.{filled_none, filled_next, filled-rest, filled-whole, filled-part}
use Rattle.buffers.proofs.put.Goals as goal

-- all fit, and are copied
pub returns-then-end-output-clause-output_after : goal.returns-then-end-output-clause-output_after
returns-then-end-output-clause-output_after c =
    let a = c.args in
    let n : length a.bytes.now ≤ a.at + length a.bytes.now - a.at = omega arith in
    filled-part a.at a.bytes.now a.output.now (omega (arith, c.if-end-output.true)) (omega (arith, c.if-end-output.true)) (c.copy_from_slice.ensures.after ∙ sym (take_all _ a.bytes.now n))

pub loop-i-init : goal.loop-i-init
loop-i-init c = sym (filled_none _ _)

pub loop-i-preserved : goal.loop-i-preserved
loop-i-preserved c = let l = c.loop-i in filled_next _ _ _ l.i c.loop-i-test.true l.invariant

-- the rest does not fit
pub returns-then-at-i-clause-output_after : goal.returns-then-at-i-clause-output_after
returns-then-at-i-clause-output_after c = let l = c.loop-i in filled-rest _ _ _ l.i c.loop-i-test.true l.invariant c.if-at-i.true

pub returns-after-loop-i-clause-output_after : goal.returns-after-loop-i-clause-output_after
returns-after-loop-i-clause-output_after c = let l = c.loop-i in l.invariant ∙ filled-whole _ _ _ l.i (omega (arith, c.loop-i-test.false))
