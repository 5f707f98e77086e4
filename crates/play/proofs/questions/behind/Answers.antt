use mathlib.Core.Path.{◌≡◌, subst}
use Prim.Native.Nat.{ℕ, ◌<◌}
use native.Mathlib.Omega.{arith}
use lib.ListN.{length, drop}
use Rattle.play.specs.Standing.{EditsStand}
use Rattle.play.proofs.GameEdits.{next_at, others-stand}
use Rattle.play.proofs.questions.behind.Goals as goal

pub loop-init : goal.loop-init
loop-init c = λ Zs e. record { stand = e.stand }

-- the next edit stands there
pub end_of-at-requires : goal.end_of-at-requires
end_of-at-requires c =
    let q = c.requires in
    record { what = _; stands = next_at (c.loop.invariant q.what q.are) (omega (arith, c.loop-test.true, q.are.enough)) }

pub loop-preserved : goal.loop-preserved
loop-preserved c = λ Zs e.
    let s = c.loop.invariant Zs e in
    let l : c.loop.counter < length Zs = omega (arith, c.loop-test.true, e.enough) in
    others-stand s l (c.end_of-at.ensures _ (next_at s l))

pub returns : goal.returns
returns c Zs e =
    let q : c.loop.counter ≡ c.args.count = omega (arith, c.loop.auto.counter-end, c.loop-test.false) in
    subst (λ (k : ℕ). EditsStand e.limits c.args.edits.now c.loop.at (drop k Zs)) q (c.loop.invariant Zs e).stand
