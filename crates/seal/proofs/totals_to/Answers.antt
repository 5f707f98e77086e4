use mathlib.Core.Path.{◌≡◌, refl, sym, ap, ◌∙◌}
use mathlib.Core.List.{List}
use Prim.Native.Nat.{ℕ, ◌≤◌, ◌<◌, ◌-◌}
use native.Mathlib.Omega.{arith}
use lib.ListN.{length, get_or}
use lib.Seq.{take_all}
use Rattle.seal.specs.Lanes.{total, weighed}
use Rattle.seal.proofs.WordSums.{S, T, next-byte}
use Rattle.seal.proofs.totals_to.Goals as goal

-- the last byte subtracted from the totals of the first i
less : (l : List ℕ) (s t i b : ℕ) → 0 < i → i ≤ length l → s ≡ S l i → t ≡ T l i → b ≡ get_or l (i - 1) 0
    → ((s ≤ t) × (b ≤ s)) × ((s - b ≡ S l (i - 1)) × (t - s ≡ T l (i - 1)))
less l s t i b h n e f g = let last = next-byte l (i - 1) i (omega arith) (omega arith) in ((omega arith, omega arith), (omega arith, omega arith))

pub loop-i-init : goal.loop-i-init
loop-i-init c =
    let f = c.block_totals-all.ensures in
    let all = sym (take_all 512 c.args.block.now (omega arith)) in
    (c.requires.1, f.0 ∙ ap total all, f.1 ∙ ap weighed all)

pub overflow_sub-all : goal.overflow_sub-all
overflow_sub-all c = let v = c.loop-i.invariant in (less c.args.block.now _ _ c.loop-i.i _ (omega arith) (omega arith) v.1 v.2 refl).0.0

pub overflow_sub-all-in-loop-i : goal.overflow_sub-all-in-loop-i
overflow_sub-all-in-loop-i c = let v = c.loop-i.invariant in (less c.args.block.now _ _ c.loop-i.i _ (omega arith) (omega arith) v.1 v.2 c.from.ensures).0.1

pub loop-i-preserved : goal.loop-i-preserved
loop-i-preserved c =
    let v = c.loop-i.invariant in
    let w = (less c.args.block.now _ _ c.loop-i.i _ (omega arith) (omega arith) v.1 v.2 c.from.ensures).1 in
    (omega arith, w.0, w.1)
