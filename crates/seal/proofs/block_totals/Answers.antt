use mathlib.Core.Path.{◌≡◌, ap₂, ◌∙◌, subst}
use mathlib.Core.List.{List}
use Prim.Native.Nat.{ℕ, ◌≤◌, ◌-◌, ◌*◌, ◌%◌, ◌+◌, ◌/◌}
use native.Mathlib.Nat.{mul-le-mul}
use native.Mathlib.Numerals.{add-one}
use native.Mathlib.Omega.{arith}
use lib.ListN.{length}
use Rattle.bitset.specs.Words.{Bytes}
use Rattle.seal.specs.Seal.{block_bytes}
use Rattle.seal.specs.Lanes.{lane_sum_def, lane_places, total, weighed}
use Rattle.seal.proofs.LaneTotals.{Counted, counted_none, counted-more, counted-all, across-is}
use Rattle.seal.proofs.block_totals.Invariants.{Inv}
use Rattle.seal.proofs.block_totals.Goals as goal

-- a sum of lanes times at most 8
product : (x j : ℕ) → x % 0x10000 * (8 - j) ≤ 524280
product x j = mul-le-mul {n₂ = 0xFFFF} {m₂ = 8} (below x) (omega arith) where
  below : (x : ℕ) → x % 0x10000 ≤ 0xFFFF
  below x = omega arith

-- what is subtracted from t is no more than there is, and what remains
less : (x w p off : ℕ) → x ≡ w + p → off ≡ p → (off ≤ x) × (x - off ≡ w)
less x w p off e f = omega arith

-- the totals, and what is subtracted from t, from the lanes after all eight words of each part
right : (k : List ℕ) → length k ≡ block_bytes → (first second before odds z j : ℕ) → Inv k first second before odds z j → j ≡ 8 → (p q : ℕ) → p ≡ lane_sum_def before → q ≡ lane_sum_def first
    → (lane_sum_def (first + second) ≡ total k) × (8 * (z + 8 * (p + 4 * q)) ≡ weighed k + lane_places (first + second) odds)
right k h first second before odds z j v end p q e f =
    let both = counted-all k h (subst (Counted k first second before odds z) end v.counted) in
    (both.0, ap₂ (λ x y. 8 * (z + 8 * (x + 4 * y))) e f ∙ both.1)

pub loop-j-init : goal.loop-j-init
loop-j-init c = record { low = omega arith; z-low = omega arith; counted = counted_none _ }

pub loop-j-preserved : goal.loop-j-preserved
loop-j-preserved c =
    let l = c.loop-j in
    let k = c.args.block.now in
    let small : Bytes k = λ p. omega (arith, c.type_inv.block p) in
    let x = c.four_words-x in
    let y = c.four_words-y in
    let xs = x.ensures.sum_value in
    let ys = y.ensures.sum_value in
    let eight = x.result.sum + y.result.sum in
    rw (add-one l.j)
    (record {
      low = omega (arith, l.invariant.low, x.ensures.sum_bound, y.ensures.sum_bound);
      z-low = omega (arith, l.invariant.z-low, product (eight + eight / 0x100000000 + (eight + eight / 0x100000000) / 0x10000) l.j);
      counted =
          counted-more k small c.requires l.invariant.counted c.loop-j-test.true _ _ _ _ _ _ _
          xs.0 ys.0 xs.1 ys.1 xs.2 ys.2 (across-is k small l.j eight (ap₂ ◌+◌ xs.0 ys.0));
    })

pub overflow_sub-result : goal.overflow_sub-result
overflow_sub-result c =
    let l = c.loop-j in
    let both = right c.args.block.now c.requires _ _ _ _ _ _ l.invariant (omega arith) _ _ c.lane_sum.ensures.0 c.lane_sum-2.ensures.0 in
    (less _ _ _ _ both.1 c.places.ensures.0).0

pub returns : goal.returns
returns c =
    let l = c.loop-j in
    let both = right c.args.block.now c.requires _ _ _ _ _ _ l.invariant (omega arith) _ _ c.lane_sum.ensures.0 c.lane_sum-2.ensures.0 in
    (c.lane_sum-3.ensures.0 ∙ both.0, (less _ _ _ _ both.1 c.places.ensures.0).1)
