use mathlib.Core.Path.{◌≡◌, sym, ap, ◌∙◌}
use mathlib.Core.List.{List}
use Prim.Native.Nat.{ℕ, ◌<◌, ◌%◌}
use native.Mathlib.Omega.{arith}
use lib.ListN.{length, take}
use lib.Seq.{length-take-le}
use Rattle.bitset.specs.Words.{Bytes}
use Rattle.bitset.proofs.WordLaws.{part_small}
use Rattle.seal.specs.Seal.{modulo257}
use Rattle.seal.specs.Lanes.{total, weighed}
use Rattle.seal.proofs.TotalLaws.{sums-total, sums-weighed, plain_totals}
use Rattle.seal.proofs.sums_of.Goals as goal

-- the body's plain totals fit into 32 bits
totals-fit : (k : List ℕ) → length k ≡ 512 → Bytes k → (total (take 508 k) < 4294967296) × (weighed (take 508 k) < 4294967296)
totals-fit k h small =
    let low = plain_totals (take 508 k) (length-take-le 508 k (omega (arith, h))) (part_small k 508 0 small) in
    (omega (arith, low.0), omega (arith, low.1))

pub overflow_cast-all : goal.overflow_cast-all
overflow_cast-all c = record { fits = omega (arith, c.totals_to-all.ensures.0, (totals-fit c.args.block.now c.requires (λ p. omega (arith, c.type_inv.block p))).0) }

pub overflow_cast-all-2 : goal.overflow_cast-all-2
overflow_cast-all-2 c = record { fits = omega (arith, c.totals_to-all.ensures.1, (totals-fit c.args.block.now c.requires (λ p. omega (arith, c.type_inv.block p))).1) }

pub returns-clause-s_value : goal.returns-clause-s_value
returns-clause-s_value c =
    let k = c.args.block.now in
    let r = c.totals_to-all.ensures in (
      c.left.ensures.0 ∙ ap (◌% 257) r.0 ∙ sym (sums-total modulo257 (take 508 k)),
      c.left-2.ensures.0 ∙ ap (◌% 257) r.1 ∙ sym (sums-weighed modulo257 (take 508 k)),
    )
