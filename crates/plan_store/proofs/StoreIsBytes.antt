-- A store is bytes.
use mathlib.Core.List.{◌∷◌}
use Prim.Native.Nat.{ℕ, ◌<◌}
use native.Mathlib.Omega.{arith}
use lib.ListN.{replicate}
use Rattle.bitset.specs.Words.{Bytes, set_of}
use Rattle.bitset.proofs.SetLaws.{set_of-lt}
use Rattle.seal.specs.Seal.{modulo257}
use Rattle.sheet.specs.Sheet.{sheet_bytes, chunks}
use Rattle.store.proofs.StoredBytes.{both_small, zeros-small, cons-small, chunks-small, sealed-small, store-small}
use Rattle.plan_store.specs.Store.{plan_count, Plan, unfilled, filled, Plans, is_filled, head_block, plan_bytes, store_of}

-- a value whose graphs have few nodes
abbrev pub FewNodes : Plan → Type 0
FewNodes unfilled = Unit {0}
FewNodes (filled g) = g.n < 256

pub store_of-small : (p : Plans) → ((i : ℕ) → FewNodes (p i)) → Bytes (store_of p)
unfolding store_of head_block plan_bytes
store_of-small p h =
    let names : ℕ = set_of plan_count (λ i. is_filled (p i)) in
    both_small (head_block names) (chunks plan_count 0 (λ i. plan_bytes (p i)))
    (sealed-small modulo257 (4 ∷ names ∷ replicate 506 0) (cons-small 4 (names ∷ replicate 506 0) (omega arith) (cons-small names (replicate 506 0) (omega (arith, set_of-lt plan_count (λ i. is_filled (p i)))) (zeros-small 506))))
    (chunks-small plan_count 0 (λ i. plan_bytes (p i)) (λ i l u. go (p i) (h i))) where
      go : (x : Plan) → FewNodes x → Bytes (plan_bytes x)
      go unfilled k = zeros-small sheet_bytes
      go (filled g) k = store-small g k
