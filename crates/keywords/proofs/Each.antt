-- A law for each number below a bound, from a proof for each, or from one test of all.
use mathlib.Core.Path.{◌≡◌}
use mathlib.Core.Bool.{Bool, true, ◌&&◌}
use Prim.Native.Nat.{ℕ, zero, suc, ◌<◌}
use native.Mathlib.Omega.{arith}
use Rattle.logic.proofs.Bools.{and_left, and_right}

unfoldable pub Each : (bound : ℕ) → (ℕ → Type 0) → Type 0
Each zero P = Unit {0}
Each (suc n) P = P 0 × Each n (λ i. P (suc i))

pub each_at : (n : ℕ) (P : ℕ → Type 0) → Each n P → (i : ℕ) → i < n → P i
unfolding Each
each_at zero P h i l = absurd (omega arith)
each_at (suc n) P h zero l = h.0
each_at (suc n) P h (suc i) l = each_at n (λ i. P (suc i)) h.1 i (omega arith)

unfoldable pub test_each : (bound : ℕ) → (ℕ → Bool) → Bool
test_each zero b = true
test_each (suc n) b = b 0 && test_each n (λ i. b (suc i))

pub tested_at : (n : ℕ) (b : ℕ → Bool) → test_each n b ≡ true → (i : ℕ) → i < n → b i ≡ true
unfolding test_each
tested_at zero b h i l = absurd (omega arith)
tested_at (suc n) b h zero l = and_left (b 0) (test_each n (λ i. b (suc i))) h
tested_at (suc n) b h (suc i) l = tested_at n (λ i. b (suc i)) (and_right (b 0) (test_each n (λ i. b (suc i))) h) i (omega arith)
