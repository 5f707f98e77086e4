-- Places and lengths that the code answers with, and those of the definitions, which are 0 for none.
use mathlib.Core.Path.{◌≡◌, refl, sym, ap, ◌∙◌}
use Prim.Native.Nat.{ℕ, zero, suc}
use Rattle.std.proofs.Common.{Some, None}
use Rattle.check_steps.specs.Raised.{found_at}

pub place-none : {n : ℕ} → 0 ≡ n → None ≡ found_at n
place-none e = ap found_at e

pub place-some : {x n : ℕ} → (x ≡ 0 → ⊥) → x ≡ n → Some x ≡ found_at n
place-some {x} some e = go x some ∙ ap found_at e where
  go : (x : ℕ) → (x ≡ 0 → ⊥) → Some x ≡ found_at x
  go zero s = absurd (s refl)
  go (suc x) s = refl

pub record Placed (x n : ℕ) : Type 0 where
  pub is : x ≡ n
  pub some : x ≡ 0 → ⊥

pub placed : {x n : ℕ} → Some x ≡ found_at n → Placed x n
placed {x} {n} e = go n e where
  go : (n : ℕ) → Some x ≡ found_at n → Placed x n
  go zero e = cc
  go (suc n) e = let z : x ≡ suc n = cc in record { is = z; some = λ f. let g : suc n ≡ 0 = sym z ∙ f in cc }

pub unplaced : {n : ℕ} → None ≡ found_at n → n ≡ 0
unplaced {n} e = go n e where
  go : (n : ℕ) → None ≡ found_at n → n ≡ 0
  go zero e = refl
  go (suc n) e = cc
