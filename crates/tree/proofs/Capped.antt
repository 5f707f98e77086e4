-- Cut-off numbers: an earlier cut does not matter.
use mathlib.Core.Path.{◌≡◌, refl, sym, ◌∙◌, ap}
use Prim.Native.Nat.{ℕ, zero, suc, ◌+◌, ◌*◌, max, ◌≤◌, ◌<◌}
use native.Mathlib.Omega.{arith}
use native.Mathlib.Nat.{mul-le-mul_left, mul-le-mul_right}
use native.Mathlib.Decide.{dec_lt}
use Rattle.tree.specs.Tree.{under}
use Rattle.tree.specs.Sizes.{beyond, capped}
use Rattle.tree.proofs.Measured.{under-under, under-nothing}

pub capped-max : (x y : ℕ) → capped (max x y) ≡ max (capped x) (capped y)
capped-max x y = omega arith

pub capped-mul : (x c w : ℕ) → capped (capped x + capped c * w) ≡ capped (x + c * w)
capped-mul x c zero = omega arith
capped-mul x c (suc w) = go (dec_lt c beyond) where
  go : Dec (c < beyond) → capped (capped x + capped c * suc w) ≡ capped (x + c * suc w)
  go (yes l) = let e : capped c ≡ c = omega arith in ap (λ (u : ℕ). capped (capped x + u * suc w)) e ∙ omega arith
  go (no l) =
      let e : capped c ≡ beyond = omega arith in
      let m : beyond * 1 ≤ beyond * suc w = mul-le-mul_left {m = 1} {n = suc w} beyond (omega arith) in
      let k : beyond * suc w ≤ c * suc w = mul-le-mul_right {m = beyond} {n = c} (suc w) (omega arith) in
      ap (λ (u : ℕ). capped (capped x + u * suc w)) e ∙ omega (arith, m, k)

pub capped-under : (d x : ℕ) → capped (under (capped d) x) ≡ capped (under d x)
unfolding under
capped-under zero x = refl
capped-under (suc d) zero = ap capped (under-nothing (capped (suc d)))
capped-under (suc d) (suc x) = go (dec_lt (suc d) beyond) where
  go : Dec (suc d < beyond) → capped (under (capped (suc d)) (suc x)) ≡ capped (suc (d + x))
  go (yes l) = let e : capped (suc d) ≡ suc d = omega arith in ap (λ (u : ℕ). capped (under u (suc x))) e
  go (no l) = let e : capped (suc d) ≡ suc 16384 = omega arith in ap (λ (u : ℕ). capped (under u (suc x))) e ∙ omega arith

pub capped-under-under : (d e x : ℕ) → capped (under (under (capped d) e) x) ≡ capped (under (under d e) x)
capped-under-under d e x = ap capped (under-under (capped d) e x) ∙ capped-under d (under e x) ∙ ap capped (sym (under-under d e x))
