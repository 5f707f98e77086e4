-- The sums of any form are remainders of plain totals: along a body, and after one byte changes.
use mathlib.Core.Path.{◌≡◌, sym, ap, ap₂, ◌∙◌}
use mathlib.Core.List.{List, [], ◌∷◌}
use Prim.Native.Nat.{ℕ, zero, suc, ◌+◌, ◌-◌, ◌*◌, ◌%◌, ◌≤◌, ◌<◌}
use native.Mathlib.Nat.{mod-add-mod, add-mod, mod-eq_of_lt, add-mul-mod_self_right, mul-le-mul_left}
use native.Mathlib.Omega.{arith}
use lib.ListN.{length, get_or, set, length-set}
use Rattle.bitset.specs.Words.{Bytes}
use Rattle.seal.specs.Seal.{Form, Sums, sums, sums_from}
use Rattle.seal.specs.Lanes.{total, weighed}

-- the sums are the remainders of the totals
sums-from : (m : ℕ) (l : List ℕ) (s t : ℕ) → sums_from m (s % m) (t % m) l ≡ record { s = (s + total l) % m; t = (t + (length l * s + weighed l)) % m }
unfolding sums_from total weighed
sums-from m [] s t =
    let e : s ≡ s + 0 = omega arith in
    let f : t ≡ t + (0 * s + 0) = omega arith in
    ap₂ (λ x y. record { s = x % m; t = y % m }) e f
sums-from m (b ∷ l) s t =
    let e : s + b + total l ≡ s + (b + total l) = omega arith in
    let f : t + (s + b) + (length l * (s + b) + weighed l) ≡ t + (suc (length l) * s + (suc (length l) * b + weighed l)) = omega arith in
    ap₂ (λ x y. sums_from m x y l) (mod-add-mod s m b) (ap (λ x. (t % m + x) % m) (mod-add-mod s m b) ∙ sym (add-mod t (s + b) m))
    ∙ sums-from m l (s + b) (t + (s + b)) ∙ ap₂ (λ x y. record { s = x % m; t = y % m }) e f

module _ (f : Form) (l : List ℕ) where
  from_zero : sums f l ≡ record { s = total l % f.modulus; t = weighed l % f.modulus }
  from_zero =
      let z : 0 + total l ≡ total l = omega arith in
      let w : 0 + (length l * 0 + weighed l) ≡ weighed l = omega arith in
      ap₂ (λ x y. sums_from f.modulus x y l) (sym (mod-eq_of_lt f.nonzero)) (sym (mod-eq_of_lt f.nonzero))
      ∙ sums-from f.modulus l 0 0 ∙ ap₂ (λ x y. record { s = x % f.modulus; t = y % f.modulus }) z w

  pub sums-total : (sums f l).s ≡ total l % f.modulus
  sums-total = ap (λ (u : Sums). u.s) from_zero

  pub sums-weighed : (sums f l).t ≡ weighed l % f.modulus
  sums-weighed = ap (λ (u : Sums). u.t) from_zero

-- byte p becomes x
pub total-set : (l : List ℕ) (p x : ℕ) → p < length l → total (set l p x) + get_or l p 0 ≡ total l + x
unfolding total
total-set [] p x h = absurd (omega arith)
total-set (b ∷ l) zero x h = omega arith
total-set (b ∷ l) (suc p) x h = omega (arith, total-set l p x (omega arith))

pub weighed-set : (l : List ℕ) (p x : ℕ) → p < length l → weighed (set l p x) + (length l - p) * get_or l p 0 ≡ weighed l + (length l - p) * x
unfolding weighed
weighed-set [] p x h = absurd (omega arith)
weighed-set (b ∷ l) zero x h = let w : suc (length l) - 0 ≡ suc (length l) = omega arith in rw w (omega arith)
weighed-set (b ∷ l) (suc p) x h = let w : suc (length l) - suc p ≡ length l - p = omega arith in rw w (omega (arith, weighed-set l p x (omega arith), ap (◌* b) (length-set l p x)))

-- numbers that differ by multiples of m have the same remainder
pub alike : (m x y a b : ℕ) → x + a * m ≡ y + b * m → x % m ≡ y % m
alike m x y a b e = sym (add-mul-mod_self_right x a m) ∙ ap (◌% m) e ∙ add-mul-mod_self_right y b m

-- The plain totals of bytes: for 508 bytes at most 129,540 and 32,967,930.
total-low : (l : List ℕ) → Bytes l → total l ≤ 255 * length l
unfolding total
total-low [] small = omega arith
total-low (b ∷ l) small = omega (arith, small 0, total-low l (λ p. small (suc p)))

weighed-low : (l : List ℕ) → Bytes l → 2 * weighed l ≤ 255 * (length l * suc (length l))
unfolding weighed
weighed-low [] small = omega arith
weighed-low (b ∷ l) small = step b (length l) (weighed l) (mul-le-mul_left {m = b} {n = 255} (suc (length l)) (omega (arith, small 0))) (weighed-low l (λ p. small (suc p))) where
  step : (b n w : ℕ) → suc n * b ≤ suc n * 255 → 2 * w ≤ 255 * (n * suc n) → 2 * (suc n * b + w) ≤ 255 * (suc n * suc (suc n))
  step b n w h k = omega arith

pub plain_totals : (l : List ℕ) → length l ≡ 508 → Bytes l → (total l ≤ 129540) × (weighed l ≤ 32967930)
plain_totals l h small = (omega (arith, total-low l small), weigh (length l) (weighed l) h (weighed-low l small)) where
  weigh : (n w : ℕ) → n ≡ 508 → 2 * w ≤ 255 * (n * suc n) → w ≤ 32967930
  weigh n w e k = let g : 2 * w ≤ 255 * (508 * 509) = rw e at k in omega arith
