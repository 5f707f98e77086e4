-- The plain totals of bytes, 8 bytes at a time.
use mathlib.Core.Path.{◌≡◌, ap, ◌∙◌}
use mathlib.Core.List.{List, [], ◌∷◌, ◌++◌}
use Prim.Native.Nat.{ℕ, suc, ◌+◌, ◌*◌, ◌≤◌, ◌<◌}
use native.Mathlib.Omega.{arith}
use lib.ListN.{length, get_or, take, length-append}
use lib.Seq.{take-suc}
use Rattle.seal.specs.Lanes.{total, weighed}

-- one more byte
total-more : (l : List ℕ) (b : ℕ) → total (l ++ b ∷ []) ≡ total l + b
unfolding total
total-more [] b = omega arith
total-more (a ∷ l) b = omega (arith, total-more l b)

weighed-more : (l : List ℕ) (b : ℕ) → weighed (l ++ b ∷ []) ≡ weighed l + (total l + b)
unfolding weighed total
weighed-more [] b = omega arith
weighed-more (a ∷ l) b = rw (length-append l (b ∷ [])) (omega (arith, weighed-more l b))

module _ (l : List ℕ) where
  abbrev pub S : ℕ → ℕ
  S n = total (take n l)

  abbrev pub T : ℕ → ℕ
  T n = weighed (take n l)

  pub next-byte : (n m : ℕ) → m ≡ suc n → n < length l → (S m ≡ S n + get_or l n 0) × (T m ≡ T n + (S n + get_or l n 0))
  next-byte n m e h =
      let one = ap (λ k. take k l) e ∙ take-suc l n 0 h in
      (ap total one ∙ total-more (take n l) (get_or l n 0), ap weighed one ∙ weighed-more (take n l) (get_or l n 0))

  -- the eight bytes from p on: their total; in pairs, weighted by place; those at odd places; and so each byte weighted by its place
  abbrev pub eight : ℕ → ℕ
  eight p = get_or l p 0 + get_or l (p + 1) 0 + (get_or l (p + 2) 0 + get_or l (p + 3) 0) + (get_or l (p + 4) 0 + get_or l (p + 5) 0) + (get_or l (p + 6) 0 + get_or l (p + 7) 0)

  abbrev pub steps : ℕ → ℕ
  steps p = get_or l (p + 2) 0 + get_or l (p + 3) 0 + 2 * (get_or l (p + 4) 0 + get_or l (p + 5) 0) + 3 * (get_or l (p + 6) 0 + get_or l (p + 7) 0)

  abbrev pub odd : ℕ → ℕ
  odd p = get_or l (p + 1) 0 + get_or l (p + 3) 0 + get_or l (p + 5) 0 + get_or l (p + 7) 0

  abbrev pub placed : ℕ → ℕ
  placed p = odd p + 2 * steps p

  pub eight-more : (p q : ℕ) → q ≡ p + 8 → p + 8 ≤ length l → (S q ≡ S p + eight p) × (T q + placed p ≡ T p + 8 * S p + 8 * eight p)
  eight-more p q e h =
      let n1 = next-byte p (p + 1) (omega arith) (omega arith) in
      let n2 = next-byte (p + 1) (p + 2) (omega arith) (omega arith) in
      let n3 = next-byte (p + 2) (p + 3) (omega arith) (omega arith) in
      let n4 = next-byte (p + 3) (p + 4) (omega arith) (omega arith) in
      let n5 = next-byte (p + 4) (p + 5) (omega arith) (omega arith) in
      let n6 = next-byte (p + 5) (p + 6) (omega arith) (omega arith) in
      let n7 = next-byte (p + 6) (p + 7) (omega arith) (omega arith) in
      let n8 = next-byte (p + 7) q (omega arith) (omega arith) in
      (omega arith, omega arith)
