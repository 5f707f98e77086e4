-- The first number below a bound that passes a test.
use mathlib.Core.Path.{◌≡◌, refl, sym, ◌∙◌, ap, ap₂}
use mathlib.Core.Bool.{Bool, true, false, cond}
use Prim.Native.Nat.{ℕ, zero, suc, ◌+◌, ◌<◌, ◌≤◌}
use native.Mathlib.Nat.{add-zero, add-suc}
use native.Mathlib.Omega.{arith}
use native.Mathlib.Decide.{dec_lt}
use Rattle.logic.proofs.Bools.{true-false}
use Rattle.names.specs.Token.{Found, found, absent, first_below}
use Rattle.names.proofs.TokenLaws.{found_none}

abbrev onward : Found ℕ → Bool → ℕ → Found ℕ
onward f b n = elim f as (λ z. Found ℕ) [ found x ↦ found x | absent ↦ cond b (found n) absent ]

-- Searching one by one: none so far, and here it is, or is not.
pub first-here : (p : ℕ → Bool) (n x : ℕ) → x < n → first_below p x ≡ absent → p x ≡ true → first_below p n ≡ found x
unfolding first_below
first-here p zero x h a e = absurd (omega arith)
first-here p (suc n) x h a e = elim (dec_lt x n) [
  | yes k ↦ ap (λ f. onward f (p n) n) (first-here p n x k a e)
  | no k ↦ (let q : x ≡ n = omega arith in ap₂ (λ f b. onward f b n) (sym (ap (first_below p) q) ∙ a) (sym (ap p q) ∙ e) ∙ ap found (sym q))
]

pub first_on : (p : ℕ → Bool) (x : ℕ) → first_below p x ≡ absent → p x ≡ false → first_below p (suc x) ≡ absent
unfolding first_below
first_on p x a e = ap₂ (λ f b. onward f b x) a e

-- It is 0, or the first from 1 on.
abbrev pub up_one : Found ℕ → Found ℕ
up_one (found x) = found (suc x)
up_one absent = absent

pub first-front : (p : ℕ → Bool) (n : ℕ) → first_below p (suc n) ≡ cond (p 0) (found 0) (up_one (first_below (λ x. p (suc x)) n))
unfolding first_below
first-front p zero = refl
first-front p (suc n) =
    ap (λ (f : Found ℕ). onward f (p (suc n)) (suc n)) (first-front p n) ∙ go (p 0) (p (suc n)) (first_below (λ x. p (suc x)) n)
  where
    go : (a b : Bool) (f : Found ℕ) → onward (cond a (found 0) (up_one f)) b (suc n) ≡ cond a (found 0) (up_one (onward f b n))
    go true b f = refl
    go false b (found x) = refl
    go false true absent = refl
    go false false absent = refl

-- Tests that agree find the same.
pub first-same : (p q : ℕ → Bool) (n : ℕ) → ((x : ℕ) → x < n → p x ≡ q x) → first_below p n ≡ first_below q n
unfolding first_below
first-same p q zero h = refl
first-same p q (suc n) h = ap₂ (λ (f : Found ℕ) (b : Bool). onward f b n) (first-same p q n (λ x l. h x (omega arith))) (h n (omega arith))

-- A test that fails outside a range finds what is found in the range.
no_further : (f : Found ℕ) (b : Bool) (n : ℕ) → b ≡ false → onward f b n ≡ f
no_further (found x) b n e = refl
no_further absent b n e = ap (λ b. cond b (found n) absent) e

-- Found, but m numbers further on.
abbrev pub further : ℕ → Found ℕ → Found ℕ
further m (found x) = found (m + x)
further m absent = absent

further-on : (m : ℕ) (f : Found ℕ) (b : Bool) (n : ℕ) → onward (further m f) b (m + n) ≡ further m (onward f b n)
further-on m (found x) b n = refl
further-on m absent true n = refl
further-on m absent false n = refl

module _ (p q : ℕ → Bool) (m : ℕ) (none : (x : ℕ) → x < m → p x ≡ false) where
  found-further : (n : ℕ) → ((x : ℕ) → x < n → p (m + x) ≡ q x) → first_below p (m + n) ≡ further m (first_below q n)
  unfolding first_below
  found-further zero h = rw (add-zero m) (found_none p m (λ y l e. true-false e (none y l)))
  found-further (suc n) h =
      rw (add-suc m n)
      (ap₂ (λ f b. onward f b (m + n)) (found-further n (λ x l. h x (omega arith))) (h n (omega arith)) ∙ further-on m (first_below q n) (q n) n)

  -- The test passes only from m on and below m + n.
  pub search-range : (n bound : ℕ) → m + n ≤ bound → ((x : ℕ) → x < n → p (m + x) ≡ q x) → ((x : ℕ) → m + n ≤ x → p x ≡ false) → first_below p bound ≡ further m (first_below q n)
  unfolding first_below
  search-range n zero h a b = let e : 0 ≡ m + n = omega arith in ap (first_below p) e ∙ found-further n a
  search-range n (suc bound) h a b =
      elim (dec_lt bound (m + n)) [
        | no k ↦ let l : m + n ≤ bound = omega arith in no_further (first_below p bound) (p bound) bound (b bound l) ∙ search-range n bound l a b
        | yes k ↦ let e : suc bound ≡ m + n = omega arith in ap (first_below p) e ∙ found-further n a
      ]
