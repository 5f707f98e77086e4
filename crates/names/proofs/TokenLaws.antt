-- Comparing tokens; the first number that passes a test.
use mathlib.Core.Path.{◌≡◌, refl, sym, ◌∙◌, ap, ap₂, subst}
use mathlib.Core.Bool.{Bool, true, false, ◌&&◌, cond, and-eq-true_iff}
use mathlib.Core.List.{[], ◌∷◌}
use Prim.Native.Nat.{ℕ, zero, suc, ◌<◌}
use native.Mathlib.Omega.{arith}
use native.Mathlib.Decide.{dec_lt}
use lib.Dec.{eqb}
use borrow.Author.Tests.{eqb-true, eq-eqb}
use Rattle.std.specs.Prelude.{bytes_eq}
use Rattle.logic.proofs.Bools.{true-false}
use Rattle.names.specs.Token.{Token, same, Found, found, absent, first_below}

pub same_true : (x y : Token) → same x y ≡ true → x ≡ y
unfolding same
same_true [] [] h = refl
same_true [] (b ∷ y) h = true-false h refl
same_true (a ∷ x) [] h = true-false h refl
same_true (a ∷ x) (b ∷ y) h = let q = (and-eq-true_iff (eqb a b) (same x y)).0 h in ap₂ ◌∷◌ (eqb-true a b q.0) (same_true x y q.1)

pub same_refl : (x : Token) → same x x ≡ true
unfolding same
same_refl [] = refl
same_refl (a ∷ x) = (and-eq-true_iff (eqb a a) (same x x)).1 (eq-eqb a a refl, same_refl x)

-- What `==` says of two slices of bytes.
pub bytes-same : (x y : Token) → bytes_eq x y ≡ same x y
unfolding same
bytes-same [] [] = refl
bytes-same [] (b ∷ y) = refl
bytes-same (a ∷ x) [] = refl
bytes-same (a ∷ x) (b ∷ y) = ap (eqb a b &&◌) (bytes-same x y)

-- What is found is below the bound and passes the test.
pub record Hit (p : ℕ → Bool) (n x : ℕ) : Type 0 where
  pub below : x < n
  pub yes_of : p x ≡ true

abbrev Hits : (ℕ → Bool) → ℕ → Found ℕ → Type 0
Hits p n (found x) = Hit p n x
Hits p n absent = (y : ℕ) → y < n → p y ≡ false

hits : (p : ℕ → Bool) (n : ℕ) → Hits p n (first_below p n)
unfolding first_below
hits p zero = λ y h. absurd (omega arith)
hits p (suc n) = go (first_below p n) (hits p n)
  where
    at : (b : Bool) → p n ≡ b → ((y : ℕ) → y < n → p y ≡ false) → Hits p (suc n) (cond b (found n) absent)
    at true e h = record { below = omega arith; yes_of = e }
    at false e h = λ y l. elim (dec_lt y n) [ yes k ↦ h y k | no k ↦ let q : n ≡ y = omega arith in sym (ap p q) ∙ e ]

    go : (f : Found ℕ) → Hits p n f → Hits p (suc n) (elim f as (λ z. Found ℕ) [ found x ↦ found x | absent ↦ cond (p n) (found n) absent ])
    go (found x) h = record { below = let b = h.below in omega arith; yes_of = h.yes_of }
    go absent h = at (p n) refl h

pub found-hit : (p : ℕ → Bool) (n x : ℕ) → first_below p n ≡ found x → Hit p n x
found-hit p n x e = subst (Hits p n) e (hits p n)

pub none-hit : (p : ℕ → Bool) (n : ℕ) → first_below p n ≡ absent → (y : ℕ) → y < n → p y ≡ false
none-hit p n e = subst (Hits p n) e (hits p n)

-- If only one number passes the test, it is found; if none does, none is found.
pub found-only : (p : ℕ → Bool) (n x : ℕ) → x < n → p x ≡ true → ((y : ℕ) → y < n → p y ≡ true → y ≡ x) → first_below p n ≡ found x
found-only p n x h e u = go (first_below p n) (hits p n)
  where
    go : (f : Found ℕ) → Hits p n f → f ≡ found x
    go (found y) i = ap found (u y i.below i.yes_of)
    go absent i = true-false e (i x h)

pub found_none : (p : ℕ → Bool) (n : ℕ) → ((y : ℕ) → y < n → p y ≡ true → ⊥) → first_below p n ≡ absent
found_none p n u = go (first_below p n) (hits p n)
  where
    go : (f : Found ℕ) → Hits p n f → f ≡ absent
    go (found y) i = absurd (u y i.below i.yes_of)
    go absent i = refl
