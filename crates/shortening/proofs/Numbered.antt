-- What holds for each law of the table holds for the law with a number; `made` is injective and never `unfit`.
use mathlib.Core.Path.{◌≡◌, refl, sym, subst}
use mathlib.Core.Bool.{Bool, true, false}
use mathlib.Core.List.{List, [], ◌∷◌}
use Prim.Native.Nat.{ℕ}
use lib.Dec.{eqb}
use borrow.Author.Tests.{eqb-true}
use Rattle.logic.specs.Lists.{All}
use Rattle.logic.specs.Syntax.{Sort}
use Rattle.shortening.specs.Laws.{Law, laws, Made, made, unfit, numbered}

abbrev OfMade : {A : Type 0} → (A → Type 0) → Made A → Type 0
OfMade P (made a) = P a
OfMade P unfit = Unit {0}

pub made-injective : {A : Type 0} (a b : A) → made a ≡ made b → a ≡ b
made-injective a b e = subst (OfMade (λ c. a ≡ c)) e refl

pub unfit-not-made : {A : Type 0} (a : A) → unfit ≡ made a → ⊥
unfit-not-made {A} a e = subst (OfMade {A = A} (λ c. ⊥)) e tt

infixr 5 ◌&◌
abbrev pub ◌&◌ : {A B : Type 0} → A → B → A × B
a & b = (a, b)

-- What holds for each law and its number holds for the law with a number.
pub by_number : {s : Sort} (P : ℕ → Law s → Type 0) → All (λ l. P l.number l) (laws s) → {n : ℕ} {l : Law s} → numbered n (laws s) ≡ made l → P n l
unfolding numbered
by_number {s} P each {n} e = subst (OfMade (P n)) e (among (laws s) each) where
  among : (ls : List (Law s)) → All (λ l. P l.number l) ls → OfMade (P n) (numbered n ls)
  among [] each = tt
  among (l ∷ ls) each = go (eqb n l.number) refl (among ls each.1) where
    go : (b : Bool) → eqb n l.number ≡ b → OfMade (P n) (numbered n ls) → OfMade (P n) (elim b [ true ↦ made l | false ↦ numbered n ls ])
    go true q r = subst (λ k. P k l) (sym (eqb-true n l.number q)) each.0
    go false q r = r
