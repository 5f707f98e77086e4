-- "each is the exact number by the definitions": exactly m things have a property.
use Rattle.std.specs.Prelude.{◌≡◌, ◌⊎◌, List, [], ◌∷◌, ℕ, length}

unfoldable pub In : {A : Type 0} → A → List A → Type 0
In a [] = ⊥
In a (b ∷ l) = (b ≡ a) ⊎ In a l

-- Nothing occurs twice in a list.
unfoldable pub Once : {A : Type 0} → List A → Type 0
Once [] = Unit {0}
Once (a ∷ l) = (¬ In a l) × Once l

-- A list of m things, none twice, of exactly those that satisfy P.
pub record Exactly {A : Type 0} (P : A → Type 0) (m : ℕ) : Type 0 where
  pub list : List A
  pub many : length list ≡ m
  pub once : Once list
  pub only_those : (a : A) → In a list → P a
  pub all_those : (a : A) → P a → In a list
