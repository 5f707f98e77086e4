-- Laws of a list of questions: what passes goes on, a refusal ends the list, and if all have passed, each has.
use mathlib.Core.Path.{◌≡◌, refl, sym}
use mathlib.Core.Bool.{Bool, true, false}
use mathlib.Core.Logic.{◌⊎◌, inl, inr}
use Prim.Native.Nat.{ℕ}
use native.Mathlib.Omega.{arith}
use Rattle.answer.specs.Asked.{Asked, passed, refused, ◌>>=◌, ◌>>◌, is, after, outcome}

-- Questions that pass have one result, and a refusal is not a pass.
pub passed-same : {A : Type 0} {a b : A} → passed a ≡ passed b → a ≡ b
passed-same e = cc

pub refused-not-passed : {A P : Type 0} {q p : ℕ} {a : A} → refused q p ≡ passed a → P
refused-not-passed e = let z : ◌≡◌ {A = ℕ} 0 1 = cc in absurd (omega arith)

-- One question.
module _ {b : Bool} (q p : ℕ) where
  pub is-so : b ≡ true → is b q p ≡ passed tt
  is-so e = unfold is in rw e

  pub is-not : b ≡ false → is b q p ≡ refused q p
  is-not e = unfold is in rw e

  pub so-then : {A : Type 0} (y : Asked A) → b ≡ true → (is b q p >> y) ≡ y
  so-then y e = unfold is ◌>>◌ in rw e

  pub not-then : {A : Type 0} (y : Asked A) → b ≡ false → (is b q p >> y) ≡ refused q p
  not-then y e = unfold is ◌>>◌ in rw e

pub is-yes : (b : Bool) (q p : ℕ) → is b q p ≡ passed tt → b ≡ true
unfolding is
is-yes true q p e = refl
is-yes false q p e = refused-not-passed e

pub is-then : {A : Type 0} (b : Bool) (q p : ℕ) (y : Asked A) {a : A} → (is b q p >> y) ≡ passed a → (b ≡ true) × (y ≡ passed a)
unfolding is ◌>>◌
is-then true q p y e = (refl, e)
is-then false q p y e = refused-not-passed e

-- What passes goes on.
module _ {A B : Type 0} {x : Asked A} {a : A} (e : x ≡ passed a) where
  pub bind-on : (f : A → Asked B) → (x >>= f) ≡ f a
  bind-on f = unfold ◌>>=◌ in rw e

  pub then-on : (y : Asked B) → (x >> y) ≡ y
  then-on y = unfold ◌>>◌ in rw e

  pub after_on : (made : A → B) (before : B) → after x made before ≡ made a
  after_on made before = unfold after in rw e

-- A refusal ends the list.
module _ {A B : Type 0} {x : Asked A} {q p : ℕ} (e : x ≡ refused q p) where
  pub bind-ends : (f : A → Asked B) → (x >>= f) ≡ refused q p
  bind-ends f = unfold ◌>>=◌ in rw e

  pub then-ends : (y : Asked B) → (x >> y) ≡ refused q p
  then-ends y = unfold ◌>>◌ in rw e

  pub after-ends : (made : A → B) (before : B) → after x made before ≡ before
  after-ends made before = unfold after in rw e

pub outcome-ends : {A : Type 0} {x : Asked A} {q p : ℕ} → x ≡ refused q p → outcome x ≡ refused q p
outcome-ends e = unfold outcome in rw e

-- If all have passed, each has; if one has not, it is the first or one of the others.
module _ {A B : Type 0} where
  pub bind-passed : (x : Asked A) (f : A → Asked B) (b : B) → (x >>= f) ≡ passed b → (a : A) × (x ≡ passed a) × (f a ≡ passed b)
  unfolding ◌>>=◌
  bind-passed (passed a) f b e = (a, refl, e)
  bind-passed (refused n p) f b e = refused-not-passed e

  pub then-passed : (x : Asked A) (y : Asked B) (b : B) → (x >> y) ≡ passed b → (a : A) × (x ≡ passed a) × (y ≡ passed b)
  unfolding ◌>>◌
  then-passed (passed a) y b e = (a, refl, e)
  then-passed (refused n p) y b e = refused-not-passed e

  pub bind-refused : (x : Asked A) (f : A → Asked B) {q p : ℕ} → (x >>= f) ≡ refused q p → (x ≡ refused q p) ⊎ ((a : A) × (x ≡ passed a) × (f a ≡ refused q p))
  unfolding ◌>>=◌
  bind-refused (passed a) f e = inr (a, refl, e)
  bind-refused (refused n p) f e = inl cc

  pub then-refused : (x : Asked A) (b : B) {q p : ℕ} → (x >> passed b) ≡ refused q p → x ≡ refused q p
  unfolding ◌>>◌
  then-refused (passed a) b e = refused-not-passed (sym e)
  then-refused (refused n m) b e = cc

pub outcome-passed : {A : Type 0} (x : Asked A) → outcome x ≡ passed tt → (a : A) × (x ≡ passed a)
unfolding outcome
outcome-passed (passed a) e = (a, refl)
outcome-passed (refused n p) e = refused-not-passed e

-- The outcome does not depend on the result.
pub outcome-bind : {A B : Type 0} (x : Asked A) (f : A → B) → outcome (x >>= (λ a. passed (f a))) ≡ outcome x
unfolding outcome ◌>>=◌
outcome-bind (passed a) f = refl
outcome-bind (refused q p) f = refl

-- Grouping does not change the order of questions.
module _ {A B C : Type 0} where
  pub bind-bind : (x : Asked A) (f : A → Asked B) (k : B → Asked C) → ((x >>= f) >>= k) ≡ (x >>= (λ a. f a >>= k))
  unfolding ◌>>=◌
  bind-bind (passed a) f k = refl
  bind-bind (refused q p) f k = refl

  pub then-bind : (x : Asked A) (y : Asked B) (k : B → Asked C) → ((x >> y) >>= k) ≡ (x >> (y >>= k))
  unfolding ◌>>=◌ ◌>>◌
  then-bind (passed a) y k = refl
  then-bind (refused q p) y k = refl
