-- A list of questions, asked in order: all passed, with a result, or the number and place of the first that failed.
use Rattle.std.specs.Prelude.{Bool, true, false, ℕ}

pub data Asked (A : Type 0) : Type 0 where
  passed : A → Asked A
  refused : (number place : ℕ) → Asked A

-- More questions after the first ones: f gets their result. A refusal ends the list.
infixl 20 ◌>>=◌
unfoldable pub ◌>>=◌ : {A B : Type 0} → Asked A → (A → Asked B) → Asked B
passed a >>= f = f a
refused q p >>= f = refused q p

-- The same if the result does not matter.
infixl 20 ◌>>◌
unfoldable pub ◌>>◌ : {A B : Type 0} → Asked A → Asked B → Asked B
passed a >> b = b
refused q p >> b = refused q p

-- One question: if it fails, this number and place.
unfoldable pub is : Bool → ℕ → ℕ → Asked (Unit {0})
is true q p = passed tt
is false q p = refused q p

-- What a buffer holds after a call: what the call makes of the result when all questions pass, else what it held before.
unfoldable pub after : {A B : Type 0} → Asked A → (A → B) → B → B
after (passed a) made before = made a
after (refused q p) made before = before

-- The number and place of the answer: 0 and 0 for done.
unfoldable pub asked_number : {A : Type 0} → Asked A → ℕ
asked_number (passed a) = 0
asked_number (refused q p) = q

unfoldable pub asked_place : {A : Type 0} → Asked A → ℕ
asked_place (passed a) = 0
asked_place (refused q p) = p

-- The outcome without the result.
unfoldable pub outcome : {A : Type 0} → Asked A → Asked (Unit {0})
outcome (passed a) = passed tt
outcome (refused q p) = refused q p
