-- The numbers and places that questions can give: the number of any refusal is between two numbers, and its place is at most a third.
use mathlib.Core.Path.{◌≡◌, refl}
use mathlib.Core.Bool.{Bool, true, false}
use Prim.Native.Nat.{ℕ, ◌≤◌}
use native.Mathlib.Omega.{arith}
use Rattle.answer.specs.Asked.{Asked, passed, refused, ◌>>=◌, ◌>>◌, is, asked_number, asked_place, outcome}

pub data Refuses (from to most : ℕ) {A : Type 0} : Asked A → Type 0 where
  passes : {a : A} → Refuses from to most (passed a)
  refuses : (q p : ℕ) → from ≤ q → q ≤ to → p ≤ most → Refuses from to most (refused q p)

-- One question, alone and before others.
module _ {from to most : ℕ} where
  pub is-refuses : (b : Bool) {q p : ℕ} → from ≤ q → q ≤ to → p ≤ most → Refuses from to most (is b q p)
  unfolding is
  is-refuses true i j k = passes
  is-refuses false {q} {p} i j k = refuses q p i j k

  pub asked-refuses : (b : Bool) {A : Type 0} {q p : ℕ} {y : Asked A} → from ≤ q → q ≤ to → p ≤ most → (b ≡ true → Refuses from to most y) → Refuses from to most (is b q p >> y)
  unfolding is ◌>>◌
  asked-refuses true i j k h = h refl
  asked-refuses false {q = q} {p = p} i j k h = refuses q p i j k

module _ {from to most : ℕ} {A : Type 0} where
  -- The number of the answer.
  pub number_by : {x : Asked A} → Refuses from to most x → asked_number x ≤ to
  unfolding asked_number
  number_by passes = omega arith
  number_by (refuses q p i j k) = j

  pub place-by : {x : Asked A} → Refuses from to most x → asked_place x ≤ most
  unfolding asked_place
  place-by passes = omega arith
  place-by (refuses q p i j k) = k

  pub outcome-refuses : {x : Asked A} → Refuses from to most x → Refuses from to most (outcome x)
  unfolding outcome
  outcome-refuses passes = passes
  outcome-refuses (refuses q p i j k) = refuses q p i j k

  pub wider : {x : Asked A} {low high far : ℕ} → low ≤ from → to ≤ high → most ≤ far → Refuses from to most x → Refuses low high far x
  wider a b c passes = passes
  wider a b c (refuses q p i j k) = refuses q p (omega arith) (omega arith) (omega arith)

-- Questions after others.
module _ {from to most : ℕ} {A B : Type 0} where
  pub then-refuses : {x : Asked A} {y : Asked B} → Refuses from to most x → Refuses from to most y → Refuses from to most (x >> y)
  unfolding ◌>>◌
  then-refuses passes k = k
  then-refuses (refuses q p i j l) k = refuses q p i j l

  pub bind-refuses : {x : Asked A} {f : A → Asked B} → Refuses from to most x → ((a : A) → x ≡ passed a → Refuses from to most (f a)) → Refuses from to most (x >>= f)
  unfolding ◌>>=◌
  bind-refuses (passes {a}) k = k a refl
  bind-refuses (refuses q p i j l) k = refuses q p i j l
