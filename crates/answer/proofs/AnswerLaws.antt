-- The number and place of an answer are those of the questions that it answers.
use mathlib.Core.Path.{◌≡◌, refl}
use Prim.Native.Nat.{ℕ}
use native.Mathlib.Omega.{arith}
use Rattle.answer.specs.declared.Answer.{Answer}
use Rattle.answer.specs.declared.Answer.TheVariants.{Done, Refused}
use Rattle.answer.specs.Asked.{Asked, passed, refused, asked_number, asked_place, outcome}
use Rattle.answer.specs.Answers.{answer_number, answer_place, asked}

pub numbers_of : (a : Answer) {A : Type 0} (q : Asked A) → asked a ≡ outcome q → (answer_number a ≡ asked_number q) × (answer_place a ≡ asked_place q)
unfolding asked_number asked_place outcome
numbers_of Done (passed x) e = (refl, refl)
numbers_of Done (refused n p) e = ((cc), (cc))
numbers_of (Refused r) (passed x) e = ((cc), (cc))
numbers_of (Refused r) (refused n p) e = ((cc), (cc))

-- Questions without a result.
pub unit-numbers : (a : Answer) (q : Asked (Unit {0})) → asked a ≡ q → (answer_number a ≡ asked_number q) × (answer_place a ≡ asked_place q)
unfolding outcome
unit-numbers a (passed u) e = numbers_of a (passed u) e
unit-numbers a (refused n p) e = numbers_of a (refused n p) e

-- The result of questions that passed; and questions that did not.
pub record Learned {A : Type 0} (q : Asked A) : Type 0 where
  pub what : A
  pub is : q ≡ passed what

pub learned : {A : Type 0} (q : Asked A) → passed tt ≡ outcome q → Learned q
unfolding outcome
learned (passed a) e = record { what = a; is = refl }
learned (refused n p) e = let z : ◌≡◌ {A = ℕ} 0 1 = cc in absurd (omega arith)

pub not-learned : {A : Type 0} (q : Asked A) (n p : ℕ) → refused n p ≡ outcome q → q ≡ refused n p
unfolding outcome
not-learned (passed a) n p e = let z : ◌≡◌ {A = ℕ} 0 1 = cc in absurd (omega arith)
not-learned (refused m o) n p e = cc
