-- The line of an answer: its parts, and what it says.
use mathlib.Core.Path.{◌≡◌, refl, sym, ◌∙◌, ap}
use mathlib.Core.List.{List, [], ◌∷◌, ◌++◌}
use Prim.Native.Nat.{ℕ}
use native.Mathlib.Omega.{arith}
use lib.ListN.{length, set, take, drop, replicate}
use Rattle.answer.specs.Asked.{Asked, asked_number, asked_place}
use Rattle.answer.proofs.Refusals.{Refuses, passes, refuses, number_by, place-by}
use Rattle.decimal.specs.Digits.{digits}
use Rattle.decimal.proofs.DigitLaws.{Left, said-digits}
use Rattle.printed.specs.AnswerLine.{answer_line, asked_line, early_line, number_on, place_on, Fits}

-- A line: the number is written over the first two of nine blanks, the place over the five after the third, then the line feed.
module _ (number place : ℕ) (ys : List ℕ) (first : ys ≡ digits 2 number) where
  place-width : length (take 5 (drop 3 (ys ++ replicate 7 32))) ≡ 5
  place-width = unfold digits in rw first

  pub line_made : (zs : List ℕ) → zs ≡ digits (length (take 5 (drop 3 (ys ++ replicate 7 32)))) place
      → set (take 3 (ys ++ replicate 7 32) ++ (zs ++ drop 5 (drop 3 (ys ++ replicate 7 32)))) 8 10 ≡ answer_line number place
  unfolding digits answer_line
  line_made zs second =
      let five : zs ≡ digits 5 place = second ∙ ap (λ (w : ℕ). digits w place) place-width in
      rw (five, first)

-- The line when the input ends early: `99 00000`.
early : early_line ≡ 57 ∷ 57 ∷ 32 ∷ 48 ∷ 48 ∷ 48 ∷ 48 ∷ 48 ∷ 10 ∷ []
early = unfold answer_line digits in refl

-- The largest place: `53 65535`.
largest : answer_line 53 65535 ≡ 53 ∷ 51 ∷ 32 ∷ 54 ∷ 53 ∷ 53 ∷ 51 ∷ 53 ∷ 10 ∷ []
largest = unfold answer_line digits in refl

-- A line gives its number and its place, where they have no more digits than it has.
module _ (number place : ℕ) (h : Fits number place) where
  pub number-said : number_on (answer_line number place) ≡ number
  number-said = unfold answer_line digits Left in said-digits 2 number (omega (arith, h.0))

  pub place-said : place_on (answer_line number place) ≡ place
  place-said = unfold answer_line digits Left in said-digits 5 place (omega (arith, h.1))

-- Answers that have no more digits: a line gives its answer.
module _ {A : Type 0} {x : Asked A} (r : Refuses 1 98 99999 x) where
  fits : Fits (asked_number x) (asked_place x)
  fits = (omega (arith, number_by r), omega (arith, place-by r))

  pub says-number : number_on (asked_line x) ≡ asked_number x
  says-number = number-said (asked_number x) (asked_place x) fits

  pub says-place : place_on (asked_line x) ≡ asked_place x
  says-place = place-said (asked_number x) (asked_place x) fits

-- Equal lines mean equal answers: done is 00 00000, and no refusal is. And none is the line of an input that ends early.
same_answer : {x y : Asked (Unit {0})} → Refuses 1 98 99999 x → Refuses 1 98 99999 y → asked_number x ≡ asked_number y → asked_place x ≡ asked_place y → x ≡ y
unfolding asked_number asked_place
same_answer passes passes e f = refl
same_answer passes (refuses q p i j k) e f = absurd (omega arith)
same_answer (refuses q p i j k) passes e f = absurd (omega arith)
same_answer (refuses q p i j k) (refuses _ _ a b c) e f = cc

pub lines-tell : {x y : Asked (Unit {0})} → Refuses 1 98 99999 x → Refuses 1 98 99999 y → asked_line x ≡ asked_line y → x ≡ y
lines-tell r s e = same_answer r s (sym (says-number r) ∙ ap number_on e ∙ says-number s) (sym (says-place r) ∙ ap place_on e ∙ says-place s)

pub not_early : {x : Asked (Unit {0})} → Refuses 1 98 99999 x → asked_line x ≡ early_line → ⊥
not_early {x} r e =
    let z : asked_number x ≡ 99 = sym (says-number r) ∙ ap number_on e ∙ number-said 99 0 (omega arith, omega arith) in
    omega (arith, number_by r)
