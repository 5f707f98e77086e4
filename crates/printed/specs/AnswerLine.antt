-- The line that the programs print for an answer ("The program `enter`" of document 01).
use Rattle.std.specs.Prelude.{List, [], ◌∷◌, ◌++◌, ℕ, ◌<◌, take, drop}
use Rattle.answer.specs.Asked.{Asked, asked_number, asked_place}
use Rattle.decimal.specs.Digits.{digits, said}

-- The number in two digits, a blank, the place in five digits, a line feed.
unfoldable pub answer_line : (number place : ℕ) → List ℕ
answer_line number place = digits 2 number ++ (32 ∷ digits 5 place ++ (10 ∷ []))

-- The line for the outcome of questions.
abbrev pub asked_line : {A : Type 0} → Asked A → List ℕ
asked_line q = answer_line (asked_number q) (asked_place q)

-- Numbers and places that have no more digits. All answers of the programs are such: crate promises, `Lines`.
abbrev pub Fits : (number place : ℕ) → Type 0
Fits number place = (number < 100) × (place < 100000)

-- What a line says: the number before the blank, the place after it.
abbrev pub number_on : List ℕ → ℕ
number_on line = said 0 (take 2 line)

abbrev pub place_on : List ℕ → ℕ
place_on line = said 0 (take 5 (drop 3 line))

-- The line when the input ends early, with no sheet after it.
abbrev pub early_line : List ℕ
early_line = answer_line 99 0
