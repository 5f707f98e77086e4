-- The text on which the code makes steps: a rule's bytes with each number raised by 128, so that no number is taken for a code.
-- Also what the code finds in such a text.
use Rattle.std.specs.Prelude.{Bool, ◌&&◌, cond, List, [], ◌∷◌, ◌++◌, map, ℕ, zero, suc, ◌+◌, ◌-◌, ◌/◌, ◌%◌, leb, eqb, length, get_or, set, take, drop, Option, Some, None}
use Rattle.logic.specs.Graph.{all_below}
use Rattle.ends.specs.Shapes.{shape_of}
use Rattle.shortening.specs.Laws.{Made, made, unfit}

-- What the code answers with where these definitions give a place or a length, which is never 0, or 0 for none.
abbrev pub found_at : ℕ → Option ℕ
found_at zero = None
found_at (suc n) = Some (suc n)

-- How many numbers and how many operands follow a code.
abbrev pub numbers_of : ℕ → ℕ
numbers_of c = (shape_of c % 4 + 3) % 4

abbrev pub operands_of : ℕ → ℕ
operands_of c = shape_of c / 4 % 4

-- How many numbers are due after a byte, if n are due at it; what the byte becomes: a number is raised.
unfoldable pub next_numbers_def : (n x : ℕ) → ℕ
next_numbers_def zero c = numbers_of c
next_numbers_def (suc n) x = n

unfoldable pub raised_byte_def : (n x : ℕ) → ℕ
raised_byte_def zero c = c
raised_byte_def (suc n) x = x % 128 + 128

-- A text that begins with n numbers, with all its numbers raised; a text with its numbers lowered.
unfoldable pub raised : (n : ℕ) → List ℕ → List ℕ
raised n [] = []
raised n (x ∷ t) = raised_byte_def n x ∷ raised (next_numbers_def n x) t

abbrev pub lowered : List ℕ → List ℕ
lowered t = map (λ x. x % 128) t

-- The expressions still wanted after a byte: a code is one of them and adds its operands.
unfoldable pub next_wanted_def : (n w x : ℕ) → ℕ
next_wanted_def zero w c = w - 1 + operands_of c
next_wanted_def (suc n) w x = w

-- How many bytes a text has up to the end of n numbers and then w expressions.
unfoldable pub width : (n w : ℕ) → List ℕ → ℕ
width n w [] = 0
width n w (x ∷ t) = cond (eqb (n + w) 0) 0 (suc (width (next_numbers_def n x) (next_wanted_def n w x) t))

-- The place after the expression at `at`.
abbrev pub behind_at : List ℕ → ℕ → ℕ
behind_at t at = at + width 0 1 (drop at t)

-- Whether n bytes are the same at two places.
abbrev pub alike : List ℕ → (a b n : ℕ) → Bool
alike t a b n = all_below n (λ i. eqb (get_or t (a + i) 0) (get_or t (b + i) 0))

-- Where the expression at `at` occurs again, `gap` bytes after its end; 0 if it does not.
unfoldable pub again_at : List ℕ → (at gap : ℕ) → ℕ
again_at t at gap =
    cond (leb (behind_at t at + gap + (behind_at t at - at)) (length t) && alike t at (behind_at t at + gap) (behind_at t at - at)) (behind_at t at + gap) 0

-- The first byte of each law's left side; the second if it is fixed, else 0.
unfoldable pub first_bytes_def : List ℕ
first_bytes_def = 0 ∷ 0x05 ∷ 0x06 ∷ 0x07 ∷ 0x06 ∷ 0x07 ∷ 0x06 ∷ 0x27 ∷ 0x26 ∷ []

unfoldable pub second_bytes_def : List ℕ
second_bytes_def = 0 ∷ 0x05 ∷ 0 ∷ 0 ∷ 0 ∷ 0x01 ∷ 0x01 ∷ 0x27 ∷ 0 ∷ []

-- One less than the place where 06 E 05 E at `at` ends; 0 if the text does not have it there.
unfoldable pub contrary_at : List ℕ → ℕ → ℕ
contrary_at t at =
    cond (eqb (again_at t (at + 1) 1) 0) 0
    (cond (eqb (get_or t (again_at t (at + 1) 1 - 1) 0) 0x05) (again_at t (at + 1) 1 + (again_at t (at + 1) 1 - (at + 2)) - 1) 0)

-- Where the right side of a law begins, if the law's first bytes are at `at`: the text after the step is the text before `at`, then the text from
-- here on. For laws 4 and 5 it is the last byte of the left side, which becomes 02 or 01. 0 if the left side is not there.
unfoldable pub right_of_def : List ℕ → (at law : ℕ) → ℕ
right_of_def t at law =
    cond (eqb law 4) (contrary_at t at)
    (cond (eqb law 5) (behind_at t (at + 2) - 1)
    (cond (eqb (get_or second_bytes_def law 0) 0) (again_at t (at + 1) 0) (at + 2)))

-- The same, with the first bytes checked.
unfoldable pub right_at : List ℕ → (at law : ℕ) → ℕ
right_at t at law =
    cond (leb (at + 3) (length t) && leb law 8 && eqb (get_or t at 0) (get_or first_bytes_def law 0))
    (cond (eqb (get_or second_bytes_def law 0) 0) (right_of_def t at law) (cond (eqb (get_or t (at + 1) 0) (get_or second_bytes_def law 0)) (right_of_def t at law) 0))
    0

-- The text with the byte that law 4 or 5 puts at the start of its right side.
unfoldable pub with_byte : List ℕ → (from law : ℕ) → List ℕ
with_byte t from law = cond (eqb law 4) (set t from 0x02) (cond (eqb law 5) (set t from 0x01) t)

-- A text with the bytes from `at` up to `from` cut out and those after them moved down; the bytes left over at its end stay as they were.
unfoldable pub moved_down : List ℕ → (at from : ℕ) → List ℕ
moved_down t at from = take at t ++ drop from t ++ drop (at + (length t - from)) t

-- A step on such a text.
unfoldable pub step_on : List ℕ → (at law : ℕ) → Made (List ℕ)
step_on t at law = cond (eqb (right_at t at law) 0) unfit (made (take at t ++ drop (right_at t at law) (with_byte t (right_at t at law) law)))

-- The text's length after the step, 0 if the step does not fit; the bytes that the step leaves, those after the text included.
unfoldable pub step_length : List ℕ → (at law : ℕ) → ℕ
step_length t at law = cond (eqb (right_at t at law) 0) 0 (length t - (right_at t at law - at))

unfoldable pub step_leaves : List ℕ → (at law : ℕ) → List ℕ
step_leaves t at law = cond (eqb (right_at t at law) 0) t (moved_down (with_byte t (right_at t at law) law) at (right_at t at law))
