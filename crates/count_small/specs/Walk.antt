-- For the inner function that looks for names: a text read byte by byte, as codes and the numbers after them.
use Rattle.std.specs.Prelude.{Bool, true, false, not, ◌&&◌, cond, List, [], ◌∷◌, ℕ, ◌+◌, ◌%◌, eqb, ltb}
use Rattle.ends.specs.Shapes.{shape_of}
use Rattle.count_small.specs.declared.names.Due.{Due}
use Rattle.count_small.specs.declared.names.Due.TheVariants.{Code, Number, Two, Name}

-- How a code goes on, in the form of `shapes`; of an edit's codes, 31 to 34 have a name and the others have no number.
unfoldable pub code_shape : ℕ → ℕ
code_shape c = cond (ltb c 40) (shape_of c) (cond (ltb c 0x31) 1 (cond (ltb c 0x35) 18 1))

-- What is due at a byte: a code (0), a number before a code (1), two of them (2), or the number of a name (3).
abbrev pub number : Due → ℕ
number Code = 0
number Number = 1
number Two = 2
number Name = 3

-- after a code of that shape
abbrev pub due_behind : ℕ → ℕ
due_behind s = cond (ltb s 16) ((s + 3) % 4) 3

unfoldable pub due_next_def : (due byte : ℕ) → ℕ
due_next_def due byte = cond (eqb due 0) (due_behind (code_shape byte)) (cond (eqb due 2) 1 0)

-- The number of a name is not 0.
abbrev pub other_named_def : (due byte : ℕ) → Bool
other_named_def due byte = eqb due 3 && not (eqb byte 0)

-- No other name stands in a text.
unfoldable pub walk : (due : ℕ) → List ℕ → Bool
walk due [] = true
walk due (x ∷ t) = cond (other_named_def due x) false (walk (due_next_def due x) t)
