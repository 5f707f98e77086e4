-- Numbers in decimal digits, as ASCII bytes: 48 is the digit 0.
use Rattle.std.specs.Prelude.{List, [], ◌∷◌, ◌++◌, ℕ, zero, suc, ◌+◌, ◌*◌, ◌-◌, ◌/◌, ◌%◌}

-- The last `width` digits of n.
unfoldable pub digits : (width n : ℕ) → List ℕ
digits zero n = []
digits (suc w) n = digits w (n / 10) ++ ((48 + n % 10) ∷ [])

-- The number that digits say when they follow those of n.
unfoldable pub said : ℕ → List ℕ → ℕ
said n [] = n
said n (d ∷ ds) = said (10 * n + (d - 48)) ds
