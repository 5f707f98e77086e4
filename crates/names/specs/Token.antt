-- A token of a text in words: its bytes. Here words and marks are quoted texts of ASCII characters.
use Rattle.std.specs.Prelude.{Bool, true, false, ◌&&◌, cond, List, [], ◌∷◌, ℕ, zero, suc, eqb}
use Prim.Native.Char.{code}
use Prim.Native.String.{String}
use Prim.Native.String as quoted

abbrev pub Token : Type 0
Token = List ℕ

unfoldable pub ascii : String → Token
ascii quoted.[] = []
ascii (quoted.◌∷◌ c s) = code c ∷ ascii s

unfoldable pub same : Token → Token → Bool
same [] [] = true
same [] (y ∷ ys) = false
same (x ∷ xs) [] = false
same (x ∷ xs) (y ∷ ys) = eqb x y && same xs ys

-- What was looked for, or that there is none.
pub data Found (A : Type 0) : Type 0 where
  found : A → Found A
  absent : Found A

-- The first number below a bound that passes a test.
unfoldable pub first_below : (ℕ → Bool) → (bound : ℕ) → Found ℕ
first_below p zero = absent
first_below p (suc n) = elim (first_below p n) [ found x ↦ found x | absent ↦ cond (p n) (found n) absent ]
