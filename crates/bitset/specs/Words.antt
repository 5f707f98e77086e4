-- Sets of nodes as words of 64 bits: bit i of the word is node i. Words are stored in bytes, the lowest first.
use Rattle.std.specs.Prelude.{Bool, true, false, List, [], ◌∷◌, ◌++◌, ℕ, zero, suc, ◌+◌, ◌*◌, ◌/◌, ◌%◌, ◌^◌, ◌<◌, eqb, take, drop, get_or}
use Rattle.logic.specs.Graph.{Nodes}

abbrev pub digit : Bool → ℕ
digit false = 0
digit true = 1

-- The word that holds the members of v below n.
unfoldable pub set_of : ℕ → Nodes → ℕ
set_of zero v = 0
set_of (suc n) v = digit (v n) * 2 ^ n + set_of n v

-- Whether the word x contains i: its bit i.
unfoldable pub member : ℕ → Nodes
member x i = eqb (x / 2 ^ i % 2) 1

-- The word whose bit i is f of bit i of x and bit i of y.
abbrev pub combined : (Bool → Bool → Bool) → ℕ → ℕ → ℕ
combined f x y = set_of 64 (λ i. f (member x i) (member y i))

-- The contents of a buffer of bytes: each element is below 256.
abbrev pub Bytes : List ℕ → Type 0
Bytes t = (p : ℕ) → get_or t p 0 < 256

-- The k low bytes of x, the lowest first; the number that bytes store.
unfoldable pub bytes : ℕ → ℕ → List ℕ
bytes zero x = []
bytes (suc k) x = x % 256 ∷ bytes k (x / 256)

unfoldable pub number_of : List ℕ → ℕ
number_of [] = 0
number_of (b ∷ bs) = b + 256 * number_of bs

-- The word in the 8 bytes from `at` on; the list with x in those bytes.
unfoldable pub word_at : List ℕ → ℕ → ℕ
word_at l at = number_of (take 8 (drop at l))

unfoldable pub put_word_def : List ℕ → ℕ → ℕ → List ℕ
put_word_def l at x = take at l ++ bytes 8 x ++ drop (at + 8) l
