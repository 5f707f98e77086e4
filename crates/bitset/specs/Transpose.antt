-- Transposing a matrix of 64 words of 64 bits: rows become columns.
use Rattle.std.specs.Prelude.{◌≡◌, true, not, ◌&&◌, cond, List, ℕ, ◌+◌, ◌-◌, ◌/◌, ◌%◌, ◌<◌, ◌≤◌, eqb, leb, get_or}
use Rattle.logic.specs.Graph.{Nodes}
use Rattle.bitset.specs.Words.{set_of, member}

-- Row i of r is the set of those j for which row j of a contains i.
pub record Transposed (a r : List ℕ) : Type 0 where
  pub rows : (i : ℕ) → i < 64 → get_or r i 0 ≡ set_of 64 (λ j. member (get_or a j 0) i)

-- The rest is inner. Six exchanges of blocks transpose the matrix; these definitions say what each of them does.

-- Of runs of s numbers each, whether i is in the first, third, fifth and so on.
unfoldable pub low_half : ℕ → Nodes
low_half s i = eqb (i / s % 2) 0

-- Where the bit at row i and column j comes from when, of each four blocks of s rows and s columns, the second and the third change places.
unfoldable pub from_row : ℕ → ℕ → ℕ → ℕ
from_row s i j = cond (low_half s i) (cond (low_half s j) i (i + s)) (cond (low_half s j) (i - s) i)

unfoldable pub from_column : ℕ → ℕ → ℕ → ℕ
from_column s i j = cond (low_half s i) (cond (low_half s j) j (j - s)) (cond (low_half s j) (j + s) j)

-- Blocks of s fit evenly into 64, and m is the mask of the low halves.
pub record Blocks (s m : ℕ) : Type 0 where
  pub some : 0 < s
  pub few : s < 64
  pub halves : (j : ℕ) → j < 64 → (leb s j && low_half s (j - s)) ≡ not (low_half s j)
  pub room : (j : ℕ) → j < 64 → low_half s j ≡ true → j + s < 64
  pub mask : m ≡ set_of 64 (low_half s)

-- The s rows from b on are in a low half.
pub record LowFrom (s b : ℕ) : Type 0 where
  pub low : (i : ℕ) → b ≤ i → i < b + s → i < 64 → low_half s i ≡ true

-- Row i after the exchange; a holds the rows before it.
abbrev pub exchanged_row : ℕ → List ℕ → ℕ → ℕ
exchanged_row s a i = set_of 64 (λ j. member (get_or a (from_row s i j) 0) (from_column s i j))

-- The s rows from b on and the next s rows have exchanged blocks; every other row of r is that of a.
pub record MovedFrom (b s : ℕ) (a r : List ℕ) : Type 0 where
  pub low : (i : ℕ) → b ≤ i → i < b + s → get_or r i 0 ≡ exchanged_row s a i
  pub high : (i : ℕ) → b ≤ i → i < b + s → get_or r (i + s) 0 ≡ exchanged_row s a (i + s)
  pub before : (i : ℕ) → i < b → get_or r i 0 ≡ get_or a i 0
  pub behind : (i : ℕ) → b + s + s ≤ i → get_or r i 0 ≡ get_or a i 0

-- The bit at row i and column j of r comes from row f i j and column g i j of a.
pub record Moved (a r : List ℕ) (f g : ℕ → ℕ → ℕ) : Type 0 where
  pub rows : (i : ℕ) → i < 64 → get_or r i 0 ≡ set_of 64 (λ j. member (get_or a (f i j) 0) (g i j))
