-- The 8 bytes of a word as lanes of 16 bits, which the code adds as whole words.
use Rattle.std.specs.Prelude.{List, [], ◌∷◌, ℕ, suc, ◌+◌, ◌*◌, ◌/◌, ◌%◌, length, get_or}

-- Four lanes as one number.
unfoldable pub pack : ℕ → ℕ → ℕ → ℕ → ℕ
pack a b c d = a + b * 0x10000 + c * 0x100000000 + d * 0x1000000000000

-- The bytes at odd places of the word, a lane each; the sums of each two neighbours, a lane for each two.
unfoldable pub odds_at : List ℕ → ℕ → ℕ
odds_at l at = pack (get_or l (at + 1) 0) (get_or l (at + 3) 0) (get_or l (at + 5) 0) (get_or l (at + 7) 0)

unfoldable pub pairs_at : List ℕ → ℕ → ℕ
pairs_at l at =
    pack (get_or l at 0 + get_or l (at + 1) 0) (get_or l (at + 2) 0 + get_or l (at + 3) 0)
    (get_or l (at + 4) 0 + get_or l (at + 5) 0) (get_or l (at + 6) 0 + get_or l (at + 7) 0)

-- Over four words, 64 bytes apart: the sum of f; the sum of their pair lanes, each counted as often as words of the four follow it.
abbrev pub four_at : (List ℕ → ℕ → ℕ) → List ℕ → ℕ → ℕ
four_at f l at = f l at + f l (at + 64) + f l (at + 128) + f l (at + 192)

abbrev pub before_at : List ℕ → ℕ → ℕ
before_at l at = 3 * pairs_at l at + 2 * pairs_at l (at + 64) + pairs_at l (at + 128)

-- The sum of a word's lanes; the sum of the bytes, each counted as often as its place in its word says.
abbrev pub lane_sum_def : ℕ → ℕ
lane_sum_def x = x % 0x10000 + x / 0x10000 % 0x10000 + x / 0x100000000 % 0x10000 + x / 0x1000000000000

abbrev pub lane_places : ℕ → ℕ → ℕ
lane_places pairs odds = lane_sum_def odds + 2 * (pairs / 0x10000 % 0x10000 + 2 * (pairs / 0x100000000 % 0x10000) + 3 * (pairs / 0x1000000000000))

-- The plain total of bytes; the total of the plain totals after each byte, in which byte p of n counts n - p times.
unfoldable pub total : List ℕ → ℕ
total [] = 0
total (b ∷ l) = b + total l

unfoldable pub weighed : List ℕ → ℕ
weighed [] = 0
weighed (b ∷ l) = suc (length l) * b + weighed l
