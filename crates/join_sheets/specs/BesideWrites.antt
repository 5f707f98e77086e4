-- What the code writes into a block: the words of a second block, raised by n and joined to those of the first.
use Rattle.std.specs.Prelude.{◌&&◌, ◌||◌, List, ℕ, zero, suc, ◌+◌, ◌-◌, ◌*◌, leb}
use Rattle.bitset.specs.Words.{set_of, member, combined, word_at, put_word_def}

-- The word y with its numbers raised by n; the same joined to the word x.
abbrev pub raised : (n y : ℕ) → ℕ
raised n y = set_of 64 (λ j. leb n j && member y (j - n))

abbrev pub beside : (n x y : ℕ) → ℕ
beside n x y = combined ◌||◌ x (raised n y)

-- The block with the first m words of `other`, raised by n, joined to its words from word `at` on.
unfoldable pub put_beside_def : (at n : ℕ) (other : List ℕ) (m : ℕ) (block : List ℕ) → List ℕ
put_beside_def at n other zero block = block
put_beside_def at n other (suc i) block = put_word_def (put_beside_def at n other i block) (16 + 8 * (at + i)) (beside n (word_at block (16 + 8 * (at + i))) (word_at other (16 + 8 * i)))
