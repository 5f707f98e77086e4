-- Question 4 as the code asks it, with bytes that must be zero and words checked against masks. `by-masks` of proofs/ZeroLaws says that it is `zero_right_def`.
use Rattle.std.specs.Prelude.{◌≡◌, Bool, true, false, not, ◌&&◌, cond, List, ℕ, ◌+◌, ◌*◌, ◌≤◌, ◌<◌, eqb, ltb, get_or}
use Rattle.logic.specs.Graph.{Nodes, all_below}
use Rattle.logic.specs.Limits.{label_count, max_nodes}
use Rattle.bitset.specs.Words.{set_of, member, combined, word_at}
use Rattle.seal.specs.Seal.{Form, modulo257, seal_right_def}
use Rattle.seal.specs.declared.Modulo.{Modulo}
use Rattle.seal.specs.declared.Modulo.TheVariants.{M257, M255}
use Rattle.sheet.specs.Sheet.{padding, SheetForm, line_count, used_in}

-- The code checks all whole words of a body, the first 61 from byte 16 on; less than a word of the body is left.
abbrev pub word_count : ℕ
word_count = 61

-- Whether the m bytes from `at` on are zero.
unfoldable pub zeros_at : List ℕ → ℕ → ℕ → Bool
zeros_at k at m = all_below m (λ j. eqb (get_or k (at + j) 0) 0)

-- Whether word j of a block has only members of `mask`.
unfoldable pub within : List ℕ → ℕ → ℕ → Bool
within k mask j = eqb (combined (λ a b. a && not b) (word_at k (16 + 8 * j)) mask) 0

-- Whether bytes 3 to 15 are zero, word j has only members of mask j, and the bytes after the words are zero.
unfoldable pub zero_but : Form → (ℕ → ℕ) → List ℕ → Bool
zero_but φ mask k = zeros_at k 3 13 && (all_below word_count (λ j. within k (mask j) j) && zeros_at k (16 + 8 * word_count) (padding φ word_count))

-- Whether block b is an arrow block with its head, no arrows and right check bytes, which settles 2 to 4. Never so for block 0 or a card.
unfoldable pub blank_in : Modulo → ℕ → List ℕ → Bool
blank_in M257 b k = not (eqb b 0) && (eqb (word_at k 0) (2 + 0x100 * b) && (seal_right_def modulo257 k && zero_but modulo257 (λ j. 0) k))
blank_in M255 b k = false

-- In block 0, labels may have only nodes in use; the line of nodes in use, if the block has it, may have only nodes below n.
abbrev pub line_mask : SheetForm → (n all : ℕ) → ℕ → ℕ
line_mask φ n all j = cond (ltb j label_count) all (cond (ltb j (line_count φ)) (set_of 64 (λ i. ltb i n)) 0)

-- In an arrow block, rows and columns are those of nodes in use.
abbrev pub row_mask : ℕ → ℕ → ℕ
row_mask all j = cond (member all j) all 0

-- r is 0 exactly when P holds: the code joins all that must be zero into r and tests it once.
pub record ZeroWhen (r : ℕ) (P : Type 0) : Type 0 where
  pub none : r ≡ 0 → P
  pub some : P → r ≡ 0

-- r is 0 exactly when the words `from` to `to` have only members of `mask`.
abbrev pub Outside : List ℕ → (from to mask r : ℕ) → Type 0
Outside k from to mask r = ZeroWhen r ((j : ℕ) → from ≤ j → j < to → within k mask j ≡ true)

-- r is 0 exactly when the bytes before the words and those after them are zero.
abbrev pub Edges : Form → List ℕ → ℕ → Type 0
Edges φ k r = ZeroWhen r ((zeros_at k 3 13 ≡ true) × (zeros_at k (16 + 8 * word_count) (padding φ word_count) ≡ true))

-- r is 0 exactly when the words whose numbers are in a set are zero.
abbrev pub Bare : List ℕ → (words r : ℕ) → Type 0
Bare k words r = ZeroWhen r ((j : ℕ) → j < word_count → member words j ≡ true → within k 0 j ≡ true)

-- r is 0 exactly when each word j has only members of mask j.
abbrev pub Over : List ℕ → (ℕ → ℕ) → ℕ → Type 0
Over k mask r = ZeroWhen r ((j : ℕ) → j < word_count → within k (mask j) j ≡ true)

-- What inner functions require: n is the sheet's and, once n is in range, `all` is the word of its nodes in use; block 0 says both.
pub record Told (φ : SheetForm) (k : List ℕ) (b n all : ℕ) (nodes : Nodes) : Type 0 where
  pub word : n ≤ max_nodes → all ≡ set_of 64 nodes
  pub below : (i : ℕ) → n ≤ i → nodes i ≡ false
  pub first : b ≡ 0 → (n ≡ get_or k 2 0) × ((i : ℕ) → nodes i ≡ (ltb i (get_or k 2 0) && used_in φ k i))

pub record SomeTold (φ : SheetForm) (k : List ℕ) (b n all : ℕ) : Type 0 where
  pub nodes : Nodes
  pub told : Told φ k b n all nodes
