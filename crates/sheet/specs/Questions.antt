-- The questions about a sheet, 1 to 4, in any form of sheets; about a blank sheet, 5 and 1; about a bit read, 7 ("The questions, in order" of document 01).
use Rattle.std.specs.Prelude.{◌≡◌, Bool, ◌&&◌, ◌||◌, cond, List, ℕ, zero, suc, ◌+◌, ◌-◌, ◌*◌, ◌/◌, ◌%◌, eqb, leb, ltb, length, get_or, take, drop}
use Rattle.answer.specs.Asked.{Asked, passed, ◌>>◌, is}
use Rattle.logic.specs.Graph.{Nodes, is_node, any_below, all_below, implies}
use Rattle.logic.specs.Limits.{max_nodes, label_count, arrow_count}
use Rattle.bitset.specs.Words.{member}
use Rattle.seal.specs.Seal.{block_bytes, seal_right_def}
use Rattle.sheet.specs.Sheet.{block_count, sheet_bytes, SheetForm, line_count, used_in, graph_in, graph_of, present}

-- Block b of a sheet.
abbrev pub block_of : List ℕ → ℕ → List ℕ
block_of t b = take block_bytes (drop (block_bytes * b) t)

-- n from 1 to 60
abbrev pub node_count_right : ℕ → Bool
node_count_right n = leb 1 n && leb n max_nodes

-- Whether bytes 0 to 2 of block b are right, n is from 1 to 60, and some node below n is in use, whatever the bits above.
unfoldable pub head_right_def : SheetForm → ℕ → List ℕ → Bool
head_right_def φ zero k = eqb (get_or k 0 0) 1 && (eqb (get_or k 1 0) 0 && (node_count_right (get_or k 2 0) && any_below (get_or k 2 0) (used_in φ k)))
head_right_def φ (suc a) k = eqb (get_or k 0 0) 2 && (eqb (get_or k 1 0) (suc a) && eqb (get_or k 2 0) 0)

-- Whether bit i of byte p of block b may be set: bytes 0 to 2; labels and arrows of nodes in use; in the line of nodes in use, those below n.
unfoldable pub free : SheetForm → (n : ℕ) → Nodes → (b p i : ℕ) → Bool
free φ n nodes zero p i = ltb p 3 || (leb 16 p && (ltb p (16 + 8 * line_count φ) && cond (ltb p (16 + 8 * label_count)) (nodes (p % 8 * 8 + i)) (ltb (p % 8 * 8 + i) n)))
free φ n nodes (suc a) p i = ltb p 3 || (leb 16 p && (ltb p (16 + 8 * max_nodes) && (nodes ((p - 16) / 8) && nodes (p % 8 * 8 + i))))

-- Whether all that must be zero is zero: closed nodes have no labels and no arrows.
unfoldable pub zero_right_def : SheetForm → (n : ℕ) → Nodes → ℕ → List ℕ → Bool
zero_right_def φ n nodes b k = all_below φ.sums.body_bytes (λ p. all_below 8 (λ i. implies (member (get_or k p 0) i) (free φ n nodes b p i)))

-- The questions about block b of a sheet with n nodes, of which these are in use.
unfoldable pub ask_block_def : SheetForm → (n : ℕ) → Nodes → ℕ → List ℕ → Asked (Unit {0})
ask_block_def φ n nodes b k = do
  is (seal_right_def φ.sums k) 2 b
  is (head_right_def φ b k) 3 b
  is (zero_right_def φ n nodes b k) 4 b

-- The m blocks from block b on, one by one.
unfoldable pub ask_blocks : SheetForm → List ℕ → ℕ → ℕ → Asked (Unit {0})
ask_blocks φ t zero b = passed tt
ask_blocks φ t (suc m) b = ask_block_def φ (get_or t 2 0) (is_node (graph_in φ t)) b (block_of t b) >> ask_blocks φ t m (suc b)

-- Questions 1 to 4.
unfoldable pub ask_sheet_in : SheetForm → List ℕ → Asked (Unit {0})
ask_sheet_in φ t = do
  is (eqb (length t) sheet_bytes) 1 0
  ask_blocks φ t block_count 0

-- A sheet is sound when it passes 1 to 4.
abbrev pub SoundIn : SheetForm → List ℕ → Type 0
SoundIn φ t = ask_sheet_in φ t ≡ passed tt

-- The same for current sheets.
abbrev pub ask_sheet : List ℕ → Asked (Unit {0})
ask_sheet t = ask_sheet_in present t

abbrev pub Sound : List ℕ → Type 0
Sound t = SoundIn present t

-- A blank sheet of n in a buffer of some length: 5, then 1.
unfoldable pub ask_blank : ℕ → ℕ → Asked (Unit {0})
ask_blank n len = do
  is (node_count_right n) 5 0
  is (eqb len sheet_bytes) 1 0

-- A bit read: 1 to 4, then 7. The result is the bit.
unfoldable pub ask_label_bit : List ℕ → ℕ → ℕ → Asked Bool
ask_label_bit t k i = do
  ask_sheet t
  is (ltb k label_count && ltb i (graph_of t).n) 7 0
  passed ((graph_of t).labelled k i)

unfoldable pub ask_arrow_bit : List ℕ → ℕ → ℕ → ℕ → Asked Bool
ask_arrow_bit t a i j = do
  ask_sheet t
  is (ltb a arrow_count && (ltb i (graph_of t).n && ltb j (graph_of t).n)) 7 0
  passed ((graph_of t).joined a i j)
