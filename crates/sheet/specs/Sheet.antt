-- The sheet: 17 blocks of 512 bytes ("The sheet" of document 01). Defines the bytes that store a graph and the graph that bytes store,
-- in any form; the current form is that of items 2 and 6 of document 02.
use Rattle.std.specs.Prelude.{◌≡◌, Bool, true, false, ◌&&◌, cond, List, [], ◌∷◌, ◌++◌, ℕ, zero, suc, ◌+◌, ◌-◌, ◌*◌, ◌/◌, ◌%◌, ◌<◌, ltb, get_or, replicate}
use Rattle.logic.specs.Graph.{Graph, Nodes, Pairs}
use Rattle.logic.specs.Limits.{max_nodes, label_count, arrow_count}
use Rattle.bitset.specs.Words.{set_of, member, bytes}
use Rattle.seal.specs.Seal.{block_bytes, Form, modulo257, sealed}

-- A block of labels and one for each arrow kind: 8,704 bytes.
abbrev pub block_count : ℕ
block_count = 1 + arrow_count

abbrev pub sheet_bytes : ℕ
sheet_bytes = block_count * block_bytes

-- Words start at byte 16 of a block; after m words, this many zeros fill the body.
abbrev pub padding : Form → ℕ → ℕ
padding φ m = φ.body_bytes - (16 + 8 * m)

-- The m lists f i, f (i + 1), .. joined.
unfoldable pub chunks : ℕ → ℕ → (ℕ → List ℕ) → List ℕ
chunks zero i f = []
chunks (suc m) i f = f i ++ chunks m (suc i) f

-- A block: bytes 0 to 2, 13 zeros, m words, zeros, check bytes.
unfoldable pub block : Form → List ℕ → (m : ℕ) → (ℕ → ℕ) → List ℕ
block φ head m word = sealed φ (head ++ replicate 13 0 ++ chunks m 0 (λ k. bytes 8 (word k)) ++ replicate (padding φ m) 0)

-- A form of sheets: its check bytes, and whether block 0 holds the nodes in use. If it does not, all n are in use.
pub record SheetForm : Type 0 where
  pub sums : Form
  pub holds_use : Bool

-- The current form; the forms that only old cards have, by their check bytes.
abbrev pub present : SheetForm
present = record { sums = modulo257; holds_use = true }

abbrev pub former : Form → SheetForm
former f = record { sums = f; holds_use = false }

-- The lines of block 0: for each label k, the nodes with it; line 48, at byte 400, is the nodes in use.
abbrev pub line_of : Graph → ℕ → Nodes
line_of g k = cond (ltb k label_count) (g.labelled k) g.in_use

abbrev pub line_count : SheetForm → ℕ
line_count φ = cond φ.holds_use (label_count + 1) label_count

-- Block 0: line k is 8 bytes at 16 + 8k, little-endian; bit i is node i.
unfoldable pub label_block : SheetForm → Graph → List ℕ
label_block φ g = block φ.sums (1 ∷ 0 ∷ g.n ∷ []) (line_count φ) (λ k. set_of g.n (line_of g k))

-- Block a + 1: row i of arrow a is 8 bytes at 16 + 8i; bit j is an arrow from i to j.
unfoldable pub arrow_block : SheetForm → Graph → ℕ → List ℕ
arrow_block φ g a = block φ.sums (2 ∷ suc a ∷ 0 ∷ []) max_nodes (λ i. set_of g.n (g.joined a i))

-- The sheet that stores a graph in a given form; in the current form.
unfoldable pub store_in : SheetForm → Graph → List ℕ
store_in φ g = label_block φ g ++ chunks arrow_count 0 (arrow_block φ g)

abbrev pub store : Graph → List ℕ
store g = store_in present g

-- Bit i of the 8 bytes at p.
abbrev pub bit_in : List ℕ → ℕ → Nodes
bit_in t p i = ltb i 64 && member (get_or t (p + i / 8) 0) (i % 8)

-- The nodes in use according to a sheet or its block 0.
abbrev pub used_in : SheetForm → List ℕ → Nodes
used_in φ t = cond φ.holds_use (bit_in t (16 + 8 * label_count)) (λ i. ltb i (get_or t 2 0))

-- The graph that a sheet of a given form stores; that a current sheet stores.
unfoldable pub graph_in : SheetForm → List ℕ → Graph
graph_in φ t =
    record {
      n = get_or t 2 0;
      in_use = used_in φ t;
      labelled = λ k i. ltb k label_count && bit_in t (16 + 8 * k) i;
      joined = λ a i j. ltb a arrow_count && (ltb i max_nodes && bit_in t (block_bytes * (a + 1) + (16 + 8 * i)) j);
    }

abbrev pub graph_of : List ℕ → Graph
graph_of t = graph_in present t

-- A form stores every graph within the limits, except that all n nodes must be in use if block 0 does not hold the nodes in use.
abbrev pub Storable : SheetForm → Graph → Type 0
Storable φ g = φ.holds_use ≡ false → (i : ℕ) → g.in_use i ≡ ltb i g.n

-- The graph of n nodes, all in use, without labels and arrows.
abbrev pub blank : ℕ → Graph
blank n = record { n = n; in_use = λ i. ltb i n; labelled = λ k i. false; joined = λ a i j. false }

-- The graph with the nodes v k for each label k and the nodes u in use; the graph with only the labels changed.
abbrev pub with_lines : Graph → (ℕ → Nodes) → Nodes → Graph
with_lines g v u = record { n = g.n; in_use = u; labelled = v; joined = g.joined }

abbrev pub relabel_all : Graph → (ℕ → Nodes) → Graph
relabel_all g v = with_lines g v g.in_use

-- Words that hold the rows of a set of pairs: row i is the word of v i, for i below n. Any later words are free.
pub record Rows (n : ℕ) (v : Pairs) (rows : List ℕ) : Type 0 where
  pub row : (i : ℕ) → i < n → get_or rows i 0 ≡ set_of n (v i)
