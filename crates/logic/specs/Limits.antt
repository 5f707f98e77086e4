-- The limits of document 01, "The sheet": n from 1 to 60 nodes, 48 labels, 16 arrow kinds; and the range of each number in a term.
use Rattle.std.specs.Prelude.{◌≡◌, Bool, true, false, ◌&&◌, ℕ, ◌≤◌, ◌-◌, T, leb, ltb}
use Rattle.logic.specs.Syntax.{Sort, Expr, all, none, label, nominal, complement, and, or, some, every, at_least, at_most, arrow_kind, reversed, union, common, minus, ending_in, pair, sub_nodes, sub_arrows, node_in, pair_in, both, either, not_rule, Edit, finish, add_label, take_label, add_arrow, take_arrow, choose}
use Rattle.logic.specs.Graph.{Graph, Nodes, Pairs, is_node, any_below}

abbrev pub max_nodes : ℕ
max_nodes = 60

abbrev pub label_count : ℕ
label_count = 48

abbrev pub arrow_count : ℕ
arrow_count = 16

-- A set of nodes, or of pairs, that contains only nodes in use.
abbrev pub NodesIn : Graph → Nodes → Type 0
NodesIn g v = (i : ℕ) → is_node g i ≡ false → v i ≡ false

pub record PairsIn (g : Graph) (v : Pairs) : Type 0 where
  pub starts : (i j : ℕ) → is_node g i ≡ false → v i j ≡ false
  pub ends : (i j : ℕ) → is_node g j ≡ false → v i j ≡ false

-- A graph within the limits: one that a sheet can store. Closed nodes have no labels and no arrows (labels_in, arrows-in).
pub record Within (g : Graph) : Type 0 where
  pub some_node : any_below g.n g.in_use ≡ true
  pub few_nodes : g.n ≤ max_nodes
  pub use_below : (i : ℕ) → g.n ≤ i → g.in_use i ≡ false
  pub labels_in : (k : ℕ) → NodesIn g (g.labelled k)
  pub arrows_in : (a : ℕ) → PairsIn g (g.joined a)
  pub no_more_labels : (k i : ℕ) → label_count ≤ k → g.labelled k i ≡ false
  pub no_more_arrows : (a i j : ℕ) → arrow_count ≤ a → g.joined a i j ≡ false

-- The kinds of number byte: label, arrow, node, the count of an 0A, the count of an 0B.
pub data Kind : Type 0 where
  label_number arrow_number node_number least_count most_count : Kind

-- The ranges of numbers: a node is below `nodes`; the count of an 0A is from `least_from` to `least_to`, that of an 0B from 0 to `most_to`.
pub record Ranges : Type 0 where
  pub nodes : ℕ
  pub least_from : ℕ
  pub least_to : ℕ
  pub most_to : ℕ

-- The ranges for n nodes (item 3 of document 02): the count of an 0A is 1 to 60, of an 0B 0 to 59. With any other the value would be 01 or 02 on every sheet.
abbrev pub ranges : ℕ → Ranges
ranges n = record { nodes = n; least_from = 1; least_to = max_nodes; most_to = max_nodes - 1 }

-- The ranges of document 01, with counts 0 to 255. Only the rewriter of stored books reads with them.
abbrev pub former_ranges : ℕ → Ranges
former_ranges n = record { nodes = n; least_from = 0; least_to = 255; most_to = 255 }

-- Whether a number of a kind is in its range.
abbrev pub fits : Ranges → Kind → ℕ → Bool
fits r label_number x = ltb x label_count
fits r arrow_number x = ltb x arrow_count
fits r node_number x = ltb x r.nodes
fits r least_count x = leb r.least_from x && leb x r.least_to
fits r most_count x = leb x r.most_to

-- Each number in a term is within its range.
unfoldable pub InRange : Ranges → {s : Sort} → Expr s → Type 0
InRange r all = Unit {0}
InRange r none = Unit {0}
InRange r (label k) = T (fits r label_number k)
InRange r (nominal i) = T (fits r node_number i)
InRange r (complement E) = InRange r E
InRange r (and E F) = InRange r E × InRange r F
InRange r (or E F) = InRange r E × InRange r F
InRange r (some R E) = InRange r R × InRange r E
InRange r (every R E) = InRange r R × InRange r E
InRange r (at_least m R E) = T (fits r least_count m) × InRange r R × InRange r E
InRange r (at_most m R E) = T (fits r most_count m) × InRange r R × InRange r E
InRange r (arrow_kind a) = T (fits r arrow_number a)
InRange r (reversed R) = InRange r R
InRange r (union R S) = InRange r R × InRange r S
InRange r (common R S) = InRange r R × InRange r S
InRange r (minus R S) = InRange r R × InRange r S
InRange r (ending_in R E) = InRange r R × InRange r E
InRange r (pair i j) = T (fits r node_number i) × T (fits r node_number j)
InRange r (sub_nodes E F) = InRange r E × InRange r F
InRange r (sub_arrows R S) = InRange r R × InRange r S
InRange r (node_in i E) = T (fits r node_number i) × InRange r E
InRange r (pair_in i j R) = T (fits r node_number i) × T (fits r node_number j) × InRange r R
InRange r (both K L) = InRange r K × InRange r L
InRange r (either K L) = InRange r K × InRange r L
InRange r (not_rule K) = InRange r K

unfoldable pub EditInRange : Ranges → Edit → Type 0
EditInRange r finish = Unit {0}
EditInRange r (add_label k E Z) = T (fits r label_number k) × InRange r E × EditInRange r Z
EditInRange r (take_label k E Z) = T (fits r label_number k) × InRange r E × EditInRange r Z
EditInRange r (add_arrow a R Z) = T (fits r arrow_number a) × InRange r R × EditInRange r Z
EditInRange r (take_arrow a R Z) = T (fits r arrow_number a) × InRange r R × EditInRange r Z
EditInRange r (choose K P Q Z) = InRange r K × EditInRange r P × EditInRange r Q × EditInRange r Z
