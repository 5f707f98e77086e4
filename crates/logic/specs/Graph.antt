-- Labelled graphs (document 004, Section 3: an interpretation with a finite domain). A set is its membership function.
use Rattle.std.specs.Prelude.{Bool, true, false, not, ◌&&◌, ◌||◌, cond, ℕ, zero, suc, ltb}

-- A set of nodes, and a set of pairs of nodes.
abbrev pub Nodes : Type 0
Nodes = ℕ → Bool

abbrev pub Pairs : Type 0
Pairs = ℕ → ℕ → Bool

-- A graph: its number of nodes, which of them are in use, the nodes with label k, the pairs that arrow kind a joins.
pub record Graph : Type 0 where
  pub n : ℕ
  pub in_use : Nodes
  pub labelled : ℕ → Nodes
  pub joined : ℕ → Pairs

-- Whether i is a node in use (item 6 of document 02). Nodes are numbered from 0; within the limits no value contains a closed node.
unfoldable pub is_node : Graph → Nodes
is_node g i = ltb i g.n && g.in_use i

-- Of the numbers below n: whether one is in the set, whether all are, and how many are.
unfoldable pub any_below : ℕ → Nodes → Bool
any_below zero v = false
any_below (suc n) v = any_below n v || v n

unfoldable pub all_below : ℕ → Nodes → Bool
all_below zero v = true
all_below (suc n) v = all_below n v && v n

unfoldable pub count_below : ℕ → Nodes → ℕ
count_below zero v = zero
count_below (suc n) v = cond (v n) (suc (count_below n v)) (count_below n v)

abbrev pub implies : Bool → Bool → Bool
implies x y = not x || y
