-- Two stations under one roof (item 8 of document 02): two sheets become one in the first's buffer.
use Rattle.std.specs.Prelude.{false, cond, List, ℕ, ◌+◌, ◌-◌, leb, ltb}
use Rattle.answer.specs.Asked.{Asked, ◌>>◌, is, after}
use Rattle.logic.specs.Graph.{Graph, Nodes, Pairs}
use Rattle.logic.specs.Limits.{max_nodes}
use Rattle.sheet.specs.Sheet.{store, graph_of}
use Rattle.sheet.specs.Questions.{ask_sheet}

-- "the second's nodes follow the first's, its numbers raised by the first's n": two sets side by side, the first with nodes below n.
unfoldable pub side_by_side : (n : ℕ) → Nodes → Nodes → Nodes
side_by_side n v u i = cond (ltb i n) (v i) (u (i - n))

-- The same for pairs, row by row: no arrow goes from one sheet's nodes to the other's.
unfoldable pub pairs_by_side : (n : ℕ) → Pairs → Pairs → Pairs
pairs_by_side n v u i = cond (ltb i n) (side_by_side n (v i) (λ j. false)) (side_by_side n (λ j. false) (u (i - n)))

-- "labels, arrows and nodes in use likewise"
unfoldable pub joined_graph : Graph → Graph → Graph
joined_graph g h =
    record {
      n = g.n + h.n;
      in_use = side_by_side g.n g.in_use h.in_use;
      labelled = λ k. side_by_side g.n (g.labelled k) (h.labelled k);
      joined = λ a. pairs_by_side g.n (g.joined a) (h.joined a);
    }

-- "58 when the node counts total more than 60, place that total, asked after both sheets"
abbrev pub nodes_total : List ℕ → List ℕ → ℕ
nodes_total first second = (graph_of first).n + (graph_of second).n

unfoldable pub ask_join : (first second : List ℕ) → Asked (Unit {0})
ask_join first second = do
  ask_sheet first
  ask_sheet second
  is (leb (nodes_total first second) max_nodes) 58 (nodes_total first second)

-- The first sheet after the call: the one that stores both graphs side by side, or unchanged.
unfoldable pub joined_sheet : (first second : List ℕ) → List ℕ
joined_sheet first second = after (ask_join first second) (λ u. store (joined_graph (graph_of first) (graph_of second))) first
