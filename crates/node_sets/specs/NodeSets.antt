-- Sets of a sheet's nodes, each read as a whole: those in use, those with a label, those that an arrow reaches from a node.
use Rattle.std.specs.Prelude.{◌&&◌, List, ℕ, ltb}
use Rattle.answer.specs.Asked.{Asked, passed, ◌>>◌, is}
use Rattle.logic.specs.Graph.{Nodes, is_node, count_below}
use Rattle.logic.specs.Limits.{label_count, arrow_count}
use Rattle.bitset.specs.Words.{set_of}
use Rattle.sheet.specs.Sheet.{graph_of}
use Rattle.sheet.specs.Questions.{ask_sheet}
use Rattle.node_sets.specs.declared.NodeSet.{NodeSet}

-- The members of v below n: how many, and their word.
abbrev pub members : ℕ → Nodes → NodeSet
members n v = record { count = count_below n v; set = set_of n v }

-- Questions 1 to 4 of the sheet. The result is n, which counts closed nodes too, and the nodes in use.
unfoldable pub ask_nodes : List ℕ → Asked NodeSet
ask_nodes t = do
  ask_sheet t
  passed (record { count = (graph_of t).n; set = set_of (graph_of t).n (is_node (graph_of t)) })

-- 1 to 4, then 7. The result is the nodes with label k.
unfoldable pub ask_label_set : List ℕ → ℕ → Asked NodeSet
ask_label_set t k = do
  ask_sheet t
  is (ltb k label_count) 7 0
  passed (members (graph_of t).n ((graph_of t).labelled k))

-- 1 to 4, then 7. The result is the nodes to which arrow a goes from node i.
unfoldable pub ask_row_set : List ℕ → ℕ → ℕ → Asked NodeSet
ask_row_set t a i = do
  ask_sheet t
  is (ltb a arrow_count && ltb i (graph_of t).n) 7 0
  passed (members (graph_of t).n ((graph_of t).joined a i))
