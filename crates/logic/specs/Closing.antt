-- Closing and opening a node (item 6 of document 02), on graphs. These are calls, not steps of an edit.
use Rattle.std.specs.Prelude.{Bool, true, false, not, ◌&&◌, ◌||◌, ℕ, eqb}
use Rattle.logic.specs.Graph.{Graph, Nodes, any_below}
use Rattle.logic.specs.Steps.{update}
use Rattle.logic.specs.Limits.{label_count, arrow_count}

-- The graph with these nodes in use.
abbrev pub with_use : Graph → Nodes → Graph
with_use g u = record { n = g.n; in_use = u; labelled = g.labelled; joined = g.joined }

-- The graph with node i closed; the graph with node i open.
unfoldable pub close_node_def : Graph → ℕ → Graph
close_node_def g i = with_use g (update g.in_use i false)

unfoldable pub open_node_def : Graph → ℕ → Graph
open_node_def g i = with_use g (update g.in_use i true)

-- "54 when the node to be closed has a label or an arrow or is the only one in use": an arrow from the node or to it.
unfoldable pub has_label_def : Graph → ℕ → Bool
has_label_def g i = any_below label_count (λ k. g.labelled k i)

unfoldable pub has_arrow_def : Graph → ℕ → Bool
has_arrow_def g i = any_below arrow_count (λ a. any_below g.n (λ j. g.joined a i j || g.joined a j i))

unfoldable pub is_only : Graph → ℕ → Bool
is_only g i = not (any_below g.n (λ j. g.in_use j && not (eqb j i)))

-- Node i can be closed if none of the three holds.
unfoldable pub can_close_def : Graph → ℕ → Bool
can_close_def g i = not (has_label_def g i || has_arrow_def g i || is_only g i)
