-- What an edit does to a graph (document 004, Definition 3.2). Each step takes its expression on the graph just before it.
use Rattle.std.specs.Prelude.{not, ◌&&◌, ◌||◌, cond, ℕ, eqb}
use Rattle.logic.specs.Syntax.{Edit, finish, add_label, take_label, add_arrow, take_arrow, choose}
use Rattle.logic.specs.Graph.{Graph, Nodes, Pairs, is_node}
use Rattle.logic.specs.Meaning.{value}

-- The function f, except that it gives v at k.
unfoldable pub update : {A : Type 0} → (ℕ → A) → ℕ → A → ℕ → A
update f k v x = cond (eqb x k) v (f x)

-- The graph with v as the nodes of label k; the graph with v as the pairs of arrow kind a.
abbrev pub relabel : Graph → ℕ → Nodes → Graph
relabel g k v = record { n = g.n; in_use = g.in_use; labelled = update g.labelled k v; joined = g.joined }

abbrev pub rejoin : Graph → ℕ → Pairs → Graph
rejoin g a v = record { n = g.n; in_use = g.in_use; labelled = g.labelled; joined = update g.joined a v }

-- The graph that the steps leave. Within the limits, what 32 leaves is the set difference (proofs/Inside, `taken_label`).
unfoldable pub run : Edit → Graph → Graph
run finish g = g
run (add_label k E Z) g = run Z (relabel g k (λ i. g.labelled k i || value g E i))
run (take_label k E Z) g = run Z (relabel g k (λ i. g.labelled k i && (is_node g i && not (value g E i))))
run (add_arrow a R Z) g = run Z (rejoin g a (λ i j. g.joined a i j || value g R i j))
run (take_arrow a R Z) g = run Z (rejoin g a (λ i j. g.joined a i j && not (value g R i j)))
run (choose K P Q Z) g = run Z (cond (value g K) (run P g) (run Q g))
