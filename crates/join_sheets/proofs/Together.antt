-- The joined graph is within the limits if the node counts total at most 60; joining three graphs gives the same in either grouping.
use mathlib.Core.Path.{◌≡◌, sym, ◌∙◌, ap, ap₂}
use mathlib.Core.Bool.{false}
use Prim.Native.Nat.{ℕ, ◌+◌, ◌≤◌}
use native.Mathlib.Omega.{arith}
use Rattle.logic.specs.Graph.{Graph, Nodes, Pairs, is_node}
use Rattle.logic.specs.Limits.{Within, NodesIn, PairsIn, max_nodes}
use Rattle.logic.proofs.Below.{any_found, any-one}
use Rattle.join_sheets.specs.Joined.{side_by_side, pairs_by_side, joined_graph}
use Rattle.join_sheets.proofs.Joined.{NodesSide, nodes-side, pairs-side, node-side, side-cases, pair-cases, nodes-are, pairs-are}

module _ (g h : Graph) (v : Within g) (w : Within h) where
  -- a set of the joined graph that is two sets of nodes in use side by side contains only nodes in use
  outside : NodesSide g.n (is_node g) (is_node h) (is_node (joined_graph g h))
  outside = node-side g h

  nodes-in : (a b : Nodes) → NodesIn g a → NodesIn h b → NodesIn (joined_graph g h) (side_by_side g.n a b)
  nodes-in a b p q =
      let s = nodes-side g.n a b in
      side-cases g.n (λ i. is_node (joined_graph g h) i ≡ false → side_by_side g.n a b i ≡ false)
      (λ i l e. s.first i l ∙ p i (sym (outside.first i l) ∙ e)) (λ k e. s.second k ∙ q k (sym (outside.second k) ∙ e))

  pairs-in : (a b : Pairs) → PairsIn g a → PairsIn h b → PairsIn (joined_graph g h) (pairs_by_side g.n a b)
  pairs-in a b p q =
      let s = pairs-side g.n a b in
      record {
        starts = pair-cases g.n (λ i j. is_node (joined_graph g h) i ≡ false → pairs_by_side g.n a b i j ≡ false) (λ i j l k e. s.first i j l k ∙ p.starts i j (sym (outside.first i l) ∙ e))
            (λ i j e. s.second i j ∙ q.starts i j (sym (outside.second i) ∙ e)) (λ i j l e. s.across i j l) (λ i j l e. s.back i j l);
        ends = pair-cases g.n (λ i j. is_node (joined_graph g h) j ≡ false → pairs_by_side g.n a b i j ≡ false) (λ i j l k e. s.first i j l k ∙ p.ends i j (sym (outside.first j k) ∙ e))
            (λ i j e. s.second i j ∙ q.ends i j (sym (outside.second j) ∙ e)) (λ i j l e. s.across i j l) (λ i j l e. s.back i j l);
      }

  -- what is empty on both sides is empty
  nodes-none : (a b : Nodes) → ((i : ℕ) → a i ≡ false) → ((i : ℕ) → b i ≡ false) → (i : ℕ) → side_by_side g.n a b i ≡ false
  nodes-none a b p q = let s = nodes-side g.n a b in side-cases g.n (λ i. side_by_side g.n a b i ≡ false) (λ i l. s.first i l ∙ p i) (λ k. s.second k ∙ q k)

  pairs-none : (a b : Pairs) → ((i j : ℕ) → a i j ≡ false) → ((i j : ℕ) → b i j ≡ false) → (i j : ℕ) → pairs_by_side g.n a b i j ≡ false
  pairs-none a b p q =
      let s = pairs-side g.n a b in
      pair-cases g.n (λ i j. pairs_by_side g.n a b i j ≡ false) (λ i j l k. s.first i j l k ∙ p i j) (λ i j. s.second i j ∙ q i j) s.across s.back

  -- "58 when the node counts total more than 60": otherwise a sheet can store the joined graph.
  pub join-within : g.n + h.n ≤ max_nodes → Within (joined_graph g h)
  unfolding joined_graph
  join-within few =
      record {
        some_node = let (i, l, e) = any_found g.n g.in_use v.some_node in any-one (g.n + h.n) (side_by_side g.n g.in_use h.in_use) i (omega arith) ((nodes-side g.n g.in_use h.in_use).first i l ∙ e);
        few_nodes = few;
        use_below = side-cases g.n (λ i. g.n + h.n ≤ i → side_by_side g.n g.in_use h.in_use i ≡ false) (λ i l k. absurd (omega arith)) (λ k l. (nodes-side g.n g.in_use h.in_use).second k ∙ w.use_below k (omega arith));
        labels_in = λ k. nodes-in (g.labelled k) (h.labelled k) (v.labels_in k) (w.labels_in k);
        arrows_in = λ a. pairs-in (g.joined a) (h.joined a) (v.arrows_in a) (w.arrows_in a);
        no_more_labels = λ k i l. nodes-none (g.labelled k) (h.labelled k) (λ i. v.no_more_labels k i l) (λ i. w.no_more_labels k i l) i;
        no_more_arrows = λ a i j l. pairs-none (g.joined a) (h.joined a) (λ i j. v.no_more_arrows a i j l) (λ i j. w.no_more_arrows a i j l) i j;
      }

-- Joining three gives the same in either grouping.
module _ (n m : ℕ) where
  on : (k : ℕ) → n + (m + k) ≡ (n + m) + k
  on k = omega arith

  nodes-assoc : (a b c : Nodes) → side_by_side (n + m) (side_by_side n a b) c ≡ side_by_side n a (side_by_side m b c)
  nodes-assoc a b c =
      let s = nodes-side (n + m) (side_by_side n a b) c in
      let p = nodes-side n a b in
      let r = nodes-side m b c in
      nodes-are n a (side_by_side m b c) (side_by_side (n + m) (side_by_side n a b) c)
      (record {
        first = λ i l. s.first i (omega arith) ∙ p.first i l;
        second = side-cases m (λ i. side_by_side (n + m) (side_by_side n a b) c (n + i) ≡ side_by_side m b c i)
            (λ i l. s.first (n + i) (omega arith) ∙ p.second i ∙ sym (r.first i l)) (λ k. ap (side_by_side (n + m) (side_by_side n a b) c) (on k) ∙ s.second k ∙ sym (r.second k));
      })

  pairs-assoc : (a b c : Pairs) → pairs_by_side (n + m) (pairs_by_side n a b) c ≡ pairs_by_side n a (pairs_by_side m b c)
  pairs-assoc a b c =
      let s = pairs-side (n + m) (pairs_by_side n a b) c in
      let p = pairs-side n a b in
      let r = pairs-side m b c in
      pairs-are n a (pairs_by_side m b c) w
      (record {
        first = λ i j l k. s.first i j (omega arith) (omega arith) ∙ p.first i j l k;
        second = pair-cases m (λ i j. w (n + i) (n + j) ≡ pairs_by_side m b c i j)
            (λ i j l k. s.first (n + i) (n + j) (omega arith) (omega arith) ∙ p.second i j ∙ sym (r.first i j l k)) (λ i j. ap₂ w (on i) (on j) ∙ s.second i j ∙ sym (r.second i j))
            (λ i j l. ap (w (n + i)) (on j) ∙ s.across (n + i) j (omega arith) ∙ sym (r.across i j l)) (λ i j l. ap (λ x. w x (n + j)) (on i) ∙ s.back i (n + j) (omega arith) ∙ sym (r.back i j l));
        across = λ i j l. side-cases m (λ j. w i (n + j) ≡ false) (λ j k. s.first i (n + j) (omega arith) (omega arith) ∙ p.across i j l) (λ k. ap (w i) (on k) ∙ s.across i k (omega arith)) j;
        back = λ i j l. side-cases m (λ i. w (n + i) j ≡ false) (λ i k. s.first (n + i) j (omega arith) (omega arith) ∙ p.back i j l) (λ k. ap (λ x. w x j) (on k) ∙ s.back k j (omega arith)) i;
      }) where
        w : Pairs
        w = pairs_by_side (n + m) (pairs_by_side n a b) c

pub join-assoc : (f g h : Graph) → joined_graph (joined_graph f g) h ≡ joined_graph f (joined_graph g h)
unfolding joined_graph
join-assoc f g h =
    λ t. record {
      n = sum t;
      in_use = nodes-assoc f.n g.n f.in_use g.in_use h.in_use t;
      labelled = λ k. nodes-assoc f.n g.n (f.labelled k) (g.labelled k) (h.labelled k) t;
      joined = λ a. pairs-assoc f.n g.n (f.joined a) (g.joined a) (h.joined a) t;
    } where
      sum : (f.n + g.n) + h.n ≡ f.n + (g.n + h.n)
      sum = omega arith
