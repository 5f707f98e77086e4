-- What breaks a rule on a graph: the nodes or pairs that violate it, or nothing that can be named.
use Rattle.std.specs.Prelude.{◌≡◌, Bool, true, false, not, ◌&&◌, cond, ℕ, zero, suc, ◌<◌, eqb}
use Rattle.logic.specs.Syntax.{Expr, rule, sub_nodes, sub_arrows, node_in, pair_in, both, either, not_rule}
use Rattle.logic.specs.Graph.{Graph, Nodes, Pairs, any_below}
use Rattle.logic.specs.Meaning.{value}

-- The rule holds; these nodes break it; these pairs break it; it is broken, but nothing can be named.
pub data Breaks : Type 0 where
  nothing : Breaks
  nodes : Nodes → Breaks
  pairs : Pairs → Breaks
  unnamed : Breaks

-- 21: the nodes of E that are not in F. 22: the pairs of R that are not in S. 23, 24: that node, that pair. 25: what breaks the first rule,
-- or, if that holds, the second. 26: what breaks the second rule, so that a carried 35 names what breaks the branch taken. 27: nothing named.
unfoldable pub breaks : Graph → Expr rule → Breaks
unfolding value
breaks g (sub_nodes E F) = cond (value g (sub_nodes E F)) nothing (nodes (λ i. value g E i && not (value g F i)))
breaks g (sub_arrows R S) = cond (value g (sub_arrows R S)) nothing (pairs (λ i j. value g R i j && not (value g S i j)))
breaks g (node_in i E) = cond (value g E i) nothing (nodes (λ k. eqb k i))
breaks g (pair_in i j R) = cond (value g R i j) nothing (pairs (λ k l. eqb k i && eqb l j))
breaks g (both K L) = cond (value g K) (breaks g L) (breaks g K)
breaks g (either K L) = cond (value g K) nothing (breaks g L)
breaks g (not_rule K) = cond (value g K) unnamed nothing

-- The lowest number below n in a set that has one.
unfoldable pub lowest_below : ℕ → Nodes → ℕ
lowest_below zero v = zero
lowest_below (suc n) v = cond (any_below n v) (lowest_below n v) n

-- i is the lowest number below n in the set v.
pub record IsLowest (n : ℕ) (v : Nodes) (i : ℕ) : Type 0 where
  pub below : i < n
  pub is_in : v i ≡ true
  pub first : (j : ℕ) → j < i → v j ≡ false
