-- What a witness says about a broken rule: the part that breaks it, and the nodes or pairs that break that part.
use Rattle.std.specs.Prelude.{◌≡◌, false, not, ◌&&◌, cond, eqb}
use Rattle.logic.specs.Syntax.{Expr, rule, sub_nodes, sub_arrows, node_in, pair_in, both, either, not_rule}
use Rattle.logic.specs.Graph.{Graph, Nodes, Pairs, any_below}
use Rattle.logic.specs.Meaning.{value}
use Rattle.logic.specs.Witness.{IsLowest}
use Rattle.bitset.specs.Words.{set_of}
use Rattle.witness.specs.declared.Witness.{Witness}
use Rattle.witness.specs.declared.Witness.TheVariants.{Nothing, LowestNode, LowestPair, Unnamed}

-- The part of a broken rule that breaks it: for 25 that of its first rule or, where that one holds, of its second; for 26 that of its second.
unfoldable pub breaking_part : Graph → Expr rule → Expr rule
breaking_part g (sub_nodes E F) = sub_nodes E F
breaking_part g (sub_arrows R S) = sub_arrows R S
breaking_part g (node_in i E) = node_in i E
breaking_part g (pair_in i j R) = pair_in i j R
breaking_part g (both K L) = cond (value g K) (breaking_part g L) (breaking_part g K)
breaking_part g (either K L) = breaking_part g L
breaking_part g (not_rule K) = not_rule K

-- The nodes that break a part: for 21 those of E that are not in F, for 23 that node. The pairs: for 22 those of R that are not in S, for 24 that pair.
unfoldable pub breaking_nodes : Graph → Expr rule → Nodes
breaking_nodes g (sub_nodes E F) = λ i. value g E i && not (value g F i)
breaking_nodes g (node_in i E) = λ k. eqb k i
breaking_nodes g (sub_arrows R S) = λ k. false
breaking_nodes g (pair_in i j R) = λ k. false
breaking_nodes g (both K L) = λ k. false
breaking_nodes g (either K L) = λ k. false
breaking_nodes g (not_rule K) = λ k. false

unfoldable pub breaking_pairs : Graph → Expr rule → Pairs
breaking_pairs g (sub_arrows R S) = λ i j. value g R i j && not (value g S i j)
breaking_pairs g (pair_in i j R) = λ k l. eqb k i && eqb l j
breaking_pairs g (sub_nodes E F) = λ k l. false
breaking_pairs g (node_in i E) = λ k l. false
breaking_pairs g (both K L) = λ k l. false
breaking_pairs g (either K L) = λ k l. false
breaking_pairs g (not_rule K) = λ k l. false

-- What a witness says of the nodes or pairs that break a part: a node is the lowest that does, and `nodes` are all that do;
-- a pair is the lowest, by its first node and then by its second.
abbrev pub Named : Graph → Expr rule → Witness → Type 0
Named g P Nothing = ⊥
Named g P (LowestNode first nodes) = IsLowest g.n (breaking_nodes g P) first × (nodes ≡ set_of g.n (breaking_nodes g P))
Named g P (LowestPair first second) = IsLowest g.n (λ i. any_below g.n (breaking_pairs g P i)) first × IsLowest g.n (breaking_pairs g P first) second
Named g P Unnamed = Unit {0}

-- The part is broken, and the witness names what breaks it.
pub record Told (g : Graph) (P : Expr rule) (w : Witness) : Type 0 where
  pub broken : value g P ≡ false
  pub named : Named g P w
