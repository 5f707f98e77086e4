-- What an expression means on a graph (document 004, Table II): a set of nodes, a set of pairs, or whether a rule holds.
-- On a graph within the limits no value contains a number that is not a node in use.
use Rattle.std.specs.Prelude.{Bool, true, false, not, ◌&&◌, ◌||◌, List, [], ◌∷◌, leb, eqb}
use Rattle.logic.specs.Syntax.{Sort, node, arrow, rule, Expr, all, none, label, nominal, complement, and, or, some, every, at_least, at_most, arrow_kind, reversed, union, common, minus, ending_in, pair, sub_nodes, sub_arrows, node_in, pair_in, both, either, not_rule}
use Rattle.logic.specs.Graph.{Graph, Nodes, Pairs, is_node, any_below, all_below, count_below, implies}

-- The values of each sort.
abbrev pub Value : Sort → Type 0
Value node = Nodes
Value arrow = Pairs
Value rule = Bool

-- One equation for each code, in the order of the codes.
unfoldable pub value : (g : Graph) {s : Sort} → Expr s → Value s
value g all = λ i. is_node g i
value g none = λ i. false
value g (label k) = g.labelled k
value g (nominal j) = λ i. is_node g i && eqb i j
value g (complement E) = λ i. is_node g i && not (value g E i)
value g (and E F) = λ i. value g E i && value g F i
value g (or E F) = λ i. value g E i || value g F i
value g (some R E) = λ i. any_below g.n (λ j. value g R i j && value g E j)
value g (every R E) = λ i. is_node g i && all_below g.n (λ j. implies (value g R i j) (value g E j))
value g (at_least m R E) = λ i. is_node g i && leb m (count_below g.n (λ j. value g R i j && value g E j))
value g (at_most m R E) = λ i. is_node g i && leb (count_below g.n (λ j. value g R i j && value g E j)) m
value g (arrow_kind a) = g.joined a
value g (reversed R) = λ i j. value g R j i
value g (union R S) = λ i j. value g R i j || value g S i j
value g (common R S) = λ i j. value g R i j && value g S i j
value g (minus R S) = λ i j. value g R i j && not (value g S i j)
value g (ending_in R E) = λ i j. value g R i j && value g E j
value g (pair k l) = λ i j. (is_node g i && eqb i k) && (is_node g j && eqb j l)
value g (sub_nodes E F) = all_below g.n (λ i. implies (value g E i) (value g F i))
value g (sub_arrows R S) = all_below g.n (λ i. all_below g.n (λ j. implies (value g R i j) (value g S i j)))
value g (node_in i E) = value g E i
value g (pair_in i j R) = value g R i j
value g (both K L) = value g K && value g L
value g (either K L) = value g K || value g L
value g (not_rule K) = not (value g K)

-- Whether each rule of a book holds.
unfoldable pub hold_all : Graph → List (Expr rule) → Bool
hold_all g [] = true
hold_all g (K ∷ book) = value g K && hold_all g book
