-- Terms by arity: what `by_arity` computes, and the equations by arity of `substitute`, `InRange` and `value`.
use mathlib.Core.Path.{◌≡◌, refl}
use mathlib.Core.Bool.{not, ◌&&◌, ◌||◌}
use mathlib.Core.Logic.{◌↔◌}
use mathlib.Core.List.{List}
use Prim.Native.Nat.{ℕ}
use lib.Dec.{T, leb}
use Rattle.logic.specs.Syntax.{Sort, node, arrow, Expr, label, arrow_kind}
use Rattle.logic.specs.Lists.{All}
use Rattle.logic.specs.Graph.{Graph, Nodes, Pairs, is_node, any_below, all_below, count_below, implies}
use Rattle.logic.specs.Meaning.{value}
use Rattle.logic.specs.Carry.{substitute}
use Rattle.logic.specs.Limits.{Kind, Ranges, fits, InRange}
use Rattle.logic.specs.Arity.{Nullary, all·, none·, label·, nominal·, arrow_kind·, pair·, Unary, complement·, reversed·, node_in·, pair_in·, not_rule·, Binary, and·, or·, some·, every·, at_least·, at_most·, union·, common·, minus·, ending_in·, sub_nodes·, sub_arrows·, both·, either·, build0, build1, build2, numbers0, numbers1, numbers2, by_arity}

-- `by_arity` at a code gives the case for its arity, from the results for its operands; `substitute` goes on under the code.
module _ {ℓ} (P : (s : Sort) → Expr s → Type ℓ) (leaf : (s : Sort) (b : Nullary s) → P s (build0 b)) (one : (u t : Sort) (b : Unary u t) (x : Expr u) → P u x → P t (build1 b x))
    (two : (u v t : Sort) (b : Binary u v t) (x : Expr u) (y : Expr v) → P u x → P v y → P t (build2 b x y)) (f : ℕ → Expr node) (h : ℕ → Expr arrow) where
  alike-1 : {u t : Sort} (b : Unary u t) (x : Expr u)
      → (by_arity P leaf one two (build1 b x) ≡ one u t b x (by_arity P leaf one two x)) × (substitute f h (build1 b x) ≡ build1 b (substitute f h x))
  unfolding by_arity substitute build1
  alike-1 complement· x = (refl, refl)
  alike-1 reversed· x = (refl, refl)
  alike-1 (node_in· i) x = (refl, refl)
  alike-1 (pair_in· i j) x = (refl, refl)
  alike-1 not_rule· x = (refl, refl)

  alike-2 : {u v t : Sort} (b : Binary u v t) (x : Expr u) (y : Expr v)
      → (by_arity P leaf one two (build2 b x y) ≡ two u v t b x y (by_arity P leaf one two x) (by_arity P leaf one two y)) × (substitute f h (build2 b x y) ≡ build2 b (substitute f h x) (substitute f h y))
  unfolding by_arity substitute build2
  alike-2 and· x y = (refl, refl)
  alike-2 or· x y = (refl, refl)
  alike-2 some· x y = (refl, refl)
  alike-2 every· x y = (refl, refl)
  alike-2 (at_least· m) x y = (refl, refl)
  alike-2 (at_most· m) x y = (refl, refl)
  alike-2 union· x y = (refl, refl)
  alike-2 common· x y = (refl, refl)
  alike-2 minus· x y = (refl, refl)
  alike-2 ending_in· x y = (refl, refl)
  alike-2 sub_nodes· x y = (refl, refl)
  alike-2 sub_arrows· x y = (refl, refl)
  alike-2 both· x y = (refl, refl)
  alike-2 either· x y = (refl, refl)

module _ {ℓ} (P : (s : Sort) → Expr s → Type ℓ) (leaf : (s : Sort) (b : Nullary s) → P s (build0 b)) (one : (u t : Sort) (b : Unary u t) (x : Expr u) → P u x → P t (build1 b x)) (two : (u v t : Sort) (b : Binary u v t) (x : Expr u) (y : Expr v) → P u x → P v y → P t (build2 b x y)) where
  pub by_arity-0 : {s : Sort} (b : Nullary s) → by_arity P leaf one two (build0 b) ≡ leaf s b
  unfolding by_arity build0
  by_arity-0 all· = refl
  by_arity-0 none· = refl
  by_arity-0 (label· k) = refl
  by_arity-0 (nominal· i) = refl
  by_arity-0 (arrow_kind· a) = refl
  by_arity-0 (pair· i j) = refl

  pub by_arity-1 : {u t : Sort} (b : Unary u t) (x : Expr u) → by_arity P leaf one two (build1 b x) ≡ one u t b x (by_arity P leaf one two x)
  by_arity-1 b x = (alike-1 P leaf one two label arrow_kind b x).0

  pub by_arity-2 : {u v t : Sort} (b : Binary u v t) (x : Expr u) (y : Expr v) → by_arity P leaf one two (build2 b x y) ≡ two u v t b x y (by_arity P leaf one two x) (by_arity P leaf one two y)
  by_arity-2 b x y = (alike-2 P leaf one two label arrow_kind b x y).0

module _ (f : ℕ → Expr node) (h : ℕ → Expr arrow) where
  pub substitute-1 : {u t : Sort} (b : Unary u t) (x : Expr u) → substitute f h (build1 b x) ≡ build1 b (substitute f h x)
  substitute-1 b x = (alike-1 (λ s e. Expr s) (λ s. build0) (λ u t b x y. build1 b y) (λ u v t b x y z w. build2 b z w) f h b x).1

  pub substitute-2 : {u v t : Sort} (b : Binary u v t) (x : Expr u) (y : Expr v) → substitute f h (build2 b x y) ≡ build2 b (substitute f h x) (substitute f h y)
  substitute-2 b x y = (alike-2 (λ s e. Expr s) (λ s. build0) (λ u t b x y. build1 b y) (λ u v t b x y z w. build2 b z w) f h b x y).1

-- A term is in range exactly when the numbers of its first code and its operands are.
module _ (r : Ranges) where
  abbrev pub Fit : List (Kind × ℕ) → Type 0
  Fit = All (λ n. T (fits r n.0 n.1))

  pub range-0 : {s : Sort} (b : Nullary s) → InRange r (build0 b) ↔ Fit (numbers0 b)
  unfolding InRange build0
  range-0 all· = (λ q. tt, λ q. tt)
  range-0 none· = (λ q. tt, λ q. tt)
  range-0 (label· k) = (λ q. (q, tt), λ q. q.0)
  range-0 (nominal· i) = (λ q. (q, tt), λ q. q.0)
  range-0 (arrow_kind· a) = (λ q. (q, tt), λ q. q.0)
  range-0 (pair· i j) = (λ q. (q.0, (q.1, tt)), λ q. (q.0, q.1.0))

  pub range-1 : {u t : Sort} (b : Unary u t) (x : Expr u) → InRange r (build1 b x) ↔ (Fit (numbers1 b) × InRange r x)
  unfolding InRange build1
  range-1 complement· x = (λ q. (tt, q), λ q. q.1)
  range-1 reversed· x = (λ q. (tt, q), λ q. q.1)
  range-1 (node_in· i) x = (λ q. ((q.0, tt), q.1), λ q. (q.0.0, q.1))
  range-1 (pair_in· i j) x = (λ q. ((q.0, (q.1, tt)), q.2), λ q. (q.0.0, q.0.1.0, q.1))
  range-1 not_rule· x = (λ q. (tt, q), λ q. q.1)

  pub range-2 : {u v t : Sort} (b : Binary u v t) (x : Expr u) (y : Expr v) → InRange r (build2 b x y) ↔ (Fit (numbers2 b) × (InRange r x × InRange r y))
  unfolding InRange build2
  range-2 and· x y = (λ q. (tt, q), λ q. q.1)
  range-2 or· x y = (λ q. (tt, q), λ q. q.1)
  range-2 some· x y = (λ q. (tt, q), λ q. q.1)
  range-2 every· x y = (λ q. (tt, q), λ q. q.1)
  range-2 (at_least· m) x y = (λ q. ((q.0, tt), (q.1, q.2)), λ q. (q.0.0, q.1.0, q.1.1))
  range-2 (at_most· m) x y = (λ q. ((q.0, tt), (q.1, q.2)), λ q. (q.0.0, q.1.0, q.1.1))
  range-2 union· x y = (λ q. (tt, q), λ q. q.1)
  range-2 common· x y = (λ q. (tt, q), λ q. q.1)
  range-2 minus· x y = (λ q. (tt, q), λ q. q.1)
  range-2 ending_in· x y = (λ q. (tt, q), λ q. q.1)
  range-2 sub_nodes· x y = (λ q. (tt, q), λ q. q.1)
  range-2 sub_arrows· x y = (λ q. (tt, q), λ q. q.1)
  range-2 both· x y = (λ q. (tt, q), λ q. q.1)
  range-2 either· x y = (λ q. (tt, q), λ q. q.1)

-- A term's value depends only on its operands' values, also on a graph with other labels and arrows.
module _ (g : Graph) (labelled : ℕ → Nodes) (joined : ℕ → Pairs) where
  abbrev other : Graph
  other = record { n = g.n; in_use = g.in_use; labelled = labelled; joined = joined }

  pub value-1 : {u t : Sort} (b : Unary u t) (x y : Expr u) → value g x ≡ value other y → value g (build1 b x) ≡ value other (build1 b y)
  unfolding value build1 is_node
  value-1 complement· x y p = λ t i. is_node g i && not (p t i)
  value-1 reversed· x y p = λ t i j. p t j i
  value-1 (node_in· i) x y p = λ t. p t i
  value-1 (pair_in· i j) x y p = λ t. p t i j
  value-1 not_rule· x y p = λ t. not (p t)

  pub value-2 : {u v t : Sort} (b : Binary u v t) (x y : Expr u) (z w : Expr v) → value g x ≡ value other y → value g z ≡ value other w → value g (build2 b x z) ≡ value other (build2 b y w)
  unfolding value build2 is_node
  value-2 and· x y z w p q = λ t i. p t i && q t i
  value-2 or· x y z w p q = λ t i. p t i || q t i
  value-2 some· x y z w p q = λ t i. any_below g.n (λ j. p t i j && q t j)
  value-2 every· x y z w p q = λ t i. is_node g i && all_below g.n (λ j. implies (p t i j) (q t j))
  value-2 (at_least· m) x y z w p q = λ t i. is_node g i && leb m (count_below g.n (λ j. p t i j && q t j))
  value-2 (at_most· m) x y z w p q = λ t i. is_node g i && leb (count_below g.n (λ j. p t i j && q t j)) m
  value-2 union· x y z w p q = λ t i j. p t i j || q t i j
  value-2 common· x y z w p q = λ t i j. p t i j && q t i j
  value-2 minus· x y z w p q = λ t i j. p t i j && not (q t i j)
  value-2 ending_in· x y z w p q = λ t i j. p t i j && q t j
  value-2 sub_nodes· x y z w p q = λ t. all_below g.n (λ i. implies (p t i) (q t i))
  value-2 sub_arrows· x y z w p q = λ t. all_below g.n (λ i. all_below g.n (λ j. implies (p t i j) (q t i j)))
  value-2 both· x y z w p q = λ t. p t && q t
  value-2 either· x y z w p q = λ t. p t || q t
