-- Terms grouped by how many operands their first code has: none, one or two. A definition or law that treats all codes alike has three cases instead of 25.
use Rattle.std.specs.Prelude.{List, [], ◌∷◌, ℕ}
use Rattle.logic.specs.Syntax.{Sort, node, arrow, rule, Expr, all, none, label, nominal, complement, and, or, some, every, at_least, at_most, arrow_kind, reversed, union, common, minus, ending_in, pair, sub_nodes, sub_arrows, node_in, pair_in, both, either, not_rule}
use Rattle.logic.specs.Limits.{Kind, label_number, arrow_number, node_number, least_count, most_count}

-- The codes without operands, with their numbers. The index is the sort of the term.
pub data Nullary : Sort → Type 0 where
  all· none· : Nullary node
  label· nominal· : (k : ℕ) → Nullary node
  arrow_kind· : (a : ℕ) → Nullary arrow
  pair· : (i j : ℕ) → Nullary arrow

-- The codes with one operand. The indices are the operand's sort and the term's.
pub data Unary : Sort → Sort → Type 0 where
  complement· : Unary node node
  reversed· : Unary arrow arrow
  node_in· : (i : ℕ) → Unary node rule
  pair_in· : (i j : ℕ) → Unary arrow rule
  not_rule· : Unary rule rule

-- The codes with two operands. The indices are the operands' sorts and the term's.
pub data Binary : Sort → Sort → Sort → Type 0 where
  and· or· : Binary node node node
  some· every· : Binary arrow node node
  at_least· at_most· : (m : ℕ) → Binary arrow node node
  union· common· minus· : Binary arrow arrow arrow
  ending_in· : Binary arrow node arrow
  sub_nodes· : Binary node node rule
  sub_arrows· : Binary arrow arrow rule
  both· either· : Binary rule rule rule

-- The term that a code makes from its operands.
unfoldable pub build0 : {s : Sort} → Nullary s → Expr s
build0 all· = all
build0 none· = none
build0 (label· k) = label k
build0 (nominal· i) = nominal i
build0 (arrow_kind· a) = arrow_kind a
build0 (pair· i j) = pair i j

unfoldable pub build1 : {u t : Sort} → Unary u t → Expr u → Expr t
build1 complement· x = complement x
build1 reversed· x = reversed x
build1 (node_in· i) x = node_in i x
build1 (pair_in· i j) x = pair_in i j x
build1 not_rule· x = not_rule x

unfoldable pub build2 : {u v t : Sort} → Binary u v t → Expr u → Expr v → Expr t
build2 and· x y = and x y
build2 or· x y = or x y
build2 some· x y = some x y
build2 every· x y = every x y
build2 (at_least· m) x y = at_least m x y
build2 (at_most· m) x y = at_most m x y
build2 union· x y = union x y
build2 common· x y = common x y
build2 minus· x y = minus x y
build2 ending_in· x y = ending_in x y
build2 sub_nodes· x y = sub_nodes x y
build2 sub_arrows· x y = sub_arrows x y
build2 both· x y = both x y
build2 either· x y = either x y

-- The numbers of a code, in their order, each with its kind.
abbrev pub numbers0 : {s : Sort} → Nullary s → List (Kind × ℕ)
numbers0 all· = []
numbers0 none· = []
numbers0 (label· k) = (label_number, k) ∷ []
numbers0 (nominal· i) = (node_number, i) ∷ []
numbers0 (arrow_kind· a) = (arrow_number, a) ∷ []
numbers0 (pair· i j) = (node_number, i) ∷ (node_number, j) ∷ []

abbrev pub numbers1 : {u t : Sort} → Unary u t → List (Kind × ℕ)
numbers1 complement· = []
numbers1 reversed· = []
numbers1 (node_in· i) = (node_number, i) ∷ []
numbers1 (pair_in· i j) = (node_number, i) ∷ (node_number, j) ∷ []
numbers1 not_rule· = []

abbrev pub numbers2 : {u v t : Sort} → Binary u v t → List (Kind × ℕ)
numbers2 and· = []
numbers2 or· = []
numbers2 some· = []
numbers2 every· = []
numbers2 (at_least· m) = (least_count, m) ∷ []
numbers2 (at_most· m) = (most_count, m) ∷ []
numbers2 union· = []
numbers2 common· = []
numbers2 minus· = []
numbers2 ending_in· = []
numbers2 sub_nodes· = []
numbers2 sub_arrows· = []
numbers2 both· = []
numbers2 either· = []

-- Recursion and induction over terms by the three groups.
module _ {ℓ} (P : (s : Sort) → Expr s → Type ℓ) (leaf : (s : Sort) (b : Nullary s) → P s (build0 b)) (one : (u t : Sort) (b : Unary u t) (x : Expr u) → P u x → P t (build1 b x)) (two : (u v t : Sort) (b : Binary u v t) (x : Expr u) (y : Expr v) → P u x → P v y → P t (build2 b x y)) where
  unfoldable pub by_arity : {s : Sort} (e : Expr s) → P s e
  unfolding build0 build1 build2
  by_arity all = leaf _ all·
  by_arity none = leaf _ none·
  by_arity (label k) = leaf _ (label· k)
  by_arity (nominal i) = leaf _ (nominal· i)
  by_arity (complement E) = one _ _ complement· E (by_arity E)
  by_arity (and E F) = two _ _ _ and· E F (by_arity E) (by_arity F)
  by_arity (or E F) = two _ _ _ or· E F (by_arity E) (by_arity F)
  by_arity (some R E) = two _ _ _ some· R E (by_arity R) (by_arity E)
  by_arity (every R E) = two _ _ _ every· R E (by_arity R) (by_arity E)
  by_arity (at_least m R E) = two _ _ _ (at_least· m) R E (by_arity R) (by_arity E)
  by_arity (at_most m R E) = two _ _ _ (at_most· m) R E (by_arity R) (by_arity E)
  by_arity (arrow_kind a) = leaf _ (arrow_kind· a)
  by_arity (reversed R) = one _ _ reversed· R (by_arity R)
  by_arity (union R S) = two _ _ _ union· R S (by_arity R) (by_arity S)
  by_arity (common R S) = two _ _ _ common· R S (by_arity R) (by_arity S)
  by_arity (minus R S) = two _ _ _ minus· R S (by_arity R) (by_arity S)
  by_arity (ending_in R E) = two _ _ _ ending_in· R E (by_arity R) (by_arity E)
  by_arity (pair i j) = leaf _ (pair· i j)
  by_arity (sub_nodes E F) = two _ _ _ sub_nodes· E F (by_arity E) (by_arity F)
  by_arity (sub_arrows R S) = two _ _ _ sub_arrows· R S (by_arity R) (by_arity S)
  by_arity (node_in i E) = one _ _ (node_in· i) E (by_arity E)
  by_arity (pair_in i j R) = one _ _ (pair_in· i j) R (by_arity R)
  by_arity (both K L) = two _ _ _ both· K L (by_arity K) (by_arity L)
  by_arity (either K L) = two _ _ _ either· K L (by_arity K) (by_arity L)
  by_arity (not_rule K) = one _ _ not_rule· K (by_arity K)
