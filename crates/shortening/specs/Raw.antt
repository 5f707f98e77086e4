-- Whether two terms are equal. Terms without their sorts are one type, whose equality is decided by a derived function; the terms use that.
use Rattle.std.specs.Prelude.{ℕ, Bool, true, false}
use Rattle.std.proofs.Math.Decide.{ℕ_discrete}
use Rattle.logic.specs.Syntax.{Sort, Expr, all, none, label, nominal, complement, and, or, some, every, at_least, at_most, arrow_kind, reversed, union, common, minus, ending_in, pair, sub_nodes, sub_arrows, node_in, pair_in, both, either, not_rule}

pub data Raw : Type 0 where
  all' : Raw
  none' : Raw
  label' : (k0 : ℕ) → Raw
  nominal' : (k0 : ℕ) → Raw
  complement' : (x0 : Raw) → Raw
  and' : (x0 : Raw) → (x1 : Raw) → Raw
  or' : (x0 : Raw) → (x1 : Raw) → Raw
  some' : (x0 : Raw) → (x1 : Raw) → Raw
  every' : (x0 : Raw) → (x1 : Raw) → Raw
  at_least' : (k0 : ℕ) → (x1 : Raw) → (x2 : Raw) → Raw
  at_most' : (k0 : ℕ) → (x1 : Raw) → (x2 : Raw) → Raw
  arrow_kind' : (k0 : ℕ) → Raw
  reversed' : (x0 : Raw) → Raw
  union' : (x0 : Raw) → (x1 : Raw) → Raw
  common' : (x0 : Raw) → (x1 : Raw) → Raw
  minus' : (x0 : Raw) → (x1 : Raw) → Raw
  ending_in' : (x0 : Raw) → (x1 : Raw) → Raw
  pair' : (k0 : ℕ) → (k1 : ℕ) → Raw
  sub_nodes' : (x0 : Raw) → (x1 : Raw) → Raw
  sub_arrows' : (x0 : Raw) → (x1 : Raw) → Raw
  node_in' : (k0 : ℕ) → (x1 : Raw) → Raw
  pair_in' : (k0 : ℕ) → (k1 : ℕ) → (x2 : Raw) → Raw
  both' : (x0 : Raw) → (x1 : Raw) → Raw
  either' : (x0 : Raw) → (x1 : Raw) → Raw
  not_rule' : (x0 : Raw) → Raw
  deriving Discrete as Raw-discrete

unfoldable pub forget : {s : Sort} → Expr s → Raw
forget all = all'
forget none = none'
forget (label k) = label' k
forget (nominal k) = nominal' k
forget (complement E) = complement' (forget E)
forget (and E F) = and' (forget E) (forget F)
forget (or E F) = or' (forget E) (forget F)
forget (some R E) = some' (forget R) (forget E)
forget (every R E) = every' (forget R) (forget E)
forget (at_least k R E) = at_least' k (forget R) (forget E)
forget (at_most k R E) = at_most' k (forget R) (forget E)
forget (arrow_kind k) = arrow_kind' k
forget (reversed R) = reversed' (forget R)
forget (union R S) = union' (forget R) (forget S)
forget (common R S) = common' (forget R) (forget S)
forget (minus R S) = minus' (forget R) (forget S)
forget (ending_in R E) = ending_in' (forget R) (forget E)
forget (pair k l) = pair' k l
forget (sub_nodes E F) = sub_nodes' (forget E) (forget F)
forget (sub_arrows R S) = sub_arrows' (forget R) (forget S)
forget (node_in k E) = node_in' k (forget E)
forget (pair_in k l R) = pair_in' k l (forget R)
forget (both K L) = both' (forget K) (forget L)
forget (either K L) = either' (forget K) (forget L)
forget (not_rule K) = not_rule' (forget K)

abbrev pub holds : {A : Type 0} → Dec A → Bool
holds (yes a) = true
holds (no a) = false

-- "E E": the same term twice.
unfoldable pub same_term : {s : Sort} → Expr s → Expr s → Bool
same_term e f = holds (Raw-discrete ℕ_discrete (forget e) (forget f))
