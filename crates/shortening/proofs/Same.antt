-- `same_term` is true exactly when two terms are equal.
use mathlib.Core.Path.{◌≡◌, refl, sym, ◌∙◌, ap, ap₂, subst}
use mathlib.Core.Bool.{true}
use native.Mathlib.Decide.{ℕ_discrete}
use lib.Dec.{T}
use Rattle.logic.specs.Syntax.{Sort, node, arrow, rule, Expr, all, none, label, nominal, complement, and, or, some, every, at_least, at_most, arrow_kind, reversed, union, common, minus, ending_in, pair, sub_nodes, sub_arrows, node_in, pair_in, both, either, not_rule}
use Rattle.shortening.specs.Raw.{Raw, all', none', label', nominal', complement', and', or', some', every', at_least', at_most', arrow_kind', reversed', union', common', minus', ending_in', pair', sub_nodes', sub_arrows', node_in', pair_in', both', either', not_rule', Raw-discrete, forget, holds, same_term}

-- a raw term read at each sort: its value at its own sort, anything at the others
record Read : Type 0 where
  n : Expr node
  a : Expr arrow
  r : Expr rule

abbrev at : (s : Sort) → Read → Expr s
at node x = x.n
at arrow x = x.a
at rule x = x.r

abbrev as_node : Expr node → Read
as_node E = record { n = E; a = arrow_kind 0; r = sub_nodes all all }

abbrev as_arrow : Expr arrow → Read
as_arrow R = record { n = all; a = R; r = sub_nodes all all }

abbrev as_rule : Expr rule → Read
as_rule K = record { n = all; a = arrow_kind 0; r = K }

recall : Raw → Read
recall all' = as_node all
recall none' = as_node none
recall (label' k0) = as_node (label k0)
recall (nominal' k0) = as_node (nominal k0)
recall (complement' x0) = as_node (complement (recall x0).n)
recall (and' x0 x1) = as_node (and (recall x0).n (recall x1).n)
recall (or' x0 x1) = as_node (or (recall x0).n (recall x1).n)
recall (some' x0 x1) = as_node (some (recall x0).a (recall x1).n)
recall (every' x0 x1) = as_node (every (recall x0).a (recall x1).n)
recall (at_least' k0 x1 x2) = as_node (at_least k0 (recall x1).a (recall x2).n)
recall (at_most' k0 x1 x2) = as_node (at_most k0 (recall x1).a (recall x2).n)
recall (arrow_kind' k0) = as_arrow (arrow_kind k0)
recall (reversed' x0) = as_arrow (reversed (recall x0).a)
recall (union' x0 x1) = as_arrow (union (recall x0).a (recall x1).a)
recall (common' x0 x1) = as_arrow (common (recall x0).a (recall x1).a)
recall (minus' x0 x1) = as_arrow (minus (recall x0).a (recall x1).a)
recall (ending_in' x0 x1) = as_arrow (ending_in (recall x0).a (recall x1).n)
recall (pair' k0 k1) = as_arrow (pair k0 k1)
recall (sub_nodes' x0 x1) = as_rule (sub_nodes (recall x0).n (recall x1).n)
recall (sub_arrows' x0 x1) = as_rule (sub_arrows (recall x0).a (recall x1).a)
recall (node_in' k0 x1) = as_rule (node_in k0 (recall x1).n)
recall (pair_in' k0 k1 x2) = as_rule (pair_in k0 k1 (recall x2).a)
recall (both' x0 x1) = as_rule (both (recall x0).r (recall x1).r)
recall (either' x0 x1) = as_rule (either (recall x0).r (recall x1).r)
recall (not_rule' x0) = as_rule (not_rule (recall x0).r)

recalled : {s : Sort} (e : Expr s) → at s (recall (forget e)) ≡ e
unfolding recall forget
recalled all = refl
recalled none = refl
recalled (label k) = refl
recalled (nominal k) = refl
recalled (complement E) = ap complement (recalled E)
recalled (and E F) = ap₂ and (recalled E) (recalled F)
recalled (or E F) = ap₂ or (recalled E) (recalled F)
recalled (some R E) = ap₂ some (recalled R) (recalled E)
recalled (every R E) = ap₂ every (recalled R) (recalled E)
recalled (at_least k R E) = ap₂ (at_least k) (recalled R) (recalled E)
recalled (at_most k R E) = ap₂ (at_most k) (recalled R) (recalled E)
recalled (arrow_kind k) = refl
recalled (reversed R) = ap reversed (recalled R)
recalled (union R S) = ap₂ union (recalled R) (recalled S)
recalled (common R S) = ap₂ common (recalled R) (recalled S)
recalled (minus R S) = ap₂ minus (recalled R) (recalled S)
recalled (ending_in R E) = ap₂ ending_in (recalled R) (recalled E)
recalled (pair k l) = refl
recalled (sub_nodes E F) = ap₂ sub_nodes (recalled E) (recalled F)
recalled (sub_arrows R S) = ap₂ sub_arrows (recalled R) (recalled S)
recalled (node_in k E) = ap (node_in k) (recalled E)
recalled (pair_in k l R) = ap (pair_in k l) (recalled R)
recalled (both K L) = ap₂ both (recalled K) (recalled L)
recalled (either K L) = ap₂ either (recalled K) (recalled L)
recalled (not_rule K) = ap not_rule (recalled K)

pub same-equal : {s : Sort} (e f : Expr s) → same_term e f ≡ true → e ≡ f
unfolding same_term
same-equal {s} e f h = go (Raw-discrete ℕ_discrete (forget e) (forget f)) h where
  go : (d : Dec (forget e ≡ forget f)) → holds d ≡ true → e ≡ f
  go (yes p) h = sym (recalled e) ∙ ap (λ x. at s (recall x)) p ∙ recalled f
  go (no p) h = absurd (subst T (sym h) tt)

pub equal-same : {s : Sort} (e f : Expr s) → e ≡ f → same_term e f ≡ true
unfolding same_term
equal-same e f p = go (Raw-discrete ℕ_discrete (forget e) (forget f)) where
  go : (d : Dec (forget e ≡ forget f)) → holds d ≡ true
  go (yes q) = refl
  go (no q) = absurd (q (ap forget p))
