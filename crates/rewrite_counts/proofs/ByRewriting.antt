-- A law of terms and what they become, by the first code: it stays, with its operands rewritten, or it is a count.
use mathlib.Core.Path.{◌≡◌, refl}
use mathlib.Core.List.{[]}
use Rattle.std.specs.Prelude.{None}
use Prim.Native.Nat.{ℕ}
use Rattle.logic.specs.Syntax.{Sort, node, arrow, Expr, all, none, label, nominal, complement, and, or, some, every, at_least, at_most, arrow_kind, reversed, union, common, minus, ending_in, pair, sub_nodes, sub_arrows, node_in, pair_in, both, either, not_rule}
use Rattle.logic.specs.Arity.{Nullary, all·, none·, label·, nominal·, arrow_kind·, pair·, Unary, complement·, reversed·, node_in·, pair_in·, not_rule·, Binary, and·, or·, some·, every·, union·, common·, minus·, ending_in·, sub_nodes·, sub_arrows·, both·, either·, build0, build1, build2, numbers2}
use Rattle.text.specs.Heads.{head2}
use Rattle.rewrite_counts.specs.Rewritten.{least_rewritten, most_rewritten, rewritten}
use Rattle.rewrite_counts.specs.Trees.{head_in_place}

module _ (P : (s : Sort) → Expr s → Expr s → Type 0) (leaf : (s : Sort) (b : Nullary s) → P s (build0 b) (build0 b))
    (one : (u t : Sort) (b : Unary u t) (x x' : Expr u) → P u x x' → P t (build1 b x) (build1 b x'))
    (two : (u v t : Sort) (b : Binary u v t) → numbers2 b ≡ [] → head_in_place (head2 b) ≡ None → (x x' : Expr u) (y y' : Expr v) → P u x x' → P v y y' → P t (build2 b x y) (build2 b x' y'))
    (least : (m : ℕ) (R R' : Expr arrow) (E E' : Expr node) → P arrow R R' → P node E E' → P node (at_least m R E) (least_rewritten m R' E'))
    (most : (m : ℕ) (R R' : Expr arrow) (E E' : Expr node) → P arrow R R' → P node E E' → P node (at_most m R E) (most_rewritten m R' E')) where
  pub by_rewriting : {s : Sort} (e : Expr s) → P s e (rewritten e)
  unfolding rewritten build0 build1 build2 head_in_place head2
  by_rewriting all = leaf _ all·
  by_rewriting none = leaf _ none·
  by_rewriting (label k) = leaf _ (label· k)
  by_rewriting (nominal i) = leaf _ (nominal· i)
  by_rewriting (complement E) = one _ _ complement· E (rewritten E) (by_rewriting E)
  by_rewriting (and E F) = two _ _ _ and· refl refl E (rewritten E) F (rewritten F) (by_rewriting E) (by_rewriting F)
  by_rewriting (or E F) = two _ _ _ or· refl refl E (rewritten E) F (rewritten F) (by_rewriting E) (by_rewriting F)
  by_rewriting (some R E) = two _ _ _ some· refl refl R (rewritten R) E (rewritten E) (by_rewriting R) (by_rewriting E)
  by_rewriting (every R E) = two _ _ _ every· refl refl R (rewritten R) E (rewritten E) (by_rewriting R) (by_rewriting E)
  by_rewriting (at_least m R E) = least m R (rewritten R) E (rewritten E) (by_rewriting R) (by_rewriting E)
  by_rewriting (at_most m R E) = most m R (rewritten R) E (rewritten E) (by_rewriting R) (by_rewriting E)
  by_rewriting (arrow_kind a) = leaf _ (arrow_kind· a)
  by_rewriting (reversed R) = one _ _ reversed· R (rewritten R) (by_rewriting R)
  by_rewriting (union R S) = two _ _ _ union· refl refl R (rewritten R) S (rewritten S) (by_rewriting R) (by_rewriting S)
  by_rewriting (common R S) = two _ _ _ common· refl refl R (rewritten R) S (rewritten S) (by_rewriting R) (by_rewriting S)
  by_rewriting (minus R S) = two _ _ _ minus· refl refl R (rewritten R) S (rewritten S) (by_rewriting R) (by_rewriting S)
  by_rewriting (ending_in R E) = two _ _ _ ending_in· refl refl R (rewritten R) E (rewritten E) (by_rewriting R) (by_rewriting E)
  by_rewriting (pair i j) = leaf _ (pair· i j)
  by_rewriting (sub_nodes E F) = two _ _ _ sub_nodes· refl refl E (rewritten E) F (rewritten F) (by_rewriting E) (by_rewriting F)
  by_rewriting (sub_arrows R S) = two _ _ _ sub_arrows· refl refl R (rewritten R) S (rewritten S) (by_rewriting R) (by_rewriting S)
  by_rewriting (node_in i E) = one _ _ (node_in· i) E (rewritten E) (by_rewriting E)
  by_rewriting (pair_in i j R) = one _ _ (pair_in· i j) R (rewritten R) (by_rewriting R)
  by_rewriting (both K L) = two _ _ _ both· refl refl K (rewritten K) L (rewritten L) (by_rewriting K) (by_rewriting L)
  by_rewriting (either K L) = two _ _ _ either· refl refl K (rewritten K) L (rewritten L) (by_rewriting K) (by_rewriting L)
  by_rewriting (not_rule K) = one _ _ not_rule· K (rewritten K) (by_rewriting K)
