-- Carrying a rule back through an edit ("Carrying back" of document 01; document 004, Definition 4.1).
use Rattle.std.specs.Prelude.{List, map, ℕ}
use Rattle.logic.specs.Syntax.{Sort, node, arrow, rule, Expr, all, none, label, nominal, complement, and, or, some, every, at_least, at_most, arrow_kind, reversed, union, common, minus, ending_in, pair, sub_nodes, sub_arrows, node_in, pair_in, both, either, not_rule, Edit, finish, add_label, take_label, add_arrow, take_arrow, choose}
use Rattle.logic.specs.Steps.{update}

-- Replaces every 03 k by f k and every 11 a by h a at the same time; what is put in is not replaced inside.
unfoldable pub substitute : (f : ℕ → Expr node) (h : ℕ → Expr arrow) {s : Sort} → Expr s → Expr s
substitute f h all = all
substitute f h none = none
substitute f h (label k) = f k
substitute f h (nominal i) = nominal i
substitute f h (complement E) = complement (substitute f h E)
substitute f h (and E F) = and (substitute f h E) (substitute f h F)
substitute f h (or E F) = or (substitute f h E) (substitute f h F)
substitute f h (some R E) = some (substitute f h R) (substitute f h E)
substitute f h (every R E) = every (substitute f h R) (substitute f h E)
substitute f h (at_least m R E) = at_least m (substitute f h R) (substitute f h E)
substitute f h (at_most m R E) = at_most m (substitute f h R) (substitute f h E)
substitute f h (arrow_kind a) = h a
substitute f h (reversed R) = reversed (substitute f h R)
substitute f h (union R S) = union (substitute f h R) (substitute f h S)
substitute f h (common R S) = common (substitute f h R) (substitute f h S)
substitute f h (minus R S) = minus (substitute f h R) (substitute f h S)
substitute f h (ending_in R E) = ending_in (substitute f h R) (substitute f h E)
substitute f h (pair i j) = pair i j
substitute f h (sub_nodes E F) = sub_nodes (substitute f h E) (substitute f h F)
substitute f h (sub_arrows R S) = sub_arrows (substitute f h R) (substitute f h S)
substitute f h (node_in i E) = node_in i (substitute f h E)
substitute f h (pair_in i j R) = pair_in i j (substitute f h R)
substitute f h (both K L) = both (substitute f h K) (substitute f h L)
substitute f h (either K L) = either (substitute f h K) (substitute f h L)
substitute f h (not_rule K) = not_rule (substitute f h K)

-- Replaces every 03 k by F; replaces every 11 a by S.
unfoldable pub put_label : ℕ → Expr node → Expr rule → Expr rule
put_label k F K = substitute (update label k F) arrow_kind K

unfoldable pub put_arrow : ℕ → Expr arrow → Expr rule → Expr rule
put_arrow a S K = substitute label (update arrow_kind a S) K

-- The carried rule: K carried back through the edit. For 35, T carries through P the rule already carried through Z. Document 01 carries
-- "through P and through Q, each with its end replaced by Z"; `carry_choose` in proofs/Theorem proves that both give the same.
unfoldable pub carry : Edit → Expr rule → Expr rule
carry finish K = K
carry (add_label k E Z) K = put_label k (or (label k) E) (carry Z K)
carry (take_label k E Z) K = put_label k (and (label k) (complement E)) (carry Z K)
carry (add_arrow a R Z) K = put_arrow a (union (arrow_kind a) R) (carry Z K)
carry (take_arrow a R Z) K = put_arrow a (minus (arrow_kind a) R) (carry Z K)
carry (choose K₁ P Q Z) K = both (either (not_rule K₁) (carry P (carry Z K))) (either K₁ (carry Q (carry Z K)))

-- A book is carried rule by rule.
abbrev pub carried_book : Edit → List (Expr rule) → List (Expr rule)
carried_book Z book = map (carry Z) book

-- P with its end replaced by Z; the end is the 30 reached through the Z parts alone.
unfoldable pub followed_by : Edit → Edit → Edit
followed_by finish Z = Z
followed_by (add_label k E P) Z = add_label k E (followed_by P Z)
followed_by (take_label k E P) Z = take_label k E (followed_by P Z)
followed_by (add_arrow a R P) Z = add_arrow a R (followed_by P Z)
followed_by (take_arrow a R P) Z = take_arrow a R (followed_by P Z)
followed_by (choose K₁ P₁ Q₁ P) Z = choose K₁ P₁ Q₁ (followed_by P Z)
