-- The rules that carry over to a joined sheet: "built only from 21, 22 and 25, in which 04 and 17 do not appear".
use Rattle.std.specs.Prelude.{List, [], ◌∷◌}
use Rattle.logic.specs.Syntax.{Sort, Expr, rule, all, none, label, nominal, complement, and, or, some, every, at_least, at_most, arrow_kind, reversed, union, common, minus, ending_in, pair, sub_nodes, sub_arrows, node_in, pair_in, both, either, not_rule}

unfoldable pub Joinable : {s : Sort} → Expr s → Type 0
Joinable all = Unit {0}
Joinable none = Unit {0}
Joinable (label k) = Unit {0}
Joinable (nominal i) = ⊥
Joinable (complement E) = Joinable E
Joinable (and E F) = Joinable E × Joinable F
Joinable (or E F) = Joinable E × Joinable F
Joinable (some R E) = Joinable R × Joinable E
Joinable (every R E) = Joinable R × Joinable E
Joinable (at_least m R E) = Joinable R × Joinable E
Joinable (at_most m R E) = Joinable R × Joinable E
Joinable (arrow_kind a) = Unit {0}
Joinable (reversed R) = Joinable R
Joinable (union R S) = Joinable R × Joinable S
Joinable (common R S) = Joinable R × Joinable S
Joinable (minus R S) = Joinable R × Joinable S
Joinable (ending_in R E) = Joinable R × Joinable E
Joinable (pair i j) = ⊥
Joinable (sub_nodes E F) = Joinable E × Joinable F
Joinable (sub_arrows R S) = Joinable R × Joinable S
Joinable (node_in i E) = ⊥
Joinable (pair_in i j R) = ⊥
Joinable (both K L) = Joinable K × Joinable L
Joinable (either K L) = ⊥
Joinable (not_rule K) = ⊥

-- Each rule of a book is such a rule.
unfoldable pub JoinableBook : List (Expr rule) → Type 0
JoinableBook [] = Unit {0}
JoinableBook (K ∷ book) = Joinable K × JoinableBook book
