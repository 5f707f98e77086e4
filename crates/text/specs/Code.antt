-- The codes of document 01 ("The code"), in prefix order: a code byte, its number bytes, its operands. Also their levels.
use Rattle.std.specs.Prelude.{List, [], ◌∷◌, ◌++◌, ℕ, suc, max}
use Rattle.logic.specs.Syntax.{Sort, rule, Expr, all, none, label, nominal, complement, and, or, some, every, at_least, at_most, arrow_kind, reversed, union, common, minus, ending_in, pair, sub_nodes, sub_arrows, node_in, pair_in, both, either, not_rule, Edit, finish, add_label, take_label, add_arrow, take_arrow, choose}
use Rattle.logic.specs.Arity.{by_arity}

unfoldable pub code : {s : Sort} → Expr s → List ℕ
code all = 0x01 ∷ []
code none = 0x02 ∷ []
code (label k) = 0x03 ∷ k ∷ []
code (nominal i) = 0x04 ∷ i ∷ []
code (complement E) = 0x05 ∷ code E
code (and E F) = 0x06 ∷ code E ++ code F
code (or E F) = 0x07 ∷ code E ++ code F
code (some R E) = 0x08 ∷ code R ++ code E
code (every R E) = 0x09 ∷ code R ++ code E
code (at_least m R E) = 0x0A ∷ m ∷ code R ++ code E
code (at_most m R E) = 0x0B ∷ m ∷ code R ++ code E
code (arrow_kind a) = 0x11 ∷ a ∷ []
code (reversed R) = 0x12 ∷ code R
code (union R S) = 0x13 ∷ code R ++ code S
code (common R S) = 0x14 ∷ code R ++ code S
code (minus R S) = 0x15 ∷ code R ++ code S
code (ending_in R E) = 0x16 ∷ code R ++ code E
code (pair i j) = 0x17 ∷ i ∷ j ∷ []
code (sub_nodes E F) = 0x21 ∷ code E ++ code F
code (sub_arrows R S) = 0x22 ∷ code R ++ code S
code (node_in i E) = 0x23 ∷ i ∷ code E
code (pair_in i j R) = 0x24 ∷ i ∷ j ∷ code R
code (both K L) = 0x25 ∷ code K ++ code L
code (either K L) = 0x26 ∷ code K ++ code L
code (not_rule K) = 0x27 ∷ code K

unfoldable pub edit_code : Edit → List ℕ
edit_code finish = 0x30 ∷ []
edit_code (add_label k E Z) = 0x31 ∷ k ∷ code E ++ edit_code Z
edit_code (take_label k E Z) = 0x32 ∷ k ∷ code E ++ edit_code Z
edit_code (add_arrow a R Z) = 0x33 ∷ a ∷ code R ++ edit_code Z
edit_code (take_arrow a R Z) = 0x34 ∷ a ∷ code R ++ edit_code Z
edit_code (choose K P Q Z) = 0x35 ∷ code K ++ edit_code P ++ edit_code Q ++ edit_code Z

-- The number of levels of an expression: its first code is level 1, an operand is one level deeper than its code.
unfoldable pub levels : {s : Sort} → Expr s → ℕ
levels e = by_arity (λ s e. ℕ) (λ s b. 1) (λ u t b x l. suc l) (λ u v t b x y l m. suc (max l m)) e

-- The number of levels of an edit: Z is at the level of its step.
unfoldable pub edit_levels : Edit → ℕ
edit_levels finish = 1
edit_levels (add_label k E Z) = max (suc (levels E)) (edit_levels Z)
edit_levels (take_label k E Z) = max (suc (levels E)) (edit_levels Z)
edit_levels (add_arrow a R Z) = max (suc (levels R)) (edit_levels Z)
edit_levels (take_arrow a R Z) = max (suc (levels R)) (edit_levels Z)
edit_levels (choose K P Q Z) = max (suc (max (levels K) (max (edit_levels P) (edit_levels Q)))) (edit_levels Z)

-- The bytes of a book: its rules, one after the other.
unfoldable pub book_code : List (Expr rule) → List ℕ
book_code [] = []
book_code (K ∷ book) = code K ++ book_code book

-- The number of levels of a book: those of its deepest rule.
unfoldable pub book_levels : List (Expr rule) → ℕ
book_levels [] = 0
book_levels (K ∷ book) = max (levels K) (book_levels book)
