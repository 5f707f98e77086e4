-- The eight laws of item 11 of document 02 as a table, steps, and chains of steps.
use Rattle.std.specs.Prelude.{◌≡◌, true, false, List, [], ◌∷◌, ℕ, eqb, length}
use Rattle.logic.specs.Syntax.{Sort, node, arrow, rule, Expr, all, none, label, nominal, complement, and, or, some, every, at_least, at_most, arrow_kind, reversed, union, common, minus, ending_in, pair, sub_nodes, sub_arrows, node_in, pair_in, both, either, not_rule}
use Rattle.shortening.specs.Place.{Context, put, before}

-- The first and the second operand of a code whose operands have its own sort; for any other code, the term itself.
unfoldable pub operands : {s : Sort} → Expr s → Expr s × Expr s
operands all = (all, all)
operands none = (none, none)
operands (label k) = (label k, label k)
operands (nominal k) = (nominal k, nominal k)
operands (complement E) = (E, complement E)
operands (and E F) = (E, F)
operands (or E F) = (E, F)
operands (some R E) = (some R E, some R E)
operands (every R E) = (every R E, every R E)
operands (at_least k R E) = (at_least k R E, at_least k R E)
operands (at_most k R E) = (at_most k R E, at_most k R E)
operands (arrow_kind k) = (arrow_kind k, arrow_kind k)
operands (reversed R) = (R, reversed R)
operands (union R S) = (R, S)
operands (common R S) = (R, S)
operands (minus R S) = (R, S)
operands (ending_in R E) = (ending_in R E, ending_in R E)
operands (pair k l) = (pair k l, pair k l)
operands (sub_nodes E F) = (sub_nodes E F, sub_nodes E F)
operands (sub_arrows R S) = (sub_arrows R S, sub_arrows R S)
operands (node_in k E) = (node_in k E, node_in k E)
operands (pair_in k l R) = (pair_in k l R, pair_in k l R)
operands (both K L) = (K, L)
operands (either K L) = (K, L)
operands (not_rule K) = (K, not_rule K)

abbrev pub operand1 : {s : Sort} → Expr s → Expr s
operand1 e = (operands e).0

abbrev pub operand2 : {s : Sort} → Expr s → Expr s
operand2 e = (operands e).1

-- A law: its number, its two sides, which have one variable, and how to find the variable's term in a left side (proofs/ExactSteps, `laws-found`).
pub record Law (s : Sort) : Type 0 where
  pub number : ℕ
  pub left : Expr s → Expr s
  pub right : Expr s → Expr s
  pub find : Expr s → Expr s

-- "1 05 05 E to E; 2 06 E E to E; 3 07 E E to E; 4 06 E 05 E to 02; 5 07 01 E to 01; 6 06 01 E to E; 7 27 27 K to K; 8 26 K K to K."
unfoldable pub laws : (s : Sort) → List (Law s)
laws node =
    record { number = 1; left = λ E. complement (complement E); right = λ E. E; find = λ e. operand1 (operand1 e) }
    ∷ record { number = 2; left = λ E. and E E; right = λ E. E; find = operand1 }
    ∷ record { number = 3; left = λ E. or E E; right = λ E. E; find = operand1 }
    ∷ record { number = 4; left = λ E. and E (complement E); right = λ E. none; find = operand1 }
    ∷ record { number = 5; left = λ E. or all E; right = λ E. all; find = operand2 }
    ∷ record { number = 6; left = λ E. and all E; right = λ E. E; find = operand2 }
    ∷ []
laws arrow = []
laws rule =
    record { number = 7; left = λ K. not_rule (not_rule K); right = λ K. K; find = λ e. operand1 (operand1 e) }
    ∷ record { number = 8; left = λ K. either K K; right = λ K. K; find = operand1 }
    ∷ []

-- What was made, or `unfit` if it does not fit.
pub data Made (A : Type 0) : Type 0 where
  made : A → Made A
  unfit : Made A

-- The law with this number in the table.
unfoldable pub numbered : {s : Sort} → ℕ → List (Law s) → Made (Law s)
numbered n [] = unfit
numbered n (l ∷ ls) = elim (eqb n l.number) [ true ↦ made l | false ↦ numbered n ls ]

-- "A step is a two-byte little-endian offset and a law's number in one byte"
pub record Step : Type 0 where
  pub offset : ℕ
  pub law : ℕ

-- A step leads from one term to another: at some place the left side of the law with that number, for some term as its variable,
-- becomes the right side. "The offset must be that of the code where the left side begins."
pub record Fits (x : Step) {t : Sort} (e e' : Expr t) : Type 0 where
  pub sort : Sort
  pub place : Context sort t
  pub law : Law sort
  pub number_right : numbered x.law (laws sort) ≡ made law
  pub variable : Expr sort
  pub offset_right : x.offset ≡ length (before place)
  pub from : e ≡ put place (law.left variable)
  pub to : e' ≡ put place (law.right variable)

-- A chain of fitting steps from K to L.
unfoldable pub Chain : List Step → Expr rule → Expr rule → Type 0
Chain [] K L = K ≡ L
Chain (x ∷ xs) K L = (M : Expr rule) × Fits x K M × Chain xs M L
