-- The spelling of codes: their tokens.
use Rattle.std.specs.Prelude.{true, false, List, [], ◌∷◌, ◌++◌, ℕ, zero, suc, eqb}
use Rattle.logic.specs.Syntax.{node, arrow, rule}
use Rattle.logic.specs.Limits.{Kind, label_number, arrow_number, node_number}
use Rattle.names.specs.Token.{Token, Found, found, absent}
use Rattle.names.specs.Names.{Naming}
use Rattle.notation.specs.Grammar.{at_else, at_end, text_end, else_word, end_word, Slot, expr, steps, Phrase, phrases, Goal, mark, number, thing, goals}

-- What a code byte writes before its numbers and operands, and what must follow.
pub record Opens : Type 0 where
  pub tokens : List Token
  pub then : List Goal

unfoldable pub phrase_of_def : ℕ → List Phrase → Found Phrase
phrase_of_def c [] = absent
phrase_of_def c (r ∷ rs) = elim (eqb c r.byte) [ true ↦ found r | false ↦ phrase_of_def c rs ]

-- 03, 04, 11 and 30, which do not have a phrase. In texts that pass their questions no other byte comes here.
unfoldable pub bare : Slot → ℕ → Opens
bare (expr node) c = elim (eqb c 0x03) [ true ↦ record { tokens = []; then = number label_number ∷ [] } | false ↦ record { tokens = []; then = number node_number ∷ [] } ]
bare (expr arrow) c = record { tokens = []; then = number arrow_number ∷ [] }
bare (expr rule) c = record { tokens = []; then = [] }
bare (steps at_else) c = record { tokens = else_word ∷ []; then = [] }
bare (steps at_end) c = record { tokens = end_word ∷ []; then = [] }
bare (steps text_end) c = record { tokens = []; then = [] }

unfoldable pub opens : Slot → (level : ℕ) → ℕ → Opens
opens s d c = elim (phrase_of_def c (phrases s)) [ found r ↦ record { tokens = r.word ∷ []; then = goals s d r.items } | absent ↦ bare s c ]

-- The tokens of bytes that meet the goals, with at most m rules after them.
module _ (name : Naming) where
  unfoldable pub spell : List ℕ → List Goal → (m : ℕ) → List Token
  spell [] [] m = []
  spell [] (mark t ∷ g) m = t ∷ spell [] g m
  spell [] (number k ∷ g) m = []
  spell [] (thing s d ∷ g) m = []
  spell (x ∷ bytes) [] zero = []
  spell (x ∷ bytes) [] (suc m) = (opens (expr rule) 1 x).tokens ++ spell bytes ((opens (expr rule) 1 x).then ++ []) m
  spell (x ∷ bytes) (mark t ∷ g) m = t ∷ spell (x ∷ bytes) g m
  spell (x ∷ bytes) (number k ∷ g) m = name k x ∷ spell bytes g m
  spell (x ∷ bytes) (thing s d ∷ g) m = (opens s d x).tokens ++ spell bytes ((opens s d x).then ++ g) m

-- The numbers in a text of codes, each with its kind.
pub record Used : Type 0 where
  pub kind : Kind
  pub number : ℕ

unfoldable pub uses : List ℕ → List Goal → (m : ℕ) → List Used
uses [] g m = []
uses (x ∷ bytes) [] zero = []
uses (x ∷ bytes) [] (suc m) = uses bytes ((opens (expr rule) 1 x).then ++ []) m
uses (x ∷ bytes) (mark t ∷ g) m = uses (x ∷ bytes) g m
uses (x ∷ bytes) (number k ∷ g) m = record { kind = k; number = x } ∷ uses bytes g m
uses (x ∷ bytes) (thing s d ∷ g) m = uses bytes ((opens s d x).then ++ g) m
