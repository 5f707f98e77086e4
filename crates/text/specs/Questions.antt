-- The questions about a book, the first rule of a text, and an edit: 11 to 16, 11 to 15, 21 to 26. Also where each rule of a book starts.
use Rattle.std.specs.Prelude.{List, [], ◌∷◌, ℕ, zero, suc, ◌+◌, leb, length}
use Rattle.answer.specs.Asked.{Asked, passed, refused, ◌>>=◌, ◌>>◌, is, after}
use Rattle.logic.specs.Syntax.{Expr, rule, Edit}
use Rattle.logic.specs.Limits.{max_nodes}
use Rattle.text.specs.Code.{code}
use Rattle.text.specs.Part.{Part}
pub use Rattle.text.specs.Reading.{most_rules}
use Rattle.text.specs.Reading.{Limits, text_limits, Want, Thing, expr, edit, Fault, missing, wrong_sort, too_deep, out_of_range, Read, got, fault, read_as}

-- The number of a fault: 12 to 15 in a book (base 10), 22 to 25 in an edit (base 20).
abbrev pub fault_number : ℕ → Fault → ℕ
fault_number base missing = base + 2
fault_number base wrong_sort = base + 3
fault_number base too_deep = base + 4
fault_number base out_of_range = base + 5

-- What is read at the start of a text, whatever follows.
unfoldable pub first : {A : Type 0} → Read A → Asked A
first (got a rest p) = passed a
first (fault why p) = refused (fault_number 10 why) p

-- What is read, if no bytes follow; else 16 or 26.
unfoldable pub whole : {A : Type 0} (base : ℕ) → Read A → Asked A
whole base (got a [] p) = passed a
whole base (got a (x ∷ t) p) = refused (base + 6) p
whole base (fault why p) = refused (fault_number base why) p

module _ (l : Limits) where
  -- The rules of a text, at most m of them: 12 to 15 for each, and 16 before one too many.
  unfoldable pub read_rules : (m : ℕ) → List ℕ → ℕ → Asked (List (Expr rule))
  read_rules zero [] at = passed []
  read_rules zero (c ∷ t) at = refused 16 at
  read_rules (suc m) [] at = passed []
  read_rules (suc m) (c ∷ t) at =
      elim (read_as l (expr rule) (c ∷ t) at) [
        | got K rest p ↦ read_rules m rest p >>= (λ book. passed (K ∷ book))
        | fault why p ↦ refused (fault_number 10 why) p
      ]

  -- The place after i rules of a text that begins at `at`; the text's end if they cannot be read.
  unfoldable pub rules_end : (i : ℕ) → List ℕ → ℕ → ℕ
  rules_end zero t at = at
  rules_end (suc i) t at = elim (read_as l (expr rule) t at) [ got K rest p ↦ rules_end i rest p | fault why p ↦ at + length t ]

  -- Where rule i of a text, from 0, starts: after i rules.
  unfoldable pub rule_start_def : (i : ℕ) → List ℕ → ℕ
  rule_start_def i t = rules_end i t 0

  -- A book: 11 to 16.
  unfoldable pub ask_book : List ℕ → Asked (List (Expr rule))
  ask_book t = do
    is (leb (length t) l.longest) 11 0
    read_rules most_rules t 0

  -- The first rule of a text: 11, then 12 to 15 for that rule only.
  unfoldable pub ask_first : List ℕ → Asked (Expr rule)
  ask_first t = do
    is (leb (length t) l.longest) 11 0
    first (read_as l (expr rule) t 0)

  -- One thing and nothing after it: the text's length, its bytes, and whether more follow; the place is then the first of those.
  unfoldable pub ask_one : (base : ℕ) (w : Want) → List ℕ → Asked (Thing w)
  ask_one base w t = do
    is (leb (length t) l.longest) (base + 1) 0
    whole base (read_as l w t 0)

  -- One rule: 11 to 16. An empty text is 12.
  abbrev pub ask_rule : List ℕ → Asked (Expr rule)
  ask_rule t = ask_one 10 (expr rule) t

  -- An edit: 21 to 26.
  abbrev pub ask_edit : List ℕ → Asked Edit
  ask_edit t = ask_one 20 edit t

-- Rule end, with n as 60: the questions; the bytes of the first rule, none when refused; the part of the text that holds them.
abbrev pub ask_rule_end : List ℕ → Asked (Expr rule)
ask_rule_end t = ask_first (text_limits max_nodes) t

unfoldable pub first_rule : List ℕ → List ℕ
first_rule t = after (ask_rule_end t) code []

unfoldable pub first_part : List ℕ → Part
first_part t = record { start = 0; size = length (first_rule t) }
