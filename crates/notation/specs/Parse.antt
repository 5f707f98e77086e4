-- Reading words: the codes that tokens stand for, or the first fault and its place. 64: a token is missing. 65: the token begins nothing of the sort wanted.
-- 66: not the mark wanted. 67: not a name or count of the sort wanted, or out of range. 68: the token begins something too deep. 69: a rule too many.
use Rattle.std.specs.Prelude.{true, false, ◌&&◌, cond, List, [], ◌∷◌, ◌++◌, ℕ, zero, suc, leb}
use Rattle.answer.specs.Asked.{Asked, passed, refused}
use Rattle.logic.specs.Syntax.{node, arrow, rule}
use Rattle.logic.specs.Limits.{Kind, label_number, arrow_number, node_number, fits}
use Rattle.text.specs.Reading.{Limits}
use Rattle.names.specs.Token.{Token, same, Found, found, absent, first_below}
use Rattle.names.specs.Scan.{Placed}
use Rattle.names.specs.Names.{Naming}
use Rattle.notation.specs.Grammar.{at_else, at_end, text_end, else_word, end_word, Slot, expr, steps, Phrase, phrases, Goal, mark, number, thing, goals}

-- The bytes c, then those that are read.
unfoldable pub prefixed : List ℕ → Asked (List ℕ) → Asked (List ℕ)
prefixed c (passed bytes) = passed (c ++ bytes)
prefixed c (refused q p) = refused q p

-- What a token begins: its bytes, and what must follow.
pub data Start : Type 0 where
  starts : (bytes : List ℕ) (then : List Goal) → Start
  starts_nothing : Start

-- What begins at a level: 65, then 68; else its bytes, then those of the rest.
abbrev pub ask_start : Limits → (level place : ℕ) → Start → (rest : List Goal → Asked (List ℕ)) → Asked (List ℕ)
ask_start l d p (starts c then) rest = elim (leb d l.deepest) [ true ↦ prefixed c (rest then) | false ↦ refused 68 p ]
ask_start l d p starts_nothing rest = refused 65 p

unfoldable pub phrase_for_def : Token → List Phrase → Found Phrase
phrase_for_def t [] = absent
phrase_for_def t (r ∷ rs) = elim (same t r.word) [ true ↦ found r | false ↦ phrase_for_def t rs ]

module _ (name : Naming) (l : Limits) where
  -- The number in range that is written so, if there is one.
  unfoldable pub number_of : Kind → Token → Found ℕ
  number_of k t = first_below (λ x. fits l.numbers k x && same t (name k x)) 256

  unfoldable pub by_name_def : ℕ → Kind → Token → Start → Start
  by_name_def c k t other = elim (number_of k t) [ found x ↦ starts (c ∷ x ∷ []) [] | absent ↦ other ]

  unfoldable pub bare_start : Slot → Token → Start
  bare_start (expr node) t = by_name_def 0x03 label_number t (by_name_def 0x04 node_number t starts_nothing)
  bare_start (expr arrow) t = by_name_def 0x11 arrow_number t starts_nothing
  bare_start (expr rule) t = starts_nothing
  bare_start (steps at_else) t = cond (same t else_word) (starts (0x30 ∷ []) []) starts_nothing
  bare_start (steps at_end) t = cond (same t end_word) (starts (0x30 ∷ []) []) starts_nothing
  bare_start (steps text_end) t = starts_nothing

  unfoldable pub start : Slot → (level : ℕ) → Token → Start
  start s d t = elim (phrase_for_def t (phrases s)) [ found r ↦ starts (r.byte ∷ []) (goals s d r.items) | absent ↦ bare_start s t ]

  -- Follows the goals along the tokens, with at most m rules after them; `end` is the place after the last byte of the text.
  module _ (end : ℕ) where
    unfoldable pub parse : List Placed → List Goal → (m : ℕ) → Asked (List ℕ)
    parse [] [] m = passed []
    parse [] (mark t ∷ g) m = refused 64 end
    parse [] (number k ∷ g) m = refused 64 end
    parse [] (thing (expr s) d ∷ g) m = refused 64 end
    parse [] (thing (steps at_else) d ∷ g) m = refused 64 end
    parse [] (thing (steps at_end) d ∷ g) m = refused 64 end
    parse [] (thing (steps text_end) d ∷ g) m = elim (leb d l.deepest) [ true ↦ prefixed (0x30 ∷ []) (parse [] g m) | false ↦ refused 68 end ]
    parse (t ∷ ts) [] zero = refused 69 t.place
    parse (t ∷ ts) [] (suc m) = ask_start l 1 t.place (start (expr rule) 1 t.token) (λ then. parse ts (then ++ []) m)
    parse (t ∷ ts) (mark w ∷ g) m = elim (same t.token w) [ true ↦ parse ts g m | false ↦ refused 66 t.place ]
    parse (t ∷ ts) (number k ∷ g) m = elim (number_of k t.token) [ found x ↦ prefixed (x ∷ []) (parse ts g m) | absent ↦ refused 67 t.place ]
    parse (t ∷ ts) (thing s d ∷ g) m = ask_start l d t.place (start s d t.token) (λ then. parse ts (then ++ g) m)
