-- The first wrong token in words.
use Rattle.std.specs.Prelude.{◌≡◌, List, [], ◌∷◌, ◌++◌, ℕ, ◌+◌, length}
use Rattle.answer.specs.Asked.{passed}
use Rattle.logic.specs.Syntax.{Expr, rule, Edit}
use Rattle.text.specs.Reading.{Limits, most_rules}
use Rattle.text.specs.Questions.{ask_book, ask_edit}
use Rattle.names.specs.Token.{Token}
use Rattle.names.specs.Scan.{Placed, tokens_of, tokens}
use Rattle.names.specs.Names.{Naming}
use Rattle.notation.specs.Spell.{spell}
use Rattle.notation.specs.Words.{word_limits, book_goals, edit_goals}

-- Tokens that spell a book, or an edit, within limits.
abbrev pub Spelled : Type 1
Spelled = Limits → (bytes : List ℕ) → List Token → Type 0

pub record SpelledBook (name : Naming) (l : Limits) (bytes : List ℕ) (ts : List Token) : Type 0 where
  pub rules : List (Expr rule)
  pub passes : ask_book l bytes ≡ passed rules
  pub tokens_are : spell name bytes book_goals most_rules ≡ ts

pub record SpelledEdit (name : Naming) (l : Limits) (bytes : List ℕ) (ts : List Token) : Type 0 where
  pub what : Edit
  pub passes : ask_edit l bytes ≡ passed what
  pub tokens_are : spell name bytes edit_goals 0 ≡ ts

-- Limits with two levels more, so that anything begun can be completed (a rule at the last level has no room for its operands), and no limit on bytes.
abbrev pub roomier : (size : ℕ) → Limits
roomier size = record { longest = size; deepest = word_limits.deepest + 2; numbers = word_limits.numbers }

-- Some words begin with these tokens.
pub record Begun (S : Spelled) (ts : List Token) : Type 0 where
  pub more : List Token
  pub bytes : List ℕ
  pub spelled : S (roomier (length bytes)) bytes (ts ++ more)

-- The place is that of a token with which the tokens so far begin no words; or the text's end, if all tokens together are not words.
abbrev pub WrongAt : Spelled → (end : ℕ) → (before rest : List Placed) → (p : ℕ) → Type 0
WrongAt S end before [] p = (p ≡ end) × ((bytes : List ℕ) → S word_limits bytes (tokens_of before) → ⊥)
WrongAt S end before (t ∷ rest) p = (p ≡ t.place) × ((bytes : List ℕ) (more : List Token) → S word_limits bytes (tokens_of before ++ t.token ∷ more) → ⊥)

-- It is the first such place: the tokens before it begin some words, given two levels more.
pub record FirstWrong (S : Spelled) (words : List ℕ) (p : ℕ) : Type 0 where
  pub before : List Placed
  pub rest : List Placed
  pub is : tokens words ≡ before ++ rest
  pub begun : Begun S (tokens_of before)
  pub wrong : WrongAt S (length words) before rest p
