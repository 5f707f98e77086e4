-- What books and edits in words promise, on the bytes of the calls. proofs/Words proves it.
use Rattle.std.specs.Prelude.{◌≡◌, false, List, [], ◌∷◌, ◌++◌, ◌⊎◌, ℕ, suc, ◌≤◌, ◌<◌, length, take, drop}
use Rattle.answer.specs.Asked.{Asked, passed, refused}
use Rattle.logic.specs.Lists.{All}
use Rattle.logic.specs.Limits.{Kind}
use Rattle.logic.specs.Syntax.{Expr, rule, Edit}
use Rattle.text.specs.Code.{code, book_code}
use Rattle.text.specs.Reading.{most_rules}
use Rattle.text.specs.Questions.{ask_book, ask_first, ask_edit}
use Rattle.names.specs.Token.{Token, found}
use Rattle.names.specs.Scan.{Placed, tokens_of, tokens}
use Rattle.names.specs.Names.{Naming, Entry, name_in, unnamed, count_of, kind_of, ask_names}
use Rattle.notation.specs.Spell.{spell, Used, uses}
use Rattle.notation.specs.Faults.{Spelled, SpelledBook, SpelledEdit, roomier, Begun, WrongAt, FirstWrong}
use Rattle.notation.specs.Words.{word_limits, rule_limits, book_goals, edit_goals, book_words, edit_words, rule_words, parse_text, ask_book_to_words, ask_edit_to_words, ask_rule_to_words, read_rule, ask_book_from_words, ask_edit_from_words, rule_in_words_def}

-- The words of a rule are read back, under the limits of a carried rule.
pub record RuleComesBack (table text words : List ℕ) : Type 0 where
  pub names : List Entry
  pub table_passes : ask_names table ≡ passed names
  pub K : Expr rule
  pub is_first : ask_first rule_limits (take rule_limits.longest text) ≡ passed K
  pub comes_back : read_rule (name_in names) words ≡ passed (code K)

-- What is read passes the questions of a book, or of an edit, and the tokens of the words are exactly those of its spelling.
pub record IsBook (table words book : List ℕ) : Type 0 where
  pub names : List Entry
  pub table_passes : ask_names table ≡ passed names
  pub rules : List (Expr rule)
  pub passes : ask_book word_limits book ≡ passed rules
  pub same_tokens : tokens_of (tokens words) ≡ spell (name_in names) book book_goals most_rules

pub record IsEdit (table words edit : List ℕ) : Type 0 where
  pub names : List Entry
  pub table_passes : ask_names table ≡ passed names
  pub what : Edit
  pub passes : ask_edit word_limits edit ≡ passed what
  pub same_tokens : tokens_of (tokens words) ≡ spell (name_in names) edit edit_goals 0

-- Codes have words that are printed where there is room for them, and that are read back as these codes.
pub record HasWords (print read : List ℕ → (room : ℕ) → Asked (List ℕ)) (codes : List ℕ) : Type 0 where
  pub words : List ℕ
  pub printed : (room : ℕ) → length words ≤ room → print codes room ≡ passed words
  pub read_back : (room : ℕ) → length codes ≤ room → read words room ≡ passed codes

-- Two tables give the same names to everything used here.
pub record SameNames (table table' : List ℕ) (used : List Used) : Type 0 where
  pub names : List Entry
  pub table_passes : ask_names table ≡ passed names
  pub names' : List Entry
  pub table_passes' : ask_names table' ≡ passed names'
  pub same : All (λ u. name_in names u.kind u.number ≡ name_in names' u.kind u.number) used

-- A fault in words, under a table that passes: the place is that of the first wrong token.
pub record FaultOf (S : Naming → Spelled) (table words : List ℕ) (p : ℕ) : Type 0 where
  pub names : List Entry
  pub table_passes : ask_names table ≡ passed names
  pub first_wrong : FirstWrong (S (name_in names)) words p

-- Tokens that form a table, and its text.
pub record TableOf (table : List ℕ) (ts : List Token) : Type 0 where
  pub names : List Entry
  pub passes : ask_names table ≡ passed names
  pub tokens_are : tokens_of (tokens table) ≡ ts

-- Entries, then a sort whose numbers they have all named: no entry can begin so, but the token is not wrong before a number is read.
pub record AllNamed (ts : List Token) : Type 0 where
  pub table : List ℕ
  pub entries : List Token
  pub sort : Token
  pub is : ts ≡ entries ++ sort ∷ []
  pub table_is : TableOf table entries
  pub kind : Kind
  pub is_sort : kind_of sort ≡ found kind
  pub all_named : (x : ℕ) → x < count_of kind → unnamed table_is.names kind x ≡ false

-- The place of 63. It is that of a token up to which the tokens do not begin a table, or the text's end where they are not a table; the tokens before it
-- begin one, or everything is named.
pub record WrongTable (table : List ℕ) (p : ℕ) : Type 0 where
  pub before : List Placed
  pub rest : List Placed
  pub is : tokens table ≡ before ++ rest
  pub begun : Begun (λ l. TableOf) (tokens_of before) ⊎ AllNamed (tokens_of before)
  pub wrong : WrongAt (λ l. TableOf) (length table) before rest p

-- The refusals of a call that reads words; `parsed` is what the words stand for, whatever its length, and `last` is its last number.
pub data ReadingRefused (table words : List ℕ) (parsed : Naming → Asked (List ℕ)) (last room q p : ℕ) : Type 0 where
  wrong_table : ask_names table ≡ refused q p → q ≡ 63 → p ≤ length table → ReadingRefused table words parsed last room q p
  wrong_words : {names : List Entry} → ask_names table ≡ passed names → parsed (name_in names) ≡ refused q p → 64 ≤ q → q ≤ last → p ≤ length words → ReadingRefused table words parsed last room q p
  too_long : {names : List Entry} {codes : List ℕ} → ask_names table ≡ passed names → parsed (name_in names) ≡ passed codes → 4096 < length codes → q ≡ 70 → p ≡ length codes
      → ReadingRefused table words parsed last room q p
  no_room : {names : List Entry} {codes : List ℕ} → ask_names table ≡ passed names → parsed (name_in names) ≡ passed codes → length codes ≤ 4096 → room < length codes → q ≡ 33 → p ≡ length codes
      → ReadingRefused table words parsed last room q p

-- And of a call that prints: `ask` are the questions of the codes, with their numbers; `printed` is the words of their result.
pub data PrintingRefused {A : Type 0} (table : List ℕ) (ask : Asked A) (from to : ℕ) (printed : Naming → A → List ℕ) (room q p : ℕ) : Type 0 where
  wrong_table : ask_names table ≡ refused q p → q ≡ 63 → p ≤ length table → PrintingRefused table ask from to printed room q p
  wrong_codes : {names : List Entry} → ask_names table ≡ passed names → ask ≡ refused q p → from ≤ q → q ≤ to → PrintingRefused table ask from to printed room q p
  no_room : {names : List Entry} {what : A} → ask_names table ≡ passed names → ask ≡ passed what → room < length (printed (name_in names) what) → q ≡ 33 → p ≡ length (printed (name_in names) what)
      → PrintingRefused table ask from to printed room q p

-- A token stands at this place.
pub record TokenAt (words : List ℕ) (p : ℕ) : Type 0 where
  pub before : List Placed
  pub t : Placed
  pub rest : List Placed
  pub is : tokens words ≡ before ++ t ∷ rest
  pub place_is : t.place ≡ p

-- The place p of rule i in the words of a book: the words before it are read as the rules before it, the rest as the other rules.
pub record RuleStandsAt (table words : List ℕ) (rules : List (Expr rule)) (room i p : ℕ) : Type 0 where
  pub before_it : ask_book_from_words table (take p words) room ≡ passed (book_code (take i rules))
  pub from_it : ask_book_from_words table (drop p words) room ≡ passed (book_code (drop i rules))
  pub there : i < length rules → TokenAt words p
  pub not_there : length rules ≤ i → p ≡ length words

-- A token stands at p, and the words before it are i rules, whatever follows, and however long their codes are.
pub record RulesBefore (table words : List ℕ) (i p : ℕ) : Type 0 where
  pub token_at : TokenAt words p
  pub names : List Entry
  pub table_passes : ask_names table ≡ passed names
  pub codes : List ℕ
  pub before_it : parse_text word_limits (name_in names) (take p words) book_goals most_rules ≡ passed codes
  pub rules : List (Expr rule)
  pub rules_are : ask_book (roomier (length codes)) codes ≡ passed rules
  pub many : length rules ≡ i

pub record WordPromises : Type 0 where
  -- Under a table that passes, every book and every edit within the limits has words.
  pub book_has_words : (table book : List ℕ) (names : List Entry) (rules : List (Expr rule)) → ask_names table ≡ passed names → ask_book word_limits book ≡ passed rules
      → HasWords (ask_book_to_words table) (ask_book_from_words table) book
  pub edit_has_words : (table edit : List ℕ) (names : List Entry) (what : Edit) → ask_names table ≡ passed names → ask_edit word_limits edit ≡ passed what
      → HasWords (ask_edit_to_words table) (ask_edit_from_words table) edit
  -- What is printed is read back to the same bytes.
  pub book_comes_back : (table book words : List ℕ) (room enough : ℕ) → ask_book_to_words table book room ≡ passed words → length book ≤ enough → ask_book_from_words table words enough ≡ passed book
  pub edit_comes_back : (table edit words : List ℕ) (room enough : ℕ) → ask_edit_to_words table edit room ≡ passed words → length edit ≤ enough → ask_edit_from_words table words enough ≡ passed edit
  pub rule_comes_back : (table text words : List ℕ) (room : ℕ) → ask_rule_to_words table text room ≡ passed words → RuleComesBack table text words
  -- What is read is a book, or an edit, spelled by the tokens of the words.
  pub read_is_book : (table words book : List ℕ) (room : ℕ) → ask_book_from_words table words room ≡ passed book → IsBook table words book
  pub read_is_edit : (table words edit : List ℕ) (room : ℕ) → ask_edit_from_words table words room ≡ passed edit → IsEdit table words edit
  -- Two texts that are read to the same codes differ only in layout and comments.
  pub one_spelling_of_a_book : (table words words' book : List ℕ) (room room' : ℕ)
      → ask_book_from_words table words room ≡ passed book → ask_book_from_words table words' room' ≡ passed book → tokens_of (tokens words) ≡ tokens_of (tokens words')
  pub one_spelling_of_an_edit : (table words words' edit : List ℕ) (room room' : ℕ)
      → ask_edit_from_words table words room ≡ passed edit → ask_edit_from_words table words' room' ≡ passed edit → tokens_of (tokens words) ≡ tokens_of (tokens words')
  -- Printing what was read, and reading it, changes nothing.
  pub book_normal : (table words book : List ℕ) (room : ℕ) → ask_book_from_words table words room ≡ passed book → HasWords (ask_book_to_words table) (ask_book_from_words table) book
  pub edit_normal : (table words edit : List ℕ) (room : ℕ) → ask_edit_from_words table words room ≡ passed edit → HasWords (ask_edit_to_words table) (ask_edit_from_words table) edit
  -- The place of a fault, 64 to 69, is that of the first token up to which the tokens do not begin the words of a book (or edit) within the limits.
  pub book_fault : (table words : List ℕ) (room q p : ℕ) → ask_book_from_words table words room ≡ refused q p → 64 ≤ q → q ≤ 69 → FaultOf SpelledBook table words p
  pub edit_fault : (table words : List ℕ) (room q p : ℕ) → ask_edit_from_words table words room ≡ refused q p → 64 ≤ q → q ≤ 69 → FaultOf SpelledEdit table words p
  -- 63: the table is wrong; the place is its first wrong token from left to right, or its length where one is missing.
  pub table_fault : (table : List ℕ) (q p : ℕ) → ask_names table ≡ refused q p → (q ≡ 63) × (p ≤ length table) × WrongTable table p
  -- There are no other refusals. Reading: 63; 64 to 69 (69 only for a book), at a place of the words, their end included; 70 where the codes would be longer
  -- than 4,096 bytes, and 33: place their length.
  pub book_reading : (table words : List ℕ) (room q p : ℕ) → ask_book_from_words table words room ≡ refused q p
      → ReadingRefused table words (λ name. parse_text word_limits name words book_goals most_rules) 69 room q p
  pub edit_reading : (table words : List ℕ) (room q p : ℕ) → ask_edit_from_words table words room ≡ refused q p
      → ReadingRefused table words (λ name. parse_text word_limits name words edit_goals 0) 68 room q p
  -- Printing: 63; 11 to 16 for a book, 21 to 26 for an edit, 12 to 15 for the first rule of a text; 33, place the length of the words.
  pub book_printing : (table book : List ℕ) (room q p : ℕ) → ask_book_to_words table book room ≡ refused q p → PrintingRefused table (ask_book word_limits book) 11 16 (λ name rules. book_words name book) room q p
  pub edit_printing : (table edit : List ℕ) (room q p : ℕ) → ask_edit_to_words table edit room ≡ refused q p → PrintingRefused table (ask_edit word_limits edit) 21 26 (λ name what. edit_words name edit) room q p
  pub rule_printing : (table text : List ℕ) (room q p : ℕ) → ask_rule_to_words table text room ≡ refused q p
      → PrintingRefused table (ask_first rule_limits (take rule_limits.longest text)) 12 15 (λ name K. rule_words name (code K)) room q p
  -- Where a rule's first word stands in the words of a book; the words' length where there is none.
  pub rule_in_words : (table words book : List ℕ) (rules : List (Expr rule)) (room i : ℕ) → ask_book_from_words table words room ≡ passed book → ask_book word_limits book ≡ passed rules
      → RuleStandsAt table words rules room i (rule_in_words_def table words i)
  -- In any words it is the token before which exactly the earlier rules stand, of the 32 that a book may have, and later faults do not matter: such a token is
  -- the place, and any place except the words' length is such a token's; so it is the length where an earlier rule cannot be read, or the table is wrong.
  pub rule_placed : (table words : List ℕ) (i p : ℕ) → i < most_rules → RulesBefore table words i p → rule_in_words_def table words i ≡ p
  pub rules_before : (table words : List ℕ) (i : ℕ) → rule_in_words_def table words i < length words → (i < most_rules) × RulesBefore table words i (rule_in_words_def table words i)
  pub not_after : (table words : List ℕ) (i : ℕ) → rule_in_words_def table words i ≤ length words
  -- Whatever follows the first byte of that token, the place is the same.
  pub later_words : (table words tail : List ℕ) (i : ℕ) → rule_in_words_def table words i < length words
      → rule_in_words_def table (take (suc (rule_in_words_def table words i)) words ++ tail) i ≡ rule_in_words_def table words i
  -- What is printed with one table is read with another that has the same names for what it uses.
  pub book_by_another : (table table' book words : List ℕ) (room enough : ℕ) → SameNames table table' (uses book book_goals most_rules) → ask_book_to_words table book room ≡ passed words
      → length book ≤ enough → ask_book_from_words table' words enough ≡ passed book
  pub edit_by_another : (table table' edit words : List ℕ) (room enough : ℕ) → SameNames table table' (uses edit edit_goals 0) → ask_edit_to_words table edit room ≡ passed words → length edit ≤ enough
      → ask_edit_from_words table' words enough ≡ passed edit
