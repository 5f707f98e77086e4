-- A table of names: a text of tokens, `label 0 train`, `arrow 0 stands_at`, `node 34 T34`. What has no name in it is written `label:3`, `arrow:2`, `node:7`.
use Rattle.std.specs.Prelude.{Bool, true, false, not, ◌&&◌, ◌||◌, cond, List, [], ◌∷◌, ◌++◌, ℕ, eqb, leb, ltb, length}
use Prim.Native.String.{String}
use Rattle.answer.specs.Asked.{Asked, passed, refused, ◌>>=◌, ◌>>◌, is}
use Rattle.decimal.specs.Digits.{digits}
use Rattle.logic.specs.Limits.{Kind, label_number, arrow_number, node_number, least_count, most_count, label_count, arrow_count, max_nodes}
use Rattle.names.specs.Token.{Token, ascii, same, Found, found, absent, first_below}
use Rattle.names.specs.Scan.{Placed, is_word_def, tokens}

-- How numbers are written: labels, arrows and nodes by names, counts in decimal.
abbrev pub Naming : Type 0
Naming = Kind → ℕ → Token

-- A number below 1,000 in decimal, without leading zeros.
unfoldable pub width : ℕ → ℕ
width x = cond (ltb x 10) 1 (cond (ltb x 100) 2 3)

abbrev pub decimal : ℕ → Token
decimal x = digits (width x) x

-- How a plain name begins.
abbrev pub sort_prefix : Kind → String
sort_prefix label_number = "label:"
sort_prefix arrow_number = "arrow:"
sort_prefix node_number = "node:"
sort_prefix least_count = ""
sort_prefix most_count = ""

-- How a number without a name is written.
unfoldable pub plain : Naming
plain k x = ascii (sort_prefix k) ++ decimal x

-- An entry of the table: a number of a kind, and its name.
pub record Entry : Type 0 where
  pub kind : Kind
  pub number : ℕ
  pub name : Token

abbrev pub kind_number : Kind → ℕ
kind_number label_number = 0
kind_number arrow_number = 1
kind_number node_number = 2
kind_number least_count = 3
kind_number most_count = 4

-- Whether this is the entry for that number.
abbrev pub is_for : Entry → Kind → ℕ → Bool
is_for e k x = eqb (kind_number e.kind) (kind_number k) && eqb e.number x

-- The name that entries give, if they do; how they write a number.
unfoldable pub given : List Entry → Kind → ℕ → Found Token
given [] k x = absent
given (e ∷ es) k x = elim (is_for e k x) [ true ↦ found e.name | false ↦ given es k x ]

unfoldable pub given_or_plain : List Entry → Naming
given_or_plain es k x = elim (given es k x) [ found t ↦ t | absent ↦ plain k x ]

unfoldable pub name_in : List Entry → Naming
name_in es label_number x = given_or_plain es label_number x
name_in es arrow_number x = given_or_plain es arrow_number x
name_in es node_number x = given_or_plain es node_number x
name_in es least_count x = decimal x
name_in es most_count x = decimal x

-- The words of the notation, which cannot be names.
unfoldable pub notation_words : List Token
notation_words =
    ascii "all" ∷ ascii "none" ∷ ascii "not" ∷ ascii "and" ∷ ascii "or" ∷ ascii "some" ∷ ascii "every" ∷ ascii "at-least" ∷ ascii "at-most"
    ∷ ascii "reversed" ∷ ascii "without" ∷ ascii "to" ∷ ascii "pair" ∷ ascii "each" ∷ ascii "each-arrow" ∷ ascii "is" ∷ ascii "joined"
    ∷ ascii "mark" ∷ ascii "unmark" ∷ ascii "add" ∷ ascii "take" ∷ ascii "if" ∷ ascii "else" ∷ ascii "end" ∷ []

unfoldable pub among : Token → List Token → Bool
among t [] = false
among t (u ∷ us) = same t u || among t us

-- Whether a token begins with these bytes.
unfoldable pub begins_with : Token → Token → Bool
begins_with [] t = true
begins_with (b ∷ p) [] = false
begins_with (b ∷ p) (c ∷ t) = eqb b c && begins_with p t

-- Whether a token begins as a plain name does.
unfoldable pub begins_plain_def : Token → Bool
begins_plain_def t = begins_with (ascii "label:") t || (begins_with (ascii "arrow:") t || begins_with (ascii "node:") t)

-- The bytes of names: from 21 (hexadecimal) on, except 7F.
unfoldable pub name_bytes : Token → Bool
name_bytes [] = true
name_bytes (b ∷ t) = (leb 0x21 b && not (eqb b 0x7F)) && name_bytes t

abbrev pub longest_name : ℕ
longest_name = 64

-- Whether an entry has given this name.
unfoldable pub taken : List Entry → Token → Bool
taken [] t = false
taken (e ∷ es) t = same t e.name || taken es t

-- Whether a further entry may give this name.
unfoldable pub free_name_def : List Entry → Token → Bool
free_name_def es t = is_word_def t && (name_bytes t && (leb (length t) longest_name && (not (among t notation_words) && (not (begins_plain_def t) && not (taken es t)))))

-- Whether no entry names this number.
unfoldable pub unnamed : List Entry → Kind → ℕ → Bool
unnamed es k x = elim (given es k x) [ found t ↦ false | absent ↦ true ]

abbrev pub count_of : Kind → ℕ
count_of label_number = label_count
count_of arrow_number = arrow_count
count_of node_number = max_nodes
count_of least_count = 0
count_of most_count = 0

unfoldable pub kind_of : Token → Found Kind
kind_of t =
    cond (same t (ascii "label")) (found label_number)
    (cond (same t (ascii "arrow")) (found arrow_number)
    (cond (same t (ascii "node")) (found node_number) absent))

-- The table: entries of a sort, a number and a name. 63 for the first token that is wrong or names again; its place, or the text's end if a token is missing.
unfoldable pub ask_kind : Placed → Asked Kind
ask_kind p = elim (kind_of p.token) [ found k ↦ passed k | absent ↦ refused 63 p.place ]

unfoldable pub ask_number : List Entry → Kind → Placed → Asked ℕ
ask_number es k p = elim (first_below (λ x. same p.token (decimal x) && unnamed es k x) (count_of k)) [ found x ↦ passed x | absent ↦ refused 63 p.place ]

unfoldable pub ask_entries : (end : ℕ) → List Placed → List Entry → Asked (List Entry)
ask_entries end [] es = passed es
ask_entries end (s ∷ []) es = do
  ask_kind s
  refused 63 end
ask_entries end (s ∷ x ∷ []) es = do
  k ← ask_kind s
  ask_number es k x
  refused 63 end
ask_entries end (s ∷ x ∷ t ∷ ts) es = do
  k ← ask_kind s
  n ← ask_number es k x
  is (free_name_def es t.token) 63 t.place
  ask_entries end ts (record { kind = k; number = n; name = t.token } ∷ es)

unfoldable pub ask_names : List ℕ → Asked (List Entry)
ask_names text = ask_entries (length text) (tokens text) []
