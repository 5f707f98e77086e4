-- The phrases, numbered: first those of nodes, then of arrows, of rules, of steps.
use Rattle.std.specs.Prelude.{◌≡◌, List, [], ◌∷◌, ◌++◌, map, ℕ, ◌+◌, ◌-◌, ◌≤◌, ◌<◌, length, get_or, replicate, Option, Some, None}
use Rattle.logic.specs.Syntax.{node, arrow, rule}
use Rattle.names.specs.Token.{Token, Found, found, absent}
use Rattle.notation.specs.Grammar.{text_end, else_word, end_word, expr, steps, Phrase, phrases}

abbrev pub phrase_count : ℕ
phrase_count = 27

-- Steps have the same phrases wherever they end.
unfoldable pub all_phrases : List Phrase
all_phrases = phrases (expr node) ++ (phrases (expr arrow) ++ (phrases (expr rule) ++ phrases (steps text_end)))

abbrev pub no_phrase : Phrase
no_phrase = record { byte = 0; word = []; items = [] }

unfoldable pub phrase_at : ℕ → Phrase
phrase_at p = get_or all_phrases p no_phrase

abbrev pub code_at : ℕ → ℕ
code_at p = (phrase_at p).byte

-- The phrases of an item that is a thing: the number of the first, and how many there are.
unfoldable pub first_of : ℕ → ℕ
first_of item = get_or (0 ∷ 9 ∷ 15 ∷ 22 ∷ 22 ∷ 22 ∷ 22 ∷ 22 ∷ 15 ∷ []) (item - 9) 0

unfoldable pub count_of : ℕ → ℕ
count_of item = get_or (9 ∷ 6 ∷ 7 ∷ 5 ∷ 5 ∷ 5 ∷ 5 ∷ 5 ∷ 7 ∷ []) (item - 9) 0

pub record InSlot (item p : ℕ) : Type 0 where
  pub a_thing : 9 ≤ item
  pub known : item < 18
  pub from : first_of item ≤ p
  pub to : p < first_of item + count_of item

-- The phrase found among those of an item, by its number, or that none is.
abbrev pub Picked : (item : ℕ) → Found Phrase → Option ℕ → Type 0
Picked item f (Some p) = (f ≡ found (phrase_at p)) × InSlot item p
Picked item f None = f ≡ absent

-- The words of the phrases, and those that end steps; each of them in a slot, padded with blanks.
unfoldable pub words : List Token
words = map (λ r. r.word) all_phrases ++ (else_word ∷ end_word ∷ [])

unfoldable pub in_slots : (longest : ℕ) → List Token → List ℕ
in_slots n [] = []
in_slots n (w ∷ ws) = (length w ∷ (w ++ replicate (n - length w) 0x20)) ++ in_slots n ws

abbrev pub slot_width : ℕ
slot_width = 11

unfoldable pub word_table : List ℕ
word_table = in_slots 10 words
