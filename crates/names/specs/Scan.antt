-- The tokens of a text in words: `(`, `)`, `,`, and words, which are the longest runs of other bytes. Blanks, tabs, line feeds and carriage returns
-- separate tokens; # begins a comment up to the line feed, also directly after a word.
use Rattle.std.specs.Prelude.{Bool, true, false, ◌&&◌, ◌||◌, cond, List, [], ◌∷◌, ◌++◌, map, ℕ, suc, eqb}
use Rattle.names.specs.Token.{Token}

pub data Class : Type 0 where
  blank hash mark letter : Class

abbrev pub is_blank_def : ℕ → Bool
is_blank_def b = eqb b 0x20 || (eqb b 0x09 || (eqb b 0x0A || eqb b 0x0D))

abbrev pub is_mark_byte : ℕ → Bool
is_mark_byte b = eqb b 0x28 || (eqb b 0x29 || eqb b 0x2C)

unfoldable pub class_of : ℕ → Class
class_of b = cond (is_blank_def b) blank (cond (eqb b 0x23) hash (cond (is_mark_byte b) mark letter))

-- A token and the place of its first byte.
pub record Placed : Type 0 where
  pub place : ℕ
  pub token : Token

abbrev pub tokens_of : List Placed → List Token
tokens_of ts = map (λ p. p.token) ts

-- Where reading is: between tokens, in a comment, or in a word that began at a place.
pub data Mode : Type 0 where
  between comment : Mode
  in_word : (place : ℕ) (sofar : Token) → Mode

unfoldable pub scan : List ℕ → Mode → (at : ℕ) → List Placed
scan [] between at = []
scan [] comment at = []
scan [] (in_word p w) at = record { place = p; token = w } ∷ []
scan (b ∷ bs) between at =
    elim (class_of b) [
      | blank ↦ scan bs between (suc at)
      | hash ↦ scan bs comment (suc at)
      | mark ↦ record { place = at; token = b ∷ [] } ∷ scan bs between (suc at)
      | letter ↦ scan bs (in_word at (b ∷ [])) (suc at)
    ]
scan (b ∷ bs) comment at = elim (eqb b 0x0A) [ true ↦ scan bs between (suc at) | false ↦ scan bs comment (suc at) ]
scan (b ∷ bs) (in_word p w) at =
    elim (class_of b) [
      | blank ↦ record { place = p; token = w } ∷ scan bs between (suc at)
      | hash ↦ record { place = p; token = w } ∷ scan bs comment (suc at)
      | mark ↦ record { place = p; token = w } ∷ record { place = at; token = b ∷ [] } ∷ scan bs between (suc at)
      | letter ↦ scan bs (in_word p (w ++ b ∷ [])) (suc at)
    ]

abbrev pub tokens : List ℕ → List Placed
tokens text = scan text between 0

-- A word: one or more bytes, each of them a letter in this sense.
unfoldable pub is_letter_def : ℕ → Bool
is_letter_def b = elim (class_of b) [ blank ↦ false | hash ↦ false | mark ↦ false | letter ↦ true ]

unfoldable pub letters : List ℕ → Bool
letters [] = true
letters (b ∷ bs) = is_letter_def b && letters bs

unfoldable pub is_word_def : Token → Bool
is_word_def [] = false
is_word_def (b ∷ bs) = is_letter_def b && letters bs
