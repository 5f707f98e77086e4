-- The bytes of a name, and how it may not begin.
use mathlib.Core.Path.{◌≡◌, refl, sym, ◌∙◌, ap, ap₂}
use mathlib.Core.Bool.{Bool, true, false, not, ◌&&◌, ◌||◌}
use mathlib.Core.List.{[], ◌∷◌}
use Prim.Native.Nat.{ℕ, ◌≤◌, ◌<◌}
use native.Mathlib.Omega.{arith}
use lib.Dec.{eqb, leb}
use lib.ListN.{length, drop}
use borrow.Author.Tests.{le-leb, lt-leb}
use Rattle.std.specs.List.{starts_with, list_all}
use Rattle.names.specs.Token.{Token, ascii}
use Rattle.names.specs.Scan.{is_letter_def, letters, is_word_def}
use Rattle.names.specs.Names.{name_bytes, longest_name, begins_with, begins_plain_def}
use Rattle.name_table.specs.Entries.{name_byte, well_spelled}

-- All bytes of a word, one after the other.
abbrev pub spelled : Token → Bool
spelled t = letters t && name_bytes t

both-and : (a b c d : Bool) → ((a && b) && (c && d)) ≡ ((a && c) && (b && d))
both-and true b true d = refl
both-and true true false d = refl
both-and true false false d = refl
both-and false b c d = refl

spelled-cons : (b : ℕ) (t : Token) → spelled (b ∷ t) ≡ (name_byte b && spelled t)
unfolding letters name_bytes name_byte
spelled-cons b t = both-and (is_letter_def b) (letters t) (leb 0x21 b && not (eqb b 0x7F)) (name_bytes t)

-- what a test of each byte says
pub all-spelled : (t : Token) → list_all name_byte t ≡ spelled t
unfolding letters name_bytes
all-spelled [] = refl
all-spelled (b ∷ t) = ap (name_byte b &&◌) (all-spelled t) ∙ sym (spelled-cons b t)

pub well-none : (t : Token) → length t ≡ 0 → well_spelled t ≡ false
unfolding well_spelled is_word_def
well-none [] e = refl
well-none (b ∷ t) e = absurd (omega arith)

pub well-long : (t : Token) → longest_name < length t → well_spelled t ≡ false
unfolding well_spelled
well-long t h = ap (λ z. is_word_def t && (name_bytes t && z)) (lt-leb (length t) longest_name h) ∙ none (is_word_def t) (name_bytes t)
  where
    none : (a b : Bool) → (a && (b && false)) ≡ false
    none true true = refl
    none true false = refl
    none false b = refl

pub well-by : (t : Token) → (length t ≡ 0 → ⊥) → length t ≤ longest_name → well_spelled t ≡ spelled (drop 0 t)
unfolding well_spelled is_word_def letters
well-by [] n l = absurd (n refl)
well-by (b ∷ t) n l = ap (λ z. is_word_def (b ∷ t) && (name_bytes (b ∷ t) && z)) (le-leb (length (b ∷ t)) longest_name l) ∙ ap (is_word_def (b ∷ t) &&◌) (and-true (name_bytes (b ∷ t)))
  where
    and-true : (a : Bool) → (a && true) ≡ a
    and-true true = refl
    and-true false = refl

-- A word begins with given bytes exactly when its first bytes, as many, are the same.
begins_same : (p t : Token) → starts_with eqb t p ≡ begins_with p t
unfolding begins_with
begins_same [] t = refl
begins_same (b ∷ p) [] = refl
begins_same (b ∷ p) (c ∷ t) = ap (eqb b c &&◌) (begins_same p t)

-- The beginnings of plain names, in the order of the code.
module _ (t : Token) where
  abbrev pub begins : Token → Bool
  begins p = starts_with eqb t p

  pub begins-label : true ≡ begins (ascii "label:") → true ≡ begins_plain_def t
  unfolding begins_plain_def
  begins-label e = ap (◌|| (begins_with (ascii "arrow:") t || begins_with (ascii "node:") t)) (e ∙ begins_same (ascii "label:") t)

  module _ (e : false ≡ begins (ascii "label:")) where
    pub begins-arrow : true ≡ begins (ascii "arrow:") → true ≡ begins_plain_def t
    unfolding begins_plain_def
    begins-arrow f = ap₂ (λ a b. a || (b || begins_with (ascii "node:") t)) (e ∙ begins_same (ascii "label:") t) (f ∙ begins_same (ascii "arrow:") t)

    pub begins-node : {r : Bool} → false ≡ begins (ascii "arrow:") → r ≡ begins (ascii "node:") → r ≡ begins_plain_def t
    unfolding begins_plain_def
    begins-node f g = g ∙ begins_same (ascii "node:") t ∙ ap₂ (λ a b. a || (b || begins_with (ascii "node:") t)) (e ∙ begins_same (ascii "label:") t) (f ∙ begins_same (ascii "arrow:") t)
