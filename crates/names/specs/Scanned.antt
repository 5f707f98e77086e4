-- What the scanner's functions say about the tokens from a place on.
use Rattle.std.specs.Prelude.{◌≡◌, false, List, [], ◌∷◌, ℕ, ◌-◌, ◌≤◌, ◌<◌, eqb, length, get_or, take, drop}
use Rattle.names.specs.Scan.{Placed, is_blank_def, between, comment, scan}

-- The bytes from one place of a text to another; the tokens from a place on.
abbrev pub slice : List ℕ → (from to : ℕ) → List ℕ
slice text from to = take (to - from) (drop from text)

abbrev pub tokens_from : List ℕ → (at : ℕ) → List Placed
tokens_from text at = scan (drop at text) between at

-- r is the end of the comment.
pub record LineEnded (text : List ℕ) (at r : ℕ) : Type 0 where
  pub same : scan (drop at text) comment at ≡ tokens_from text r
  pub on : at ≤ r
  pub inside : r ≤ length text

-- r is after blanks and comments.
pub record Skipped (text : List ℕ) (at r : ℕ) : Type 0 where
  pub same : tokens_from text at ≡ tokens_from text r
  pub on : at ≤ r
  pub inside : r ≤ length text
  pub no_blank : r < length text → is_blank_def (get_or text r 0) ≡ false
  pub no_hash : r < length text → eqb (get_or text r 0) 0x23 ≡ false

-- r is the end of the word.
pub record WordEnded (text : List ℕ) (from r : ℕ) : Type 0 where
  pub same : tokens_from text from ≡ record { place = from; token = slice text from r } ∷ tokens_from text r
  pub forward : from < r
  pub inside : r ≤ length text

-- The next token is from `from` to `to`; both are the text's end if there is none.
pub record Next (text : List ℕ) (at from to : ℕ) : Type 0 where
  pub ended : from ≡ length text → tokens_from text at ≡ []
  pub there : from < length text → tokens_from text at ≡ record { place = from; token = slice text from to } ∷ tokens_from text to
  pub on : at ≤ from
  pub in_order : from ≤ to
  pub forward : from < length text → from < to
  pub inside : to ≤ length text
