-- Words in slots of one width: the first byte of a slot is the length of its word, which follows.
use Rattle.std.specs.Prelude.{List, ◌∷◌, ◌++◌, ℕ, ◌+◌, ◌*◌, ◌≤◌, ◌<◌, length, get_or, take, drop, Option, Some, None}
use Rattle.names.specs.Token.{Token, Found, found, absent}

-- The word in a slot.
unfoldable pub slot_at : (width : ℕ) → List ℕ → ℕ → Token
slot_at width table i = take (get_or table (width * i) 0) (drop (width * i + 1) table)

-- The table has this many slots, and no word is longer than its slot.
pub record Slots (width count : ℕ) (table : List ℕ) : Type 0 where
  pub room : width * count ≤ length table
  pub short : (i : ℕ) → i < count → get_or table (width * i) 0 < width

-- The table with a word put into a slot.
unfoldable pub put_slot_def : (width : ℕ) → List ℕ → ℕ → Token → List ℕ
put_slot_def width table i word = take (width * i) table ++ (length word ∷ (word ++ drop (width * i + 1 + length word) table))

-- What was found, as the code has it.
abbrev pub found_option : {A : Type 0} → Found A → Option A
found_option (found x) = Some x
found_option absent = None
