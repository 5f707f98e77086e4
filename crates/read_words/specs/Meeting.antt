-- What a token begins if an item is wanted: nothing, or the bytes it stands for and the row of what must follow it.
use Rattle.std.specs.Prelude.{◌≡◌, Bool, true, false, cond, List, [], ◌∷◌, ℕ, ◌≤◌, ◌<◌, leb, take, Option, Some, None}
use Rattle.names.specs.Token.{Token, same, found, absent}
use Rattle.names.specs.Names.{Naming}
use Rattle.notation.specs.Grammar.{Goal, mark, number, thing}
use Rattle.notation.specs.Parse.{Start, starts, starts_nothing, number_of, bare_start, start}
use Rattle.notation.specs.Words.{word_limits}
use Rattle.keywords.specs.Rows.{slot_of, level_of, goal_of, row_goals, Items}
use Rattle.name_table.specs.NameSlots.{Holds}
use Rattle.read_words.specs.declared.Met.{Met}

-- What a token begins if this goal is wanted.
unfoldable pub begun : Naming → Goal → Token → Start
begun name (mark w) t = cond (same t w) (starts [] []) starts_nothing
begun name (number k) t = elim (number_of name word_limits k t) [ found x ↦ starts (x ∷ []) [] | absent ↦ starts_nothing ]
begun name (thing s d) t = start name word_limits s d t

-- The number of the refusal if it begins nothing.
unfoldable pub wrong_number : (item : ℕ) → ℕ
wrong_number item = cond (leb item 3) 66 (cond (leb item 8) 67 65)

-- What the code finds: at most two bytes.
abbrev pub bytes_of : Met → List ℕ
bytes_of m = take m.size (m.first ∷ m.second ∷ [])

unfoldable pub start_of : Option Met → (level : ℕ) → Start
start_of None d = starts_nothing
start_of (Some m) d = starts (bytes_of m) (row_goals m.row d)

-- A token with nothing after it; the end of steps, if it is there.
abbrev pub alone_met : (size first second : ℕ) → Met
alone_met n a b = record { size = n; first = a; second = b; row = 0 }

abbrev pub closed_met : Bool → Option Met
closed_met true = Some (alone_met 1 0x30 0)
closed_met false = None

-- What is found for an item: a row of things, which is empty after a mark, a name or a count, and at most two bytes.
pub record Fits (item : ℕ) (m : Met) : Type 0 where
  pub items : (d : ℕ) → (item ≡ 16 → d ≡ 1) → Items d m.row
  pub alone : item < 9 → m.row ≡ 0
  pub short : m.size ≤ 2

abbrev pub FitsIfMet : (item : ℕ) → Option Met → Type 0
FitsIfMet item None = Unit {0}
FitsIfMet item (Some m) = Fits item m

-- What a token begins if an item is wanted.
pub record Meets (table : List ℕ) (item : ℕ) (t : Token) (r : Option Met) : Type 0 where
  pub begins : (name : Naming) → Holds table name → (d : ℕ) → begun name (goal_of item d) t ≡ start_of r (level_of item d)
  pub fits : FitsIfMet item r

-- The same for a word that begins no phrase, if a thing is wanted: just a name, or the end of steps.
abbrev pub AloneIfMet : Option Met → Type 0
AloneIfMet None = Unit {0}
AloneIfMet (Some m) = (m.row ≡ 0) × (m.size ≤ 2)

pub record MeetsBare (table : List ℕ) (item : ℕ) (t : Token) (r : Option Met) : Type 0 where
  pub begins : (name : Naming) → Holds table name → (d : ℕ) → bare_start name word_limits (slot_of item) t ≡ start_of r d
  pub alone : AloneIfMet r
