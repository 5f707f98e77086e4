-- The slots while a table is read: each name given so far, nothing for numbers without one, and the counts.
use Rattle.std.specs.Prelude.{◌≡◌, Bool, true, not, ◌&&◌, List, [], ◌∷◌, ◌++◌, ℕ, ◌+◌, ◌<◌, ◌≤◌, eqb, leb, length, Option, Some, None, Result, Ok, Err}
use Rattle.answer.specs.declared.Refusal.{Refusal}
use Rattle.answer.specs.Answers.{refusal_number_def, refusal_place_def}
use Rattle.answer.specs.Asked.{Asked, passed, refused}
use Rattle.logic.specs.Limits.{Kind, label_number, arrow_number, node_number, least_count, most_count}
use Rattle.names.specs.Token.{Token, same, Found, found, absent, first_below}
use Rattle.names.specs.Scan.{is_letter_def, is_word_def}
use Rattle.names.specs.Scanned.{tokens_from}
use Rattle.names.specs.Names.{Naming, decimal, Entry, given, taken, unnamed, name_bytes, longest_name, count_of, kind_of, ask_entries}
use Rattle.buffers.specs.Slots.{Slots, slot_at}
use Rattle.name_table.specs.NameSlots.{name_width, name_count, table_bytes, slot_base, Holds}

-- The slots of names, which come before those of counts.
abbrev pub named_slots : ℕ
named_slots = 124

unfoldable pub or_nothing : Found Token → Token
or_nothing (found t) = t
or_nothing absent = []

unfoldable pub given_names : List Entry → Naming
given_names es label_number x = or_nothing (given es label_number x)
given_names es arrow_number x = or_nothing (given es arrow_number x)
given_names es node_number x = or_nothing (given es node_number x)
given_names es least_count x = decimal x
given_names es most_count x = decimal x

-- A name that is in one of those slots.
pub record Stands (table : List ℕ) (t : Token) : Type 0 where
  pub slot : ℕ
  pub named : slot < named_slots
  pub there : slot_at name_width table slot ≡ t
  pub some_byte : 0 < length t

pub record Partly (es : List Entry) (table : List ℕ) : Type 0 where
  pub size : length table ≡ table_bytes
  pub holds : Holds table (given_names es)
  pub names : (t : Token) → taken es t ≡ true → Stands table t

pub record Begun (table : List ℕ) : Type 0 where
  pub entries : List Entry
  pub partly : Partly entries table

-- The number of a kind that a token may stand for, one without a name so far; its slot.
abbrev pub free_number : List Entry → Kind → Token → Found ℕ
free_number es k t = first_below (λ x. same t (decimal x) && unnamed es k x) (count_of k)

abbrev pub slot_found : Kind → Found ℕ → Option ℕ
slot_found k (found x) = Some (slot_base k + x)
slot_found k absent = None

-- The item of the kind that a word of the table stands for.
abbrev pub item_for : Found Kind → Option ℕ
item_for (found label_number) = Some 4
item_for (found arrow_number) = Some 5
item_for (found node_number) = Some 6
item_for (found least_count) = Some 7
item_for (found most_count) = Some 8
item_for absent = None

abbrev pub item_of : Token → Option ℕ
item_of t = item_for (kind_of t)

-- What a name's bytes must be.
unfoldable pub name_byte : ℕ → Bool
name_byte b = is_letter_def b && (leb 0x21 b && not (eqb b 0x7F))

unfoldable pub well_spelled : Token → Bool
well_spelled t = is_word_def t && (name_bytes t && leb (length t) longest_name)

-- What a turn of reading gives: no entry is left, one was entered, or the table is refused.
pub record Entered (text : List ℕ) (at to : ℕ) (es : List Entry) (table : List ℕ) : Type 0 where
  pub entry : Entry
  pub reads : ask_entries (length text) (tokens_from text at) es ≡ ask_entries (length text) (tokens_from text to) (entry ∷ es)
  pub partly : Partly (entry ∷ es) table
  pub on : at < to
  pub inside : to ≤ length text

abbrev pub Turned : (text : List ℕ) (at : ℕ) (es : List Entry) (table : List ℕ) → Result (Option ℕ) Refusal → Type 0
Turned text at es table (Ok None) = (ask_entries (length text) (tokens_from text at) es ≡ passed es) × Partly es table
Turned text at es table (Ok (Some to)) = Entered text at to es table
Turned text at es table (Err r) = ask_entries (length text) (tokens_from text at) es ≡ refused (refusal_number_def r) (refusal_place_def r)

abbrev pub Read : Asked (List Entry) → List ℕ → Type 0
Read (passed es) table = Partly es table
Read (refused q p) table = Unit {0}

-- Slots from number `base` on; each that was empty now holds `start` and its number.
unfoldable pub or_else : Token → Token → Token
or_else [] u = u
or_else (b ∷ t) u = b ∷ t

pub record Filled (base count : ℕ) (start : Token) (before after : List ℕ) : Type 0 where
  pub size : length after ≡ length before
  pub slots : Slots name_width name_count after
  pub filled : (x : ℕ) → x < count → slot_at name_width after (base + x) ≡ or_else (slot_at name_width before (base + x)) (start ++ decimal x)
  pub below : (i : ℕ) → i < base → slot_at name_width after i ≡ slot_at name_width before i
  pub above : (i : ℕ) → base + count ≤ i → i < name_count → slot_at name_width after i ≡ slot_at name_width before i
