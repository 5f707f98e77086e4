-- The names of a table, each in its slot: those of labels, of arrows, of nodes, with plain names for what has no name; then the counts.
use Rattle.std.specs.Prelude.{◌≡◌, List, ℕ, ◌+◌, ◌<◌, length}
use Rattle.answer.specs.Asked.{Asked, passed, refused}
use Rattle.logic.specs.Limits.{Kind, label_number, arrow_number, node_number, least_count, most_count}
use Rattle.names.specs.Names.{Naming, Entry, name_in}
use Rattle.buffers.specs.Slots.{Slots, slot_at}

abbrev pub name_width : ℕ
name_width = 65

abbrev pub name_count : ℕ
name_count = 185

abbrev pub table_bytes : ℕ
table_bytes = 12025

-- The slot of number 0 of each kind, and how many slots the kind has.
abbrev pub slot_base : Kind → ℕ
slot_base label_number = 0
slot_base arrow_number = 48
slot_base node_number = 64
slot_base least_count = 124
slot_base most_count = 124

abbrev pub slot_count : Kind → ℕ
slot_count label_number = 48
slot_count arrow_number = 16
slot_count node_number = 60
slot_count least_count = 61
slot_count most_count = 61

-- The slots hold this naming.
pub record Holds (table : List ℕ) (name : Naming) : Type 0 where
  pub slots : Slots name_width name_count table
  pub each : (k : Kind) (x : ℕ) → x < slot_count k → slot_at name_width table (slot_base k + x) ≡ name k x

-- What the slots hold once a table is read: its naming. For a refused table only their length is known.
unfoldable pub Held : Asked (List Entry) → List ℕ → Type 0
Held (passed es) table = Holds table (name_in es)
Held (refused q p) table = length table ≡ table_bytes
