-- A part of a text, and a slice that is that very part.
use Rattle.std.specs.Prelude.{◌≡◌, List, ℕ, ◌+◌, take, drop}
use Rattle.std.specs.Borrow.{Bor}

-- A part of a text: where it starts and how long it is. `no_part` is empty and starts where the text does.
pub record Part : Type 0 where
  pub start : ℕ
  pub size : ℕ

abbrev pub no_part : Part
no_part = record { start = 0; size = 0 }

-- The slice is that part of the text itself, not equal bytes elsewhere. Its pointer, a block of memory and an offset in it, is the text's
-- plus the part's start.
pub record PartOf (text : Bor (List ℕ)) (p : Part) (slice : Bor (List ℕ)) : Type 0 where
  pub memory : slice.ref_ptr.0 ≡ text.ref_ptr.0
  pub starts : slice.ref_ptr.1 ≡ text.ref_ptr.1 + p.start
  pub contents : slice.now ≡ take p.size (drop p.start text.now)
