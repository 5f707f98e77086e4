-- Item 5 of document 02: loading a region's sheets. "Promise and callers remain": the contracts of `seal` and of every call. proofs/Item5 proves the rest.
use Rattle.std.specs.Prelude.{◌≡◌, List, ℕ, ◌≤◌, ◌%◌, length}
use Rattle.seal.specs.Seal.{Form, sums}
use Rattle.seal.specs.Lanes.{total, weighed}
use Rattle.sheet.specs.Questions.{ask_sheet}
use Rattle.sheet.specs.Noticed.{AsksSheetFirst}
use Rattle.bitset.specs.Words.{Bytes}

pub record Item5 : Type 0 where
  -- "take the two remainders once a block": the sums are the remainders of the plain totals, in any form,
  pub s_of_total : (f : Form) (body : List ℕ) → (sums f body).s ≡ total body % f.modulus
  pub t_of_weighed : (f : Form) (body : List ℕ) → (sums f body).t ≡ weighed body % f.modulus
  -- "over any 508 bytes the plain totals are at most 129,540 and 32,967,930".
  pub plain_totals : (body : List ℕ) → length body ≡ 508 → Bytes body → (total body ≤ 129540) × (weighed body ≤ 32967930)
  -- The call for a loader checks the sheet as every other does.
  pub check_first : AsksSheetFirst ask_sheet
