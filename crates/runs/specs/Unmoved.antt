-- What item 10 of document 02 changed in enter, and that it changed nothing else. proofs/Unmoved proves it.
use Rattle.std.specs.Prelude.{◌≡◌, ◌≢◌, ◌⊎◌, List, ℕ, ◌<◌, ◌≤◌}
use Rattle.answer.specs.Asked.{refused}
use Rattle.text.specs.Reading.{longest_carried}
use Rattle.runs.specs.Enter.{enter_answer, enter_sheet}
use Rattle.runs.specs.Former.{former_answer, former_sheet}

-- Enter with this room gives the number and place, and leaves the sheet, that the former enter did, perhaps with another room.
pub record AsBefore (sheet book edit : List ℕ) (room former : ℕ) : Type 0 where
  pub answer : enter_answer sheet book edit room ≡ former_answer sheet book edit former
  pub sheet_after : enter_sheet sheet book edit room ≡ former_sheet sheet book edit former

-- Enter still answers 33: its place, a single rule's length, is more than the room and at most the whole length.
pub record StillShort (sheet book edit : List ℕ) (room whole : ℕ) : Type 0 where
  pub needed : ℕ
  pub answer : enter_answer sheet book edit room ≡ refused 33 needed
  pub more : room < needed
  pub most : needed ≤ whole

pub record Unmoved : Type 0 where
  -- Where the former enter did not give 33, enter gives the same number and place, and leaves the same sheet.
  pub same : (sheet book edit : List ℕ) (room : ℕ) → ((p : ℕ) → former_answer sheet book edit room ≢ refused 33 p) → AsBefore sheet book edit room room
  -- Where it gave 33, with the whole length as place, enter now gives 33 by the longest single rule, or what the former enter gave with that length.
  pub where_33 : (sheet book edit : List ℕ) (room p : ℕ) → former_answer sheet book edit room ≡ refused 33 p
      → StillShort sheet book edit room p ⊎ AsBefore sheet book edit room p
  -- 16,384 bytes suffice for every sheet, book and edit.
  pub suffices : (sheet book edit : List ℕ) (room p : ℕ) → longest_carried ≤ room → enter_answer sheet book edit room ≢ refused 33 p
