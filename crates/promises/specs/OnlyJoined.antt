-- Two edits whose joined edit is entered though the first is not: marked examples 8 and 9 of document 01, on the sheet T under the book B.
use Rattle.std.specs.Prelude.{◌≡◌, List, [], ◌∷◌, ℕ}
use Rattle.answer.specs.Asked.{passed, refused}
use Rattle.sheet.specs.Sheet.{store}
use Rattle.text.specs.Marked.{sheet_t, B}
use Rattle.runs.specs.Enter.{enter_answer}
use Rattle.join_edits.specs.Chain.{ask_joined}

-- Label 1 taken from node 2, and added to it again.
abbrev pub takes : List ℕ
takes = 0x32 ∷ 0x01 ∷ 0x04 ∷ 0x02 ∷ 0x30 ∷ []

abbrev pub adds : List ℕ
adds = 0x31 ∷ 0x01 ∷ 0x04 ∷ 0x02 ∷ 0x30 ∷ []

abbrev pub takes_then_adds : List ℕ
takes_then_adds = 0x32 ∷ 0x01 ∷ 0x04 ∷ 0x02 ∷ 0x31 ∷ 0x01 ∷ 0x04 ∷ 0x02 ∷ 0x30 ∷ []

pub record OnlyJoined : Type 0 where
  pub joins : ask_joined takes adds ≡ passed takes_then_adds
  pub joined_entered : enter_answer (store sheet_t) B takes_then_adds 17 ≡ passed tt
  pub first_refused : enter_answer (store sheet_t) B takes 14 ≡ refused 41 0
