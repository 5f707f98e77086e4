-- Marked examples 8 and 9 of document 01 through enter, on the bytes of sheet T under the book B; edits that tell the answers apart; and books of two
-- rules, whose carried rules are written one over the other (item 10 of document 02).
use Rattle.std.specs.Prelude.{◌||◌, List, [], ◌∷◌, ◌++◌, ℕ, eqb, replicate}
use Rattle.answer.specs.Asked.{Asked, passed, refused}
use Rattle.logic.specs.Steps.{relabel}
use Rattle.sheet.specs.Sheet.{store}
use Rattle.text.specs.Marked.{sheet_t, B}
use Rattle.runs.specs.Enter.{enter_answer, enter_sheet, enter_scratch}

-- The outcome of a call: the answer, and what sheet and scratch then hold.
pub record Result : Type 0 where
  pub answer : Asked (Unit {0})
  pub sheet : List ℕ
  pub scratch : List ℕ

-- A scratch of that many bytes EE.
abbrev pub scratch_of : ℕ → List ℕ
scratch_of room = replicate room 0xEE

-- An edit entered into T under a book, with a scratch of that many bytes.
unfoldable pub entered_on_t : (book edit : List ℕ) → ℕ → Result
entered_on_t book edit room =
    record {
      answer = enter_answer (store sheet_t) book edit room;
      sheet = enter_sheet (store sheet_t) book edit room;
      scratch = enter_scratch (store sheet_t) book edit (scratch_of room);
    }

-- Node 2 has label 1.
unfoldable pub two : List ℕ
two = 0x23 ∷ 0x02 ∷ 0x03 ∷ 0x01 ∷ []

unfoldable pub calls : ((book edit : List ℕ) → ℕ → Result) → List Result
calls enter =
    -- 8, and 9
    enter B (0x32 ∷ 0x01 ∷ 0x04 ∷ 0x02 ∷ 0x30 ∷ []) 14
    ∷ enter B (0x32 ∷ 0x01 ∷ 0x04 ∷ 0x02 ∷ 0x31 ∷ 0x01 ∷ 0x04 ∷ 0x02 ∷ 0x30 ∷ []) 17
    -- 8 with one byte of scratch too few
    ∷ enter B (0x32 ∷ 0x01 ∷ 0x04 ∷ 0x02 ∷ 0x30 ∷ []) 11
    -- node 0 gets label 1, too
    ∷ enter B (0x31 ∷ 0x01 ∷ 0x04 ∷ 0x00 ∷ 0x30 ∷ []) 12
    -- node 3 is not on T
    ∷ enter B (0x31 ∷ 0x01 ∷ 0x04 ∷ 0x03 ∷ 0x30 ∷ []) 2
    -- node 0 gets label 1, too: rules of 11 and 7 bytes, the second over the first; then one byte too few for the longer
    ∷ enter (B ++ two) (0x31 ∷ 0x01 ∷ 0x04 ∷ 0x00 ∷ 0x30 ∷ []) 12
    ∷ enter (B ++ two) (0x31 ∷ 0x01 ∷ 0x04 ∷ 0x00 ∷ 0x30 ∷ []) 10
    -- no node has label 0, and node 2 does not have label 1: the second rule is broken
    ∷ enter (B ++ two) (0x32 ∷ 0x00 ∷ 0x01 ∷ 0x32 ∷ 0x01 ∷ 0x04 ∷ 0x02 ∷ 0x30 ∷ []) 15
    -- 8, where the first rule is broken and the second is not written; its length counts all the same
    ∷ enter (two ++ B) (0x32 ∷ 0x01 ∷ 0x04 ∷ 0x02 ∷ 0x30 ∷ []) 12
    ∷ enter (two ++ B) (0x32 ∷ 0x01 ∷ 0x04 ∷ 0x02 ∷ 0x30 ∷ []) 11
    ∷ []

unfoldable pub results : List Result
results =
    record { answer = refused 41 0; sheet = store sheet_t; scratch = 0x21 ∷ 0x03 ∷ 0x00 ∷ 0x08 ∷ 0x11 ∷ 0x00 ∷ 0x06 ∷ 0x03 ∷ 0x01 ∷ 0x05 ∷ 0x04 ∷ 0x02 ∷ 0xEE ∷ 0xEE ∷ [] }
    ∷ record { answer = passed tt; sheet = store sheet_t; scratch = 0x21 ∷ 0x03 ∷ 0x00 ∷ 0x08 ∷ 0x11 ∷ 0x00 ∷ 0x07 ∷ 0x06 ∷ 0x03 ∷ 0x01 ∷ 0x05 ∷ 0x04 ∷ 0x02 ∷ 0x04 ∷ 0x02 ∷ 0xEE ∷ 0xEE ∷ [] }
    ∷ record { answer = refused 33 12; sheet = store sheet_t; scratch = scratch_of 11 }
    ∷ record { answer = passed tt; sheet = store (relabel sheet_t 1 (λ i. eqb i 0 || eqb i 2)); scratch = 0x21 ∷ 0x03 ∷ 0x00 ∷ 0x08 ∷ 0x11 ∷ 0x00 ∷ 0x07 ∷ 0x03 ∷ 0x01 ∷ 0x04 ∷ 0x00 ∷ 0xEE ∷ [] }
    ∷ record { answer = refused 25 3; sheet = store sheet_t; scratch = 0xEE ∷ 0xEE ∷ [] }
    ∷ record { answer = passed tt; sheet = store (relabel sheet_t 1 (λ i. eqb i 0 || eqb i 2)); scratch = 0x23 ∷ 0x02 ∷ 0x07 ∷ 0x03 ∷ 0x01 ∷ 0x04 ∷ 0x00 ∷ 0x03 ∷ 0x01 ∷ 0x04 ∷ 0x00 ∷ 0xEE ∷ [] }
    ∷ record { answer = refused 33 11; sheet = store sheet_t; scratch = scratch_of 10 }
    ∷ record { answer = refused 41 1; sheet = store sheet_t; scratch = 0x23 ∷ 0x02 ∷ 0x06 ∷ 0x03 ∷ 0x01 ∷ 0x05 ∷ 0x04 ∷ 0x02 ∷ 0x00 ∷ 0x06 ∷ 0x03 ∷ 0x01 ∷ 0x05 ∷ 0x04 ∷ 0x02 ∷ [] }
    ∷ record { answer = refused 41 0; sheet = store sheet_t; scratch = 0x23 ∷ 0x02 ∷ 0x06 ∷ 0x03 ∷ 0x01 ∷ 0x05 ∷ 0x04 ∷ 0x02 ∷ 0xEE ∷ 0xEE ∷ 0xEE ∷ 0xEE ∷ [] }
    ∷ record { answer = refused 33 12; sheet = store sheet_t; scratch = scratch_of 11 }
    ∷ []
