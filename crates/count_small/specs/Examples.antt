-- The marked case of item 12 and one more with n = 2, on the bytes.
use Rattle.std.specs.Prelude.{List, [], ◌∷◌, ℕ}
use Rattle.answer.specs.Asked.{Asked, refused, outcome}
use Rattle.count_small.specs.declared.Four.{Four}
use Rattle.count_small.specs.Questions.{ask_count, counts_of}

-- Each node has label 0; each node with label 0 has an arrow to some node.
abbrev pub all_labelled : List ℕ
all_labelled = 0x21 ∷ 0x01 ∷ 0x03 ∷ 0x00 ∷ []

abbrev pub labelled_go_on : List ℕ
labelled_go_on = 0x21 ∷ 0x03 ∷ 0x00 ∷ 0x08 ∷ 0x11 ∷ 0x00 ∷ 0x01 ∷ []

-- Adds arrow 0 from node 0 to node 1, then label 0 to node 1.
abbrev pub join_and_label : List ℕ
join_and_label = 0x33 ∷ 0x00 ∷ 0x17 ∷ 0x00 ∷ 0x01 ∷ 0x31 ∷ 0x00 ∷ 0x04 ∷ 0x01 ∷ 0x30 ∷ []

unfoldable pub cases : List Four
cases = counts_of 1 all_labelled (0x30 ∷ []) ∷ counts_of 1 all_labelled [] ∷ []

abbrev pub cases_are : List Four
cases_are = record { kept = 2; lost = 0; repaired = 0; broken = 2 } ∷ record { kept = 0; lost = 0; repaired = 0; broken = 0 } ∷ []

unfoldable pub case_of2 : Four
case_of2 = counts_of 2 labelled_go_on join_and_label

abbrev pub case_of2_is : Four
case_of2_is = record { kept = 42; lost = 7; repaired = 6; broken = 9 }

-- The order of the questions: n first, then the book, the edit, and then the names.
unfoldable pub answers : List (Asked (Unit {0}))
answers =
    outcome (ask_count 0 (0xFF ∷ []) [])
    ∷ outcome (ask_count 4 (0xFF ∷ []) [])
    ∷ outcome (ask_count 1 (0xFF ∷ []) [])
    ∷ outcome (ask_count 1 (0x21 ∷ 0x01 ∷ 0x03 ∷ 0x01 ∷ []) [])
    ∷ outcome (ask_count 1 (0x21 ∷ 0x01 ∷ 0x03 ∷ 0x01 ∷ []) (0x30 ∷ []))
    ∷ outcome (ask_count 1 all_labelled (0x35 ∷ 0x21 ∷ 0x01 ∷ 0x02 ∷ 0x31 ∷ 0x01 ∷ 0x01 ∷ 0x30 ∷ 0x30 ∷ 0x30 ∷ []))
    ∷ []

abbrev pub answers_are : List (Asked (Unit {0}))
answers_are = refused 61 0 ∷ refused 61 0 ∷ refused 13 0 ∷ refused 22 0 ∷ refused 61 0 ∷ refused 61 0 ∷ []
