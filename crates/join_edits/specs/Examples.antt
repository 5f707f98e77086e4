-- Edits joined, by their bytes; and refusals that show the order of the questions.
use Rattle.std.specs.Prelude.{List, [], ◌∷◌, ℕ}
use Rattle.answer.specs.Asked.{Asked, passed, refused}

-- Label 1 onto node 2; and a branch at the end of an edit: if label 1 is on node 0, label 0 onto node 2, else nothing.
abbrev pub adds : List ℕ
adds = 0x31 ∷ 0x01 ∷ 0x04 ∷ 0x02 ∷ 0x30 ∷ []

abbrev pub branches : List ℕ
branches = 0x35 ∷ 0x23 ∷ 0x00 ∷ 0x03 ∷ 0x01 ∷ 0x31 ∷ 0x00 ∷ 0x04 ∷ 0x02 ∷ 0x30 ∷ 0x30 ∷ 0x30 ∷ []

unfoldable pub calls : (List ℕ → List ℕ → ℕ → Asked (List ℕ)) → List (Asked (List ℕ))
calls join =
    -- 30 alone, first and second
    join (0x30 ∷ []) (0x30 ∷ []) 1
    ∷ join (0x30 ∷ []) adds 5
    ∷ join adds (0x30 ∷ []) 5
    -- Q stands after the branch, not in it
    ∷ join branches adds 16
    ∷ join adds branches 16
    -- one byte too little room
    ∷ join branches adds 15
    -- P is checked before Q, and both before the room
    ∷ join [] (0xFF ∷ []) 0
    ∷ join (0x30 ∷ []) (0xFF ∷ []) 0
    ∷ join (0x30 ∷ 0x30 ∷ []) (0x30 ∷ []) 0
    -- node 60 is never in range
    ∷ join adds (0x31 ∷ 0x01 ∷ 0x04 ∷ 0x3C ∷ 0x30 ∷ []) 9
    ∷ []

unfoldable pub results : List (Asked (List ℕ))
results =
    passed (0x30 ∷ [])
    ∷ passed adds
    ∷ passed adds
    ∷ passed (0x35 ∷ 0x23 ∷ 0x00 ∷ 0x03 ∷ 0x01 ∷ 0x31 ∷ 0x00 ∷ 0x04 ∷ 0x02 ∷ 0x30 ∷ 0x30 ∷ 0x31 ∷ 0x01 ∷ 0x04 ∷ 0x02 ∷ 0x30 ∷ [])
    ∷ passed (0x31 ∷ 0x01 ∷ 0x04 ∷ 0x02 ∷ 0x35 ∷ 0x23 ∷ 0x00 ∷ 0x03 ∷ 0x01 ∷ 0x31 ∷ 0x00 ∷ 0x04 ∷ 0x02 ∷ 0x30 ∷ 0x30 ∷ 0x30 ∷ [])
    ∷ refused 33 16
    ∷ refused 22 0
    ∷ refused 23 0
    ∷ refused 26 1
    ∷ refused 25 3
    ∷ []
