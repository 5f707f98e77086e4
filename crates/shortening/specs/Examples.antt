-- A chain that fits, and steps that do not. The rule's text is 21 06 0A 03 11 00 01 0A 03 11 00 01 05 05 03 00.
use Rattle.std.specs.Prelude.{List, [], ◌∷◌, ℕ}
use Rattle.logic.specs.Syntax.{Expr, node, rule, all, label, complement, and, at_least, arrow_kind, sub_nodes}
use Rattle.shortening.specs.Laws.{Made, made, unfit, Step}
use Rattle.answer.specs.Asked.{Asked, passed, refused}
use Rattle.shortening.specs.Checking.{make_steps}
use Rattle.shortening.specs.Questions.{ask_chain}

abbrev pub three : Expr node
three = at_least 3 (arrow_kind 0) all

abbrev pub long : Expr rule
long = sub_nodes (and three three) (complement (complement (label 0)))

abbrev pub at : ℕ → ℕ → Step
at offset law = record { offset = offset; law = law }

unfoldable pub shortened : List (Made (Expr rule))
shortened =
    -- law 2 at offset 1, then law 1 where 05 05 03 00 now begins
    make_steps (at 1 2 ∷ at 6 1 ∷ []) long
    -- law 1 first, where 05 05 03 00 begins at offset 12
    ∷ make_steps (at 12 1 ∷ at 1 2 ∷ []) long
    -- no steps
    ∷ make_steps [] long
    -- the 03 of 0A 03 is a count; one off; another law; a law of another sort; no such law; the second step's old offset; outside the text
    ∷ make_steps (at 3 1 ∷ []) long
    ∷ make_steps (at 13 1 ∷ []) long
    ∷ make_steps (at 1 3 ∷ []) long
    ∷ make_steps (at 1 8 ∷ []) long
    ∷ make_steps (at 1 9 ∷ []) long
    ∷ make_steps (at 1 2 ∷ at 12 1 ∷ []) long
    ∷ make_steps (at 16 1 ∷ []) long
    ∷ []

unfoldable pub results : List (Made (Expr rule))
results =
    made (sub_nodes three (label 0))
    ∷ made (sub_nodes three (label 0))
    ∷ made long
    ∷ unfit
    ∷ unfit
    ∷ unfit
    ∷ unfit
    ∷ unfit
    ∷ unfit
    ∷ unfit
    ∷ []

-- The call: the chain and the text it ends in; a cut step; the second step's old offset; then texts sent with another byte, one too short, one too long.
unfoldable pub checks : List (Asked (Unit {0}))
checks =
    ask_chain long (1 ∷ 0 ∷ 2 ∷ 6 ∷ 0 ∷ 1 ∷ []) (0x21 ∷ 0x0A ∷ 0x03 ∷ 0x11 ∷ 0x00 ∷ 0x01 ∷ 0x03 ∷ 0x00 ∷ [])
    ∷ ask_chain long (1 ∷ 0 ∷ 2 ∷ 6 ∷ 0 ∷ []) (0x21 ∷ 0x0A ∷ 0x03 ∷ 0x11 ∷ 0x00 ∷ 0x01 ∷ 0x03 ∷ 0x00 ∷ [])
    ∷ ask_chain long (1 ∷ 0 ∷ 2 ∷ 12 ∷ 0 ∷ 1 ∷ []) []
    ∷ ask_chain long (1 ∷ 0 ∷ 2 ∷ 6 ∷ 0 ∷ 1 ∷ []) (0x21 ∷ 0x0A ∷ 0x03 ∷ 0x11 ∷ 0x01 ∷ 0x01 ∷ 0x03 ∷ 0x00 ∷ [])
    ∷ ask_chain long (1 ∷ 0 ∷ 2 ∷ 6 ∷ 0 ∷ 1 ∷ []) (0x21 ∷ 0x0A ∷ 0x03 ∷ 0x11 ∷ 0x00 ∷ 0x01 ∷ 0x03 ∷ [])
    ∷ ask_chain long (1 ∷ 0 ∷ 2 ∷ 6 ∷ 0 ∷ 1 ∷ []) (0x21 ∷ 0x0A ∷ 0x03 ∷ 0x11 ∷ 0x00 ∷ 0x01 ∷ 0x03 ∷ 0x00 ∷ 0x00 ∷ [])
    ∷ []

unfoldable pub checks_are : List (Asked (Unit {0}))
checks_are = passed tt ∷ refused 59 1 ∷ refused 59 1 ∷ refused 60 4 ∷ refused 60 7 ∷ refused 60 8 ∷ []
