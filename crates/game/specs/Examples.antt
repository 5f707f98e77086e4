-- Small games, each with its answer, which proofs/Examples computes. One node, with label 0 or without it; book and goal are about that label.
use Rattle.std.specs.Prelude.{false, List, [], ◌∷◌, ℕ, eqb}
use Rattle.logic.specs.Syntax.{Expr, rule, all, none, label, sub_nodes, Edit, finish, add_label, take_label}
use Rattle.logic.specs.Graph.{Graph}
use Rattle.game.specs.Game.{pass, edit, Outcome, cannot, first, answer}

abbrev pub bare : Graph
bare = record { n = 1; in_use = λ i. eqb i 0; labelled = λ k i. false; joined = λ a i j. false }

abbrev pub set : Edit
set = add_label 0 all finish

abbrev pub clear : Edit
clear = take_label 0 all finish

abbrev pub stay : Edit
stay = finish

abbrev pub is_set : Expr rule
is_set = sub_nodes all (label 0)

abbrev pub is_clear : Expr rule
is_clear = sub_nodes (label 0) none

-- The answer for m + 1 moves on the bare graph.
unfoldable pub played : List (Expr rule) → Expr rule → List Edit → List Edit → ℕ → Outcome
played book goal ours theirs m = answer (record { book = book; goal = goal; dispatchers = ours; disruptions = theirs }) m bare

unfoldable pub games : List Outcome
games =
    -- one move; the disruption undoes it; the last move is the dispatcher's
    played [] is_set (set ∷ []) (clear ∷ []) 0
    ∷ played [] is_set (set ∷ []) (clear ∷ []) 1
    ∷ played [] is_set (set ∷ []) (clear ∷ []) 2
    -- without an edit the disruption passes
    ∷ played [] is_set (set ∷ []) [] 1
    -- the lowest-numbered edit that forces it
    ∷ played [] is_set (clear ∷ stay ∷ set ∷ set ∷ []) [] 0
    -- a pass, because the book keeps the only edit from being made; no pass where it can be made
    ∷ played (is_clear ∷ []) is_clear (set ∷ []) [] 0
    ∷ played [] is_clear (set ∷ []) [] 0
    -- the disruption's edits are carried out without the book
    ∷ played (is_clear ∷ []) is_clear (stay ∷ []) (set ∷ []) 1
    -- the book is checked only after the dispatcher's edits, and the given sheet need not keep it
    ∷ played (is_set ∷ []) is_set (stay ∷ set ∷ []) (clear ∷ []) 2
    ∷ []

unfoldable pub answers : List Outcome
answers =
    first (edit 0)
    ∷ cannot
    ∷ first (edit 0)
    ∷ first (edit 0)
    ∷ first (edit 2)
    ∷ first pass
    ∷ cannot
    ∷ cannot
    ∷ first (edit 1)
    ∷ []
