-- How the code searches for a side's move, the same for both sides. proofs/Chosen ties it to `forced` and `answer`.
use Rattle.std.specs.Prelude.{Bool, true, false, not, ◌&&◌, ℕ, length}
use Rattle.logic.specs.Graph.{Graph}
use Rattle.game.specs.Game.{Side, dispatcher, disruption, Game, Move, edits_of, leaves, legal, forced, Outcome, lowest_move}

-- The side that "ours" means.
abbrev pub side_of : Bool → Side
side_of true = dispatcher
side_of false = disruption

-- Once a side has moved, with m moves left: whether that side gets what it wants. The dispatcher wants a win, the disruption wants none.
unfoldable pub goes_well_def : Game → ℕ → Bool → Graph → Bool
goes_well_def G m true g = forced G m disruption g
goes_well_def G m false g = not (forced G m dispatcher g)

-- This move of a side can be made, and the side then gets what it wants with m moves left.
unfoldable pub serves : Game → ℕ → Bool → Graph → Move → Bool
serves G m ours g x = legal G (side_of ours) g x && goes_well_def G m ours (leaves G (side_of ours) g x)

-- The side's move, with m moves left after it.
unfoldable pub chosen : Game → ℕ → Bool → Graph → Outcome
chosen G m ours g = lowest_move (length (edits_of G (side_of ours))) (serves G m ours g)
