-- Each call has fewer moves left, or as many and is that of the search.
use Rattle.std.proofs.Common.{◌≡◌, ◌*◌, ◌+◌, ◌-◌, length}
use Rattle.sheet.specs.Sheet.{sheet_bytes, graph_of}
use Rattle.game.specs.Game.{Game}
use Rattle.play.specs.Standing.{GameStands}
use Rattle.play.proofs.Trying.{Trying}
use Rattle.play.proofs.search.+goes_well_search.Given as goal

abbrev pub decreases-goes_well : goal.decreases-goes_well
decreases-goes_well l = 2 * l.moves + 1

abbrev pub decreases-search : goal.decreases-search
decreases-search l = 2 * l.moves

abbrev pub invariant-search-loop-i : goal.invariant-search-loop-i
invariant-search-loop-i l =
    (length l.copy ≡ sheet_bytes)
    × ((G : Game) → GameStands (graph_of l.sheet).n l.book l.goal l.edits l.lists G → Trying l.edits l.ours (l.moves - 1) (graph_of l.sheet).n (graph_of l.sheet) G l.i l.at l.made)
