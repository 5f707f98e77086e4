-- The small games, by computation.
use mathlib.Core.Path.{◌≡◌, refl}
use Rattle.logic.specs.Graph.{is_node, any_below, all_below}
use Rattle.logic.specs.Meaning.{value, hold_all}
use Rattle.logic.specs.Steps.{update, run}
use Rattle.game.specs.Game.{leaves, may_leave_def, can_make, legal, some_move, every_move, forced, lowest_below, lowest_move, forces_by, answer}
use Rattle.game.specs.Examples.{played, games, answers}

pub examples : games ≡ answers
unfolding games answers played answer forces_by lowest_move lowest_below forced some_move every_move legal can_make may_leave_def leaves hold_all run update value is_node any_below all_below
examples = refl
