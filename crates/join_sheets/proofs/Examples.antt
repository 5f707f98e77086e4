-- By computation.
use mathlib.Core.Path.{◌≡◌, refl}
use Rattle.logic.specs.Graph.{is_node, any_below, all_below}
use Rattle.logic.specs.Meaning.{value}
use Rattle.join_sheets.specs.Joined.{side_by_side, pairs_by_side, joined_graph}
use Rattle.join_sheets.specs.Examples.{shown, left_out, truths}

pub examples : left_out ≡ truths
examples = unfold left_out truths shown value joined_graph side_by_side pairs_by_side is_node any_below all_below in refl
