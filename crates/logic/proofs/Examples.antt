-- By computation.
use mathlib.Core.Path.{◌≡◌, refl}
use Rattle.logic.specs.Graph.{is_node, any_below, all_below, count_below}
use Rattle.logic.specs.Meaning.{value}
use Rattle.logic.specs.Examples.{on, values, values_are, truths, truths_are, strays, strays_are}

pub values-right : values ≡ values_are
values-right = unfold values values_are on value is_node any_below all_below count_below in refl

pub truths-right : truths ≡ truths_are
truths-right = unfold truths truths_are value is_node any_below all_below in refl

pub strays-right : strays ≡ strays_are
strays-right = unfold strays strays_are value is_node any_below all_below in refl
