-- An edit in a text, and what follows its first step.
use Rattle.std.specs.Prelude.{◌≡◌, List, ℕ, zero, suc, ◌+◌, ◌<◌, length}
use Rattle.logic.specs.Syntax.{Edit, finish, add_label, take_label, add_arrow, take_arrow, choose}
use Rattle.logic.specs.Limits.{Ranges}
use Rattle.text.specs.Code.{edit_code}
use Rattle.text.specs.Stands.{EditStands}

-- What follows the first step; what follows the first j steps.
unfoldable pub behind_step : Edit → Edit
behind_step finish = finish
behind_step (add_label k E Z) = Z
behind_step (take_label k E Z) = Z
behind_step (add_arrow a R Z) = Z
behind_step (take_arrow a R Z) = Z
behind_step (choose K P Q Z) = Z

unfoldable pub behind_steps : ℕ → Edit → Edit
behind_steps zero Z = Z
behind_steps (suc j) Z = behind_step (behind_steps j Z)

-- An edit starts at this place of the text, with its numbers in some ranges.
pub record EditAt (text : List ℕ) (at : ℕ) (Z : Edit) : Type 0 where
  pub limits : Ranges
  pub place : EditStands limits text at Z

pub record SomeEdit (text : List ℕ) (at : ℕ) : Type 0 where
  pub what : Edit
  pub stands : EditAt text at what

-- `next` is the place after an edit's first step.
pub record NextAt (text : List ℕ) (at : ℕ) (Z : Edit) (next : ℕ) : Type 0 where
  pub stands : EditAt text next (behind_step Z)
  pub ends : next + length (edit_code (behind_step Z)) ≡ at + length (edit_code Z)
  pub on : at < next
