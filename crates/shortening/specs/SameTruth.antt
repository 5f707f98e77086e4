-- "Accepted means that both texts have the same truth on every sheet whose node numbers fit" (item 11 of document 02), on graphs. Crate `promises`
-- (specs/Item11) says it for sheets.
use Rattle.std.specs.Prelude.{◌≡◌, List, ℕ}
use Rattle.answer.specs.Asked.{passed}
use Rattle.logic.specs.Syntax.{Expr, rule}
use Rattle.logic.specs.Graph.{Graph}
use Rattle.logic.specs.Meaning.{value}
use Rattle.logic.specs.Limits.{Within}
use Rattle.text.specs.Reading.{Limits}
use Rattle.text.specs.Questions.{ask_rule}

pub record SameTruth (carried sent : List ℕ) : Type 0 where
  -- Under all limits, so for every n, under which the carried text is one rule, the text sent is one too.
  pub reads_too : (l : Limits) (K : Expr rule) → ask_rule l carried ≡ passed K → (L : Expr rule) × (ask_rule l sent ≡ passed L)
  -- If both are one rule, they have the same truth on every graph within the limits.
  pub same_truth : (l : Limits) (K L : Expr rule) → ask_rule l carried ≡ passed K → ask_rule l sent ≡ passed L → (g : Graph) → Within g → value g K ≡ value g L
