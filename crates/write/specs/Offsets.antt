-- The steps passed, as offsets on a stack, the last passed on top.
use Rattle.std.specs.Prelude.{◌≡◌, List, [], ◌∷◌, ℕ, ◌+◌, ◌<◌, length, get_or}
use Rattle.tree.specs.Stack.{Substitution}
use Rattle.ends.specs.Shapes.{At}

-- a step 31 to 34 stands in an edit at a place
pub record StepAt (edit : List ℕ) (o : ℕ) (s : Substitution) : Type 0 where
  pub op_is : get_or edit o 0 ≡ s.op
  pub number_is : get_or edit (o + 1) 0 ≡ s.number
  pub room : o + 1 < length edit
  pub what_at : At edit (o + 2) s.what

unfoldable pub StackIs : List ℕ → List ℕ → List Substitution → Type 0
StackIs edit stack [] = Unit {0}
StackIs edit stack (s ∷ σ) = StepAt edit (get_or stack (length σ) 0) s × StackIs edit stack σ
