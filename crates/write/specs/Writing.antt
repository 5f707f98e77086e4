-- An expression written under the steps passed.
use Rattle.std.specs.Prelude.{◌≡◌, List, ℕ, ◌+◌, ◌≤◌, length}
use Rattle.tree.specs.Tree.{Tree, tree_code, graft}
use Rattle.tree.specs.Stack.{Substitution, env}
use Rattle.ends.specs.Shapes.{At}
use Rattle.write.specs.Offsets.{StackIs}
use Rattle.write.specs.Links.{last_in}

-- some steps are on the stack; the one below index j is the last that touches a name, and what the name becomes under them fits a
-- buffer of `room` bytes from `pos` on
pub record SomeName (edit stack : List ℕ) (j c k pos room : ℕ) : Type 0 where
  pub steps : List Substitution
  pub is : j ≡ last_in edit stack (length steps) c k
  pub stands : StackIs edit stack steps
  pub fits : pos + length (tree_code (env steps c k)) ≤ room

-- some steps are on the stack, and an expression that stands in a text fits the buffer under them, too
pub record SomeShown (text : List ℕ) (at : ℕ) (edit stack : List ℕ) (h pos room : ℕ) : Type 0 where
  pub steps : List Substitution
  pub is : h ≡ length steps
  pub stands : StackIs edit stack steps
  pub what : Tree
  pub what_at : At text at what
  pub fits : pos + length (tree_code (graft (env steps) what)) ≤ room
