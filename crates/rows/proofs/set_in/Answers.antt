use mathlib.Core.Path.{ap, ap₂, ◌∙◌}
use mathlib.Core.Bool.{not, ◌&&◌}
use Prim.Native.Nat.{ℕ}
use lib.Dec.{eqb}
use Rattle.bitset.specs.Words.{combined}
use Rattle.rows.proofs.OperationLaws.{minus-empty}
use Rattle.rows.proofs.set_in.Goals as goal

pub returns : goal.returns
returns c n v w h p q = ap (λ (x : ℕ). eqb x 0) (c.minus.ensures ∙ ap₂ (combined (λ a b. a && not b)) p q) ∙ minus-empty n v w h
