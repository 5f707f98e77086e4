use mathlib.Core.Path.{refl, ap₂, ◌∙◌}
use mathlib.Core.Bool.{not, ◌&&◌}
use Rattle.bitset.specs.Words.{combined}
use Rattle.bitset.proofs.SetLaws.{combined-sets}
use Rattle.rows.proofs.counting.looked.Goals as goal

pub returns-in-9 : goal.returns-in-9
returns-in-9 c n nodes w h a e = rw c.in-9.is (c.minus.ensures ∙ ap₂ (combined (λ x y. x && not y)) a e ∙ combined-sets (λ x y. x && not y) refl n nodes w h)
