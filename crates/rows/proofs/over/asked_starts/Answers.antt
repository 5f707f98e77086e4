use mathlib.Core.Path.{refl, ◌∙◌}
use mathlib.Core.Bool.{◌&&◌}
use native.Mathlib.Omega.{arith}
use Rattle.rows.proofs.Quantifiers.{answered-sets}
use Rattle.rows.proofs.over.asked_starts.Goals as goal

pub returns-then-within-all : goal.returns-then-within-all
returns-then-within-all g c v w p q = let s = c in c.both.ensures ∙ answered-sets 0x08 _ _ _ ◌&&◌ _ (omega (arith, s.requires.0)) s.requires.1 (c.all_starts.ensures v w p q) refl (λ a b. refl)
