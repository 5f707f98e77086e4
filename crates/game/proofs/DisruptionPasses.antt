-- When the disruption passes.
use mathlib.Core.Path.{◌≡◌, refl, sym, ◌∙◌, ap}
use mathlib.Core.Bool.{true, not, ◌&&◌}
use Prim.Native.Nat.{ℕ, zero, suc}
use native.Mathlib.Omega.{arith}
use lib.Dec.{eqb}
use lib.ListN.{length}
use borrow.Author.Tests.{lt-ltb, eq-eqb, ne_eqb}
use Rattle.logic.specs.Graph.{Graph, any_below}
use Rattle.logic.proofs.Below.{any-one}
use Rattle.game.specs.Game.{disruption, Game, pass, may_leave_def, can_make, legal}

-- The disruption's edits can always be made, so it passes only if it has none ("0 to 4 disruption edits").
pub disruption-passes : (G : Game) (g : Graph) → legal G disruption g pass ≡ eqb (length G.disruptions) 0
unfolding legal can_make may_leave_def any_below
disruption-passes G g = go (length G.disruptions) refl where
  go : (m : ℕ) → length G.disruptions ≡ m → legal G disruption g pass ≡ eqb (length G.disruptions) 0
  go zero e = ap (λ m. not (any_below m (can_make G disruption g))) e ∙ sym (eq-eqb (length G.disruptions) 0 e)
  go (suc m) e =
      ap not (any-one (length G.disruptions) (can_make G disruption g) 0 (omega arith) (ap (◌&& true) (lt-ltb 0 (length G.disruptions) (omega arith))))
      ∙ sym (ne_eqb (length G.disruptions) 0 (λ z. absurd (omega arith)))
