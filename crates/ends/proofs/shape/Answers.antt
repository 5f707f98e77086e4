-- Each code by itself, and a byte that is not a code.
use mathlib.Core.Path.{◌≡◌, refl, sym}
use mathlib.Core.List.{List, [], ◌∷◌}
use mathlib.Core.Logic.{◌≢◌}
use Prim.Native.Nat.{ℕ, zero, suc}
use lib.ListN.{get_or}
use Rattle.logic.proofs.ListLaws.{all-nested}
use Rattle.text.proofs.Entries.{expression_bytes}
use Rattle.ends.specs.Shapes.{shapes}
use Rattle.ends.proofs.shape.Goals as goal

-- Each code by itself, and a byte that is not a code.
-- a number that is not one of those with an entry other than 0
Elsewhere : ℕ → (ℕ → ℕ) → List ℕ → Type 0
Elsewhere c f [] = Unit {0}
Elsewhere c f (zero ∷ l) = Elsewhere c (λ i. f (suc i)) l
Elsewhere c f (suc x ∷ l) = (c ≢ f 0) × Elsewhere c (λ i. f (suc i)) l

no-entry : (c : ℕ) (f : ℕ → ℕ) (l : List ℕ) (i : ℕ) → c ≡ f i → Elsewhere c f l → get_or l i 0 ≡ 0
unfolding Elsewhere
no-entry c f [] i e d = refl
no-entry c f (zero ∷ l) zero e d = refl
no-entry c f (suc x ∷ l) zero e d = absurd (d.0 e)
no-entry c f (zero ∷ l) (suc i) e d = no-entry c (λ j. f (suc j)) l i e d
no-entry c f (suc x ∷ l) (suc i) e d = no-entry c (λ j. f (suc j)) l i e d.1

pub returns-in_default : goal.returns-in_default
unfolding Elsewhere shapes
returns-in_default c = sym (no-entry _ (λ i. i) shapes _ refl (all-nested _ (λ b. c.args.code ≢ b) expression_bytes c.in_default.in_default-own.rest).1)
