-- What the first step of an edit does to a measure, and to the edit without its idle steps.
use mathlib.Core.Path.{◌≡◌, refl, ap}
use mathlib.Core.Bool.{Bool, true, false, cond}
use mathlib.Core.List.{List, ◌∷◌, ◌++◌}
use Prim.Native.Nat.{ℕ}
use lib.Dec.{eqb}
use Rattle.logic.specs.Syntax.{Edit, finish, add_label, take_label, add_arrow, take_arrow, choose}
use Rattle.text.specs.Code.{code, edit_code}
use Rattle.tree.specs.Tree.{tree}
use Rattle.tree.specs.Sizes.{Measure, measure, substituted, chosen, back}
use Rattle.tree.specs.Stack.{touched}
use Rattle.ends.specs.Edits.{behind_step}
use Rattle.ends.proofs.FirstSteps.{edit_tag, edit_number, edit_tree, step_code, step-code, IsChoose}
use Rattle.measure.specs.Pruned.{pruned}

-- 31 to 34
pub back_step : (Z : Edit) → (edit_tag Z ≡ 0x30 → ⊥) → (edit_tag Z ≡ 0x35 → ⊥) → (r : ℕ) (M : Measure)
    → back r Z M ≡ substituted (touched (edit_tag Z)) (edit_number Z) (cond (eqb (edit_tag Z) 0x32) 2 1) (measure (edit_tree Z)) (back r (behind_step Z) M)
unfolding back behind_step
back_step finish n m r M = absurd (n refl)
back_step (add_label k E Z) n m r M = refl
back_step (take_label k E Z) n m r M = refl
back_step (add_arrow a R Z) n m r M = refl
back_step (take_arrow a R Z) n m r M = refl
back_step (choose K P Q Z) n m r M = absurd (m refl)

either-code : (b : Bool) (Y step : Edit) {l : List ℕ} → edit_code step ≡ l → edit_code (cond b Y step) ≡ cond b (edit_code Y) l
either-code true Y step e = refl
either-code false Y step e = e

pub pruned-step : (Z : Edit) → (edit_tag Z ≡ 0x30 → ⊥) → (edit_tag Z ≡ 0x35 → ⊥) → (r : ℕ) (M : Measure)
    → edit_code (pruned r Z M) ≡ cond (eqb ((back r (behind_step Z) M).counts (touched (edit_tag Z)) (edit_number Z)) 0) (edit_code (pruned r (behind_step Z) M)) (step_code Z ++ edit_code (pruned r (behind_step Z) M))
unfolding pruned behind_step
pruned-step finish n m r M = absurd (n refl)
pruned-step (add_label k E Z) n m r M = either-code (eqb ((back r Z M).counts 0x03 k) 0) (pruned r Z M) (add_label k E (pruned r Z M)) (step-code (add_label k E (pruned r Z M)) n m)
pruned-step (take_label k E Z) n m r M = either-code (eqb ((back r Z M).counts 0x03 k) 0) (pruned r Z M) (take_label k E (pruned r Z M)) (step-code (take_label k E (pruned r Z M)) n m)
pruned-step (add_arrow a R Z) n m r M = either-code (eqb ((back r Z M).counts 0x11 a) 0) (pruned r Z M) (add_arrow a R (pruned r Z M)) (step-code (add_arrow a R (pruned r Z M)) n m)
pruned-step (take_arrow a R Z) n m r M = either-code (eqb ((back r Z M).counts 0x11 a) 0) (pruned r Z M) (take_arrow a R (pruned r Z M)) (step-code (take_arrow a R (pruned r Z M)) n m)
pruned-step (choose K P Q Z) n m r M = absurd (m refl)

-- 35
module _ {text : List ℕ} {at : ℕ} {Z : Edit} (c : IsChoose text at Z) (r : ℕ) (M : Measure) where
  pub back-choose : back r Z M ≡ chosen r (measure (tree c.K)) (back r c.P (back r (behind_step Z) M)) (back r c.Q (back r (behind_step Z) M))
  back-choose = unfold back in ap (λ (Y : Edit). back r Y M) c.is

  pub pruned-choose : edit_code (pruned r Z M) ≡ (0x35 ∷ code c.K) ++ edit_code (pruned r c.P (back r (behind_step Z) M)) ++ edit_code (pruned r c.Q (back r (behind_step Z) M)) ++ edit_code (pruned r (behind_step Z) M)
  pruned-choose = unfold pruned edit_code in ap (λ (Y : Edit). edit_code (pruned r Y M)) c.is
