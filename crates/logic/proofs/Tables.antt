-- A function with one value changed: that value, the others, what holds for all of them.
use mathlib.Core.Path.{◌≡◌, refl, sym, ◌∙◌, ap, fun_ext}
use mathlib.Core.Bool.{Bool, true, false, cond}
use Prim.Native.Nat.{ℕ}
use lib.Dec.{eqb}
use borrow.Author.Tests.{eqb-true, eq-eqb, ne_eqb}
use Rattle.logic.specs.Steps.{update}

pub cond_both : {A : Type 0} (P : A → Type 0) (b : Bool) (x y : A) → P x → P y → P (cond b x y)
cond_both P true x y p q = p
cond_both P false x y p q = q

-- what holds for a value of the function and for v holds after the change
pub update_all : {A : Type 0} (P : A → Type 0) (f : ℕ → A) (k : ℕ) (v : A) (x : ℕ) → P (f x) → P v → P (update f k v x)
update_all P f k v x h p = unfold update in cond_both P (eqb x k) v (f x) p h

-- at any number other than k nothing changes
pub update_other : {A : Type 0} (f : ℕ → A) (k : ℕ) (v : A) (x : ℕ) → (x ≡ k → ⊥) → update f k v x ≡ f x
update_other f k v x n = unfold update in ap (λ b. cond b v (f x)) (ne_eqb x k n)

pub update_same : {A : Type 0} (f : ℕ → A) (k : ℕ) (v : A) → update f k v k ≡ v
update_same f k v = unfold update in ap (λ b. cond b v (f k)) (eq-eqb k k refl)

-- changing a value and putting the original back gives the original function
pub update-back : {A : Type 0} (f : ℕ → A) (k : ℕ) (u v : A) → f k ≡ v → update (update f k u) k v ≡ f
unfolding update
update-back f k u v h = fun_ext (λ x. go x (eqb x k) refl) where
  go : (x : ℕ) (b : Bool) → eqb x k ≡ b → cond b v (cond b u (f x)) ≡ f x
  go x true e = sym h ∙ ap f (sym (eqb-true x k e))
  go x false e = refl
