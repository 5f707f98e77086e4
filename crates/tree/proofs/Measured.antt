-- Measuring backwards gives the measure of the carried rule.
use mathlib.Core.Path.{◌≡◌, refl, sym, ◌∙◌, ap, ap₂}
use mathlib.Core.Bool.{Bool, true, false, cond, ◌&&◌, and-eq-true_iff}
use mathlib.Core.List.{[], ◌∷◌}
use Prim.Native.Nat.{ℕ, zero, suc, ◌+◌, ◌*◌, max, ◌≤◌, ◌<◌}
use native.Mathlib.Omega.{arith}
use native.Mathlib.Nat.{zero-max, max-zero, suc-max-suc}
use lib.Dec.{eqb}
use borrow.Author.Tests.{eq-eqb, ne_eqb, eqb-true, eqb-false}
use Rattle.logic.specs.Syntax.{rule, Expr, label, complement, and, or, arrow_kind, union, minus, Edit, finish, add_label, take_label, add_arrow, take_arrow, choose}
use Rattle.logic.specs.Carry.{carry}
use Rattle.logic.specs.Arity.{by_arity}
use Rattle.text.specs.Heads.{head1, head2}
use Rattle.tree.specs.Tree.{Tree, name, leaf, one, two, graft, same, only, size, height, count, under, deep, bare, tree}
use Rattle.tree.proofs.TreeLaws.{tree-put_label, tree-put_arrow}
use Rattle.tree.specs.Sizes.{Measure, measure, substituted, chosen, back}

pub under-max : (d x y : ℕ) → under d (max x y) ≡ max (under d x) (under d y)
unfolding under
under-max zero x y = refl
under-max (suc d) zero y = ap (under (suc d)) (zero-max y) ∙ omega arith
under-max (suc d) (suc x) zero = ap (under (suc d)) (max-zero (suc x)) ∙ omega arith
under-max (suc d) (suc x) (suc y) = ap (under (suc d)) (suc-max-suc x y) ∙ omega arith

pub max-under : (x y d : ℕ) → under (max x y) d ≡ max (under x d) (under y d)
unfolding under
max-under zero y d = ap (λ (u : ℕ). under u d) (zero-max y) ∙ omega arith
max-under (suc x) zero d = ap (λ (u : ℕ). under u d) (max-zero (suc x)) ∙ omega arith
max-under (suc x) (suc y) zero = ap (λ (u : ℕ). under u zero) (suc-max-suc x y) ∙ omega arith
max-under (suc x) (suc y) (suc d) = ap (λ (u : ℕ). under u (suc d)) (suc-max-suc x y) ∙ omega arith

pub under-under : (a b c : ℕ) → under (under a b) c ≡ under a (under b c)
unfolding under
under-under zero b c = refl
under-under (suc a) zero c = refl
under-under (suc a) (suc b) zero = refl
under-under (suc a) (suc b) (suc c) = omega arith

pub under_one : (x : ℕ) → under 1 x ≡ x
unfolding under
under_one zero = refl
under_one (suc x) = omega arith

pub under-nothing : (x : ℕ) → under x 0 ≡ 0
unfolding under
under-nothing zero = refl
under-nothing (suc x) = refl

pub suc-max : (a y : ℕ) → suc (max a y) ≡ max (suc a) (under 2 y)
unfolding under
suc-max a zero = omega arith
suc-max a (suc y) = omega arith

pub under_more : (m x : ℕ) → 0 < x → under (suc m) x ≡ m + x
unfolding under
under_more m zero p = absurd (omega arith)
under_more m (suc x) p = omega arith

pub height-pos : (t : Tree) → 0 < height t
unfolding height
height-pos (name c k) = omega arith
height-pos (leaf h) = omega arith
height-pos (one h x) = omega arith
height-pos (two h x y) = omega arith

eqb-flip : (x y : ℕ) → eqb x y ≡ eqb y x
eqb-flip x y = go (eqb x y) (eqb-true x y) (eqb-false x y) where
  go : (b : Bool) → (b ≡ true → x ≡ y) → (b ≡ false → x ≡ y → ⊥) → b ≡ eqb y x
  go true f g = sym (eq-eqb y x (sym (f refl)))
  go false f g = sym (ne_eqb y x (λ e. g refl (sym e)))

pub same-eq : (c k c' k' : ℕ) → same c k c' k' ≡ true → (c ≡ c') × (k ≡ k')
same-eq c k c' k' e = let p = (and-eq-true_iff (eqb c c') (eqb k k')).0 e in (eqb-true _ _ p.0, eqb-true _ _ p.1)

pub same_self : (c k : ℕ) → same c k c k ≡ true
same_self c k = ap₂ ◌&&◌ (eq-eqb c c refl) (eq-eqb k k refl)

-- if the second name is the third, or the first is
alike-r : (a b c k c' k' : ℕ) → same c' k' c k ≡ true → same a b c' k' ≡ same a b c k
alike-r a b c k c' k' e = let p = same-eq c' k' c k e in ap₂ (λ (u v : ℕ). same a b u v) p.0 p.1

pub alike-l : (a b c k c' k' : ℕ) → same a b c k ≡ true → same a b c' k' ≡ same c' k' c k
alike-l a b c k c' k' e = let p = same-eq a b c k e in ap₂ (λ (u v : ℕ). same u v c' k') p.0 p.1 ∙ ap₂ ◌&&◌ (eqb-flip c c') (eqb-flip k k')

ticked : {a b : Bool} → a ≡ b → ◌≡◌ {A = ℕ} (cond a 1 0) (cond b 1 0)
ticked e = ap {B = ℕ} (λ (x : Bool). cond x 1 0) e

pub same-measure : {M N : Measure} → M.len ≡ N.len → M.tall ≡ N.tall → ((c k : ℕ) → M.counts c k ≡ N.counts c k) → ((c k : ℕ) → M.deeps c k ≡ N.deeps c k) → M ≡ N
same-measure p q r s = λ i. record { len = p i; tall = q i; counts = λ c k. r c k i; deeps = λ c k. s c k i }

-- one name of a tree replaced by a tree
module _ (c k : ℕ) (F : Tree) where
  pub size-only : (x : ℕ) → size F ≡ 2 + x → (t : Tree) → size (graft (only c k F) t) ≡ size t + count t c k * x
  unfolding size graft only count
  size-only x e (name c' k') = go (same c' k' c k) where
    go : (b : Bool) → size (cond b F (name c' k')) ≡ 2 + cond b 1 0 * x
    go true = omega (arith, e)
    go false = omega arith
  size-only x e (leaf h) = omega arith
  size-only x e (one h u) = omega (arith, size-only x e u)
  size-only x e (two h u v) = omega (arith, size-only x e u, size-only x e v)

  pub height-only : (t : Tree) → height (graft (only c k F) t) ≡ max (height t) (under (deep t c k) (height F))
  unfolding height graft only deep under
  height-only (name c' k') = go (same c' k' c k) where
    go : (b : Bool) → height (cond b F (name c' k')) ≡ max 1 (under (cond b 1 0) (height F))
    go true = omega (arith, under_one (height F), height-pos F)
    go false = omega arith
  height-only (leaf h) = omega arith
  height-only (one h u) = ap suc (height-only u) ∙ suc-max _ _ ∙ ap (max (suc (height u))) (sym (under-under 2 (deep u c k) (height F)))
  height-only (two h u v) =
      ap₂ (λ (x y : ℕ). suc (max x y)) (height-only u) (height-only v) ∙ step (height u) (height v) (under (deep u c k) (height F)) (under (deep v c k) (height F))
      ∙ ap (max (suc (max (height u) (height v)))) (ap (under 2) (sym (max-under (deep u c k) (deep v c k) (height F))) ∙ sym (under-under 2 (max (deep u c k) (deep v c k)) (height F)))
    where
      step : (a b x y : ℕ) → suc (max (max a x) (max b y)) ≡ max (suc (max a b)) (under 2 (max x y))
      step a b x y = (let e : suc (max (max a x) (max b y)) ≡ suc (max (max a b) (max x y)) = omega arith in e) ∙ suc-max (max a b) (max x y)

  pub count-only : (c' k' : ℕ) (t : Tree) → count (graft (only c k F) t) c' k' ≡ cond (same c' k' c k) 0 (count t c' k') + count t c k * count F c' k'
  unfolding count graft only
  count-only c' k' (name a b) = go (same a b c k) (same c' k' c k) (alike-r a b c k c' k') (alike-l a b c k c' k') where
    go : (b₁ s : Bool) → (s ≡ true → same a b c' k' ≡ b₁) → (b₁ ≡ true → same a b c' k' ≡ s) → count (cond b₁ F (name a b)) c' k' ≡ cond s 0 (cond (same a b c' k') 1 0) + cond b₁ 1 0 * count F c' k'
    go true true f g = omega arith
    go true false f g = omega (arith, ticked (g refl))
    go false true f g = omega (arith, ticked (f refl))
    go false false f g = omega arith
  count-only c' k' (leaf h) = go (same c' k' c k) where
    go : (s : Bool) → 0 ≡ cond s 0 0 + 0 * count F c' k'
    go true = omega arith
    go false = omega arith
  count-only c' k' (one h u) = count-only c' k' u
  count-only c' k' (two h u v) = ap₂ ◌+◌ (count-only c' k' u) (count-only c' k' v) ∙ go (same c' k' c k) where
    go : (s : Bool) → cond s 0 (count u c' k') + count u c k * count F c' k' + (cond s 0 (count v c' k') + count v c k * count F c' k') ≡ cond s 0 (count u c' k' + count v c' k') + (count u c k + count v c k) * count F c' k'
    go true = omega arith
    go false = omega arith

  pub deep-only : (c' k' : ℕ) (t : Tree) → deep (graft (only c k F) t) c' k' ≡ max (cond (same c' k' c k) 0 (deep t c' k')) (under (deep t c k) (deep F c' k'))
  unfolding deep graft only under
  deep-only c' k' (name a b) = go (same a b c k) (same c' k' c k) (alike-r a b c k c' k') (alike-l a b c k c' k') where
    go : (b₁ s : Bool) → (s ≡ true → same a b c' k' ≡ b₁) → (b₁ ≡ true → same a b c' k' ≡ s) → deep (cond b₁ F (name a b)) c' k' ≡ max (cond s 0 (cond (same a b c' k') 1 0)) (under (cond b₁ 1 0) (deep F c' k'))
    go true true f g = omega (arith, under_one (deep F c' k'))
    go true false f g = omega (arith, under_one (deep F c' k'), ticked (g refl))
    go false true f g = omega (arith, ticked (f refl))
    go false false f g = omega arith
  deep-only c' k' (leaf h) = go (same c' k' c k) where
    go : (s : Bool) → 0 ≡ max (cond s 0 0) 0
    go true = omega arith
    go false = omega arith
  deep-only c' k' (one h u) = ap (under 2) (deep-only c' k' u) ∙ go (same c' k' c k) (deep u c' k') (deep u c k) (deep F c' k') where
    go : (s : Bool) (x y z : ℕ) → under 2 (max (cond s 0 x) (under y z)) ≡ max (cond s 0 (under 2 x)) (under (under 2 y) z)
    go true x y z = omega (arith, under-max 2 0 (under y z), under-under 2 y z, under-nothing 2)
    go false x y z = omega (arith, under-max 2 x (under y z), under-under 2 y z)
  deep-only c' k' (two h u v) = ap₂ (λ (x y : ℕ). under 2 (max x y)) (deep-only c' k' u) (deep-only c' k' v) ∙ go (same c' k' c k) (deep u c' k') (deep v c' k') (deep u c k) (deep v c k) (deep F c' k')
    where
      go : (s : Bool) (x x₂ y y₂ z : ℕ) → under 2 (max (max (cond s 0 x) (under y z)) (max (cond s 0 x₂) (under y₂ z))) ≡ max (cond s 0 (under 2 (max x x₂))) (under (under 2 (max y y₂)) z)
      go true x x₂ y y₂ z = omega (arith, under-max 2 (max 0 (under y z)) (max 0 (under y₂ z)), under-max 2 0 (under y z), under-max 2 0 (under y₂ z), under-nothing 2, under-under 2 (max y y₂) z, ap (under 2) (max-under y y₂ z), under-max 2 (under y z) (under y₂ z))
      go false x x₂ y y₂ z = omega (arith, under-max 2 (max x (under y z)) (max x₂ (under y₂ z)), under-max 2 x (under y z), under-max 2 x₂ (under y₂ z), under-max 2 x x₂, under-under 2 (max y y₂) z, ap (under 2) (max-under y y₂ z), under-max 2 (under y z) (under y₂ z))

-- a step: F has `more` codes, and under them the name once and E
module _ (c k more : ℕ) (E F : Tree) (size-F : size F ≡ 2 + (more + size E)) (height-F : height F ≡ more + height E)
    (count-F : (c' k' : ℕ) → count F c' k' ≡ cond (same c k c' k') 1 0 + count E c' k')
    (deep-F : (c' k' : ℕ) → deep F c' k' ≡ max (under 2 (cond (same c k c' k') 1 0)) (under (suc more) (deep E c' k'))) where
  step_count : (t : Tree) (c' k' : ℕ) → count (graft (only c k F) t) c' k' ≡ count t c' k' + count t c k * count E c' k'
  step_count t c' k' = count-only c k F c' k' t ∙ ap (λ (x : ℕ). cond (same c' k' c k) 0 (count t c' k') + count t c k * x) (count-F c' k') ∙ go (same c' k' c k) refl where
    go : (s : Bool) → same c' k' c k ≡ s → cond s 0 (count t c' k') + count t c k * (cond (same c k c' k') 1 0 + count E c' k') ≡ count t c' k' + count t c k * count E c' k'
    go true e = let p = same-eq c' k' c k e in
        omega (arith, ap₂ (count t) p.0 p.1, ap (λ (x : ℕ). count t c k * (x + count E c' k')) (ticked (alike-r c k c k c' k' e ∙ same_self c k)))
    go false e = omega (arith, ap (λ (x : ℕ). count t c k * (x + count E c' k')) (ticked (alike-l c k c k c' k' (same_self c k) ∙ e)))

  step-deep : (t : Tree) (c' k' : ℕ) → deep (graft (only c k F) t) c' k' ≡ max (cond (same c' k' c k) (under (deep t c k) 2) (deep t c' k')) (under (under (deep t c k) (suc more)) (deep E c' k'))
  unfolding under
  step-deep t c' k' = deep-only c k F c' k' t ∙ ap (λ (x : ℕ). max (cond (same c' k' c k) 0 (deep t c' k')) (under (deep t c k) x)) (deep-F c' k') ∙ go (same c' k' c k) refl where
    d : ℕ
    d = deep t c k

    go : (s : Bool) → same c' k' c k ≡ s → max (cond s 0 (deep t c' k')) (under d (max (under 2 (cond (same c k c' k') 1 0)) (under (suc more) (deep E c' k')))) ≡ max (cond s (under d 2) (deep t c' k')) (under (under d (suc more)) (deep E c' k'))
    go true e = omega (arith, under-max d (under 2 (cond (same c k c' k') 1 0)) (under (suc more) (deep E c' k')), under-under d (suc more) (deep E c' k'), ap (λ (x : ℕ). under d (under 2 x)) (ticked (alike-r c k c k c' k' e ∙ same_self c k)))
    go false e = omega (arith, under-max d (under 2 (cond (same c k c' k') 1 0)) (under (suc more) (deep E c' k')), under-under d (suc more) (deep E c' k'), ap (λ (x : ℕ). under d (under 2 x)) (ticked (alike-l c k c k c' k' (same_self c k) ∙ e)), under-nothing d)

  pub step-measure : (t : Tree) → measure (graft (only c k F) t) ≡ substituted c k more (measure E) (measure t)
  unfolding measure substituted
  step-measure t = same-measure (size-only c k F (more + size E) size-F t) tall-path (step_count t) (step-deep t) where
    tall-path : height (graft (only c k F) t) ≡ max (height t) (under (under (deep t c k) (suc more)) (height E))
    tall-path = height-only c k F t ∙ ap (λ (x : ℕ). max (height t) (under (deep t c k) x)) (height-F ∙ sym (under_more more (height E) (height-pos E))) ∙ ap (max (height t)) (sym (under-under (deep t c k) (suc more) (height E)))

-- 07 c k E, 13 c k E, 15 c k E
pub plain_step : (b c k : ℕ) (E t : Tree) → measure (graft (only c k (two (b ∷ []) (name c k) E)) t) ≡ substituted c k 1 (measure E) (measure t)
unfolding size height count deep
plain_step b c k E t = step-measure c k 1 E (two (b ∷ []) (name c k) E) (omega arith) (omega (arith, height-pos E)) (λ c' k'. refl) (λ c' k'. under-max 2 (cond (same c k c' k') 1 0) (deep E c' k')) t

-- 06 c k 05 E
pub not_step : (c k : ℕ) (E t : Tree) → measure (graft (only c k (two (0x06 ∷ []) (name c k) (one (0x05 ∷ []) E))) t) ≡ substituted c k 2 (measure E) (measure t)
unfolding size height count deep under
not_step c k E t = step-measure c k 2 E (two (0x06 ∷ []) (name c k) (one (0x05 ∷ []) E)) (omega arith) (omega (arith, height-pos E)) (λ c' k'. refl)
    (λ c' k'. under-max 2 (cond (same c k c' k') 1 0) (under 2 (deep E c' k')) ∙ ap (max (under 2 (cond (same c k c' k') 1 0))) (sym (under-under 2 2 (deep E c' k')))) t

pub choice-measure : (K T U : Tree) → measure (two (0x25 ∷ []) (two (0x26 ∷ []) (one (0x27 ∷ []) K) T) (two (0x26 ∷ []) K U)) ≡ chosen 1 (measure K) (measure T) (measure U)
unfolding measure chosen size height count deep under
choice-measure K T U = same-measure (omega arith) (omega arith) (λ c k. omega arith) (λ c k. deep_at (deep K c k) (deep T c k) (deep U c k)) where
  deep_at : (x y z : ℕ) → under 2 (max (under 2 (max (under 2 x) y)) (under 2 (max x z))) ≡ max (max (under 3 y) (under 3 z)) (under 4 x)
  deep_at x y z = omega (arith, under-max 2 (under 2 (max (under 2 x) y)) (under 2 (max x z)), deeper 2 (max (under 2 x) y), deeper 2 (max x z), deeper 3 x, under-max 3 (under 2 x) y, under-max 3 x z, under-under 3 2 x, low x)
    where
      deeper : (d w : ℕ) → under 2 (under d w) ≡ under (under 2 d) w
      deeper d w = sym (under-under 2 d w)

      low : (x : ℕ) → under 3 x ≤ under 4 x
      low zero = omega arith
      low (suc x) = omega arith

-- The measure of a carried rule.
pub measured : (Z : Edit) (K : Expr rule) → measure (tree (carry Z K)) ≡ back 1 Z (measure (tree K))
unfolding carry back tree by_arity bare head1 head2
measured finish K = refl
measured (add_label k E Z) K = ap measure (tree-put_label k (or (label k) E) (carry Z K)) ∙ plain_step 0x07 0x03 k (tree E) (tree (carry Z K)) ∙ ap (substituted 0x03 k 1 (measure (tree E))) (measured Z K)
measured (take_label k E Z) K = ap measure (tree-put_label k (and (label k) (complement E)) (carry Z K)) ∙ not_step 0x03 k (tree E) (tree (carry Z K)) ∙ ap (substituted 0x03 k 2 (measure (tree E))) (measured Z K)
measured (add_arrow a R Z) K = ap measure (tree-put_arrow a (union (arrow_kind a) R) (carry Z K)) ∙ plain_step 0x13 0x11 a (tree R) (tree (carry Z K)) ∙ ap (substituted 0x11 a 1 (measure (tree R))) (measured Z K)
measured (take_arrow a R Z) K = ap measure (tree-put_arrow a (minus (arrow_kind a) R) (carry Z K)) ∙ plain_step 0x15 0x11 a (tree R) (tree (carry Z K)) ∙ ap (substituted 0x11 a 1 (measure (tree R))) (measured Z K)
measured (choose K₁ P Q Z) K =
    choice-measure (tree K₁) (tree (carry P (carry Z K))) (tree (carry Q (carry Z K)))
    ∙ ap₂ (chosen 1 (measure (tree K₁))) (measured P (carry Z K) ∙ ap (back 1 P) (measured Z K)) (measured Q (carry Z K) ∙ ap (back 1 Q) (measured Z K))
