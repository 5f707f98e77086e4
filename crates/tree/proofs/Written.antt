-- Writing a carried rule in one pass: the steps passed so far act as one simultaneous replacement.
use mathlib.Core.Path.{◌≡◌, refl, sym, ◌∙◌, ap, ap₂}
use mathlib.Core.Bool.{Bool, true, false, cond}
use mathlib.Core.List.{List, [], ◌∷◌, ◌++◌}
use Prim.Native.Nat.{ℕ, ◌+◌}
use lib.Dec.{eqb}
use borrow.Author.Tests.{eqb-true}
use Rattle.tree.proofs.Measured.{same-eq}
use Rattle.logic.specs.Syntax.{node, arrow, rule, Expr, label, complement, and, or, arrow_kind, union, minus, Edit, finish, add_label, take_label, add_arrow, take_arrow, choose}
use Rattle.logic.specs.Carry.{carry, followed_by}
use Rattle.logic.specs.Arity.{by_arity}
use Rattle.logic.proofs.Theorem.{carry_choose}
use Rattle.text.specs.Code.{code}
use Rattle.text.specs.Heads.{head1, head2}
use Rattle.tree.specs.Tree.{Tree, name, leaf, one, two, tree_code, graft, same, only, bare, tree}
use Rattle.tree.proofs.TreeLaws.{code-tree, tree-put_label, tree-put_arrow}
use Rattle.tree.specs.Stack.{Substitution, touched, becomes, env, written, shown, lead, inner}

pub graft-graft : (f g : ℕ → ℕ → Tree) (t : Tree) → graft g (graft f t) ≡ graft (λ c k. graft g (f c k)) t
unfolding graft
graft-graft f g (name c k) = refl
graft-graft f g (leaf h) = refl
graft-graft f g (one h x) = ap (one h) (graft-graft f g x)
graft-graft f g (two h x y) = ap₂ (two h) (graft-graft f g x) (graft-graft f g y)

pub graft-name : (t : Tree) → graft name t ≡ t
unfolding graft
graft-name (name c k) = refl
graft-name (leaf h) = refl
graft-name (one h x) = ap (one h) (graft-name x)
graft-name (two h x y) = ap₂ (two h) (graft-name x) (graft-name y)

-- one more step under a replacement
graft-only : (g : ℕ → ℕ → Tree) (c k : ℕ) (F : Tree) → ◌≡◌ {A = ℕ → ℕ → Tree} (λ c' k'. graft g (only c k F c' k')) (λ c' k'. cond (same c' k' c k) (graft g F) (g c' k'))
unfolding only graft
graft-only g c k F = λ i c' k'. go c' k' (same c' k' c k) i where
  go : (c' k' : ℕ) (b : Bool) → graft g (cond b F (name c' k')) ≡ cond b (graft g F) (g c' k')
  go c' k' true = refl
  go c' k' false = refl

-- a step and then what follows, under a stack, is what follows under the stack with that step
under-step : (σ : List Substitution) (s : Substitution) (F : Tree) → graft (env σ) F ≡ becomes s.op (env σ (touched s.op) s.number) (graft (env σ) s.what) → (t : Tree)
    → graft (env σ) (graft (only (touched s.op) s.number F) t) ≡ graft (env (s ∷ σ)) t
unfolding env
under-step σ s F e t =
    graft-graft (only (touched s.op) s.number F) (env σ) t
    ∙ ap (λ (g : ℕ → ℕ → Tree). graft g t) (graft-only (env σ) (touched s.op) s.number F)
    ∙ ap (λ (x : Tree). graft (λ c k. cond (same c k (touched s.op) s.number) x (env σ c k)) t) e

-- The text written under no steps is the code of the carried rule.
pub written-code : (Z : Edit) (K : Expr rule) → written [] Z K ≡ code (carry Z K)
written-code Z K = unfold written env in ap tree_code (graft-name (tree (carry Z K))) ∙ code-tree (carry Z K)

-- .. and this is how it is written.
pub written-finish : (σ : List Substitution) (K : Expr rule) → written σ finish K ≡ shown σ K
written-finish σ K = unfold written shown carry in refl

pub written-add_label : (σ : List Substitution) (k : ℕ) (E : Expr node) (Z : Edit) (K : Expr rule) → written σ (add_label k E Z) K ≡ written (record { op = 0x31; number = k; what = tree E } ∷ σ) Z K
unfolding written carry tree by_arity bare head1 head2 graft
written-add_label σ k E Z K = ap tree_code (ap (graft (env σ)) (tree-put_label k (or (label k) E) (carry Z K)) ∙ under-step σ (record { op = 0x31; number = k; what = tree E }) (tree (or (label k) E)) refl (tree (carry Z K)))

pub written-take_label : (σ : List Substitution) (k : ℕ) (E : Expr node) (Z : Edit) (K : Expr rule) → written σ (take_label k E Z) K ≡ written (record { op = 0x32; number = k; what = tree E } ∷ σ) Z K
unfolding written carry tree by_arity bare head1 head2 graft
written-take_label σ k E Z K = ap tree_code (ap (graft (env σ)) (tree-put_label k (and (label k) (complement E)) (carry Z K)) ∙ under-step σ (record { op = 0x32; number = k; what = tree E }) (tree (and (label k) (complement E))) refl (tree (carry Z K)))

pub written-add_arrow : (σ : List Substitution) (a : ℕ) (R : Expr arrow) (Z : Edit) (K : Expr rule) → written σ (add_arrow a R Z) K ≡ written (record { op = 0x33; number = a; what = tree R } ∷ σ) Z K
unfolding written carry tree by_arity bare head1 head2 graft
written-add_arrow σ a R Z K = ap tree_code (ap (graft (env σ)) (tree-put_arrow a (union (arrow_kind a) R) (carry Z K)) ∙ under-step σ (record { op = 0x33; number = a; what = tree R }) (tree (union (arrow_kind a) R)) refl (tree (carry Z K)))

pub written-take_arrow : (σ : List Substitution) (a : ℕ) (R : Expr arrow) (Z : Edit) (K : Expr rule) → written σ (take_arrow a R Z) K ≡ written (record { op = 0x34; number = a; what = tree R } ∷ σ) Z K
unfolding written carry tree by_arity bare head1 head2 graft
written-take_arrow σ a R Z K = ap tree_code (ap (graft (env σ)) (tree-put_arrow a (minus (arrow_kind a) R) (carry Z K)) ∙ under-step σ (record { op = 0x34; number = a; what = tree R }) (tree (minus (arrow_kind a) R)) refl (tree (carry Z K)))

pub written-choose : (σ : List Substitution) (K₁ : Expr rule) (P Q Z : Edit) (K : Expr rule)
    → written σ (choose K₁ P Q Z) K ≡ 0x25 ∷ (0x26 ∷ (0x27 ∷ shown σ K₁) ++ written σ (followed_by P Z) K) ++ (0x26 ∷ shown σ K₁ ++ written σ (followed_by Q Z) K)
unfolding written shown tree by_arity head1 head2 graft tree_code
written-choose σ K₁ P Q Z K = ap (λ (L : Expr rule). tree_code (graft (env σ) (tree L))) (carry_choose K₁ P Q Z K)

-- a name under a stack whose last step changes it, and under one whose last step does not
pub env-hit : (s : Substitution) (σ : List Substitution) (c k : ℕ) → same c k (touched s.op) s.number ≡ true → env (s ∷ σ) c k ≡ becomes s.op (env σ c k) (graft (env σ) s.what)
unfolding env
env-hit s σ c k e = let p = same-eq c k (touched s.op) s.number e in
    (λ t. cond (e t) (becomes s.op (env σ (touched s.op) s.number) (graft (env σ) s.what)) (env σ c k)) ∙ ap₂ (λ (u v : ℕ). becomes s.op (env σ u v) (graft (env σ) s.what)) (sym p.0) (sym p.1)

pub env-miss : (s : Substitution) (σ : List Substitution) (c k : ℕ) → same c k (touched s.op) s.number ≡ false → env (s ∷ σ) c k ≡ env σ c k
env-miss s σ c k e = unfold env in λ t. cond (e t) (becomes s.op (env σ (touched s.op) s.number) (graft (env σ) s.what)) (env σ c k)

pub code-becomes : (b : ℕ) (x E : Tree) → tree_code (becomes b x E) ≡ lead b ∷ tree_code x ++ inner b (tree_code E)
unfolding tree_code
code-becomes b x E = go (eqb b 0x31) (eqb b 0x32) (eqb b 0x33) (clash b) where
  clash : (b : ℕ) → eqb b 0x31 ≡ true → eqb b 0x32 ≡ false
  clash b e = ap (λ (u : ℕ). eqb u 0x32) (eqb-true b 0x31 e)

  go : (p q r : Bool) → (p ≡ true → q ≡ false) → tree_code (cond p (two (0x07 ∷ []) x E) (cond q (two (0x06 ∷ []) x (one (0x05 ∷ []) E)) (cond r (two (0x13 ∷ []) x E) (two (0x15 ∷ []) x E)))) ≡ cond p 0x07 (cond q 0x06 (cond r 0x13 0x15)) ∷ tree_code x ++ cond q (0x05 ∷ tree_code E) (tree_code E)
  go true q r f = sym (ap (λ (u : Bool). 0x07 ∷ tree_code x ++ cond u (0x05 ∷ tree_code E) (tree_code E)) (f refl))
  go false true r f = refl
  go false false true f = refl
  go false false false f = refl
