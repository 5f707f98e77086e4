-- Making a step in a term, by how many operands its first code has; and where a step is made, a term begins.
use mathlib.Core.Path.{◌≡◌, refl, sym, ◌∙◌, ap, ap₂, subst}
use mathlib.Core.Bool.{Bool, true, false}
use Prim.Native.Nat.{ℕ, ◌+◌, ◌-◌, ◌≤◌, ◌<◌}
use native.Mathlib.Omega.{arith}
use lib.Dec.{eqb, ltb}
use lib.ListN.{length}
use borrow.Author.Tests.{lt-ltb, le-ltb, ltb-false, ne_eqb, eqb-true}
use Rattle.logic.specs.Syntax.{Sort, Expr}
use Rattle.logic.specs.Arity.{Nullary, Unary, Binary, build0, build1, build2, by_arity}
use Rattle.logic.proofs.ArityLaws.{by_arity-0, by_arity-1, by_arity-2}
use Rattle.text.specs.Code.{code}
use Rattle.text.specs.Heads.{head1, head2}
use Rattle.text.proofs.HeadLaws.{head1-some, head2-some}
use Rattle.shortening.specs.Laws.{laws, Made, made, unfit, numbered}
use Rattle.shortening.specs.Checking.{map_made, by_law, at_root, in_one, in_two, make_step}
use Rattle.shortening.proofs.Numbered.{unfit-not-made}
use Rattle.shortening.proofs.StandingTerms.{StandsIn, stands-root, stands-only, stands-first, stands-second}

map-made : {A B : Type 0} (f : A → B) (m : Made A) (b : B) → map_made f m ≡ made b → (a : A) × (m ≡ made a)
unfolding map_made
map-made f (made a) b q = (a, refl)
map-made f unfit b q = absurd (unfit-not-made b q)

module _ (n : ℕ) where
  -- The step of a code without operands, with one, with two.
  step-0 : {s : Sort} (b : Nullary s) → make_step n (build0 b) ≡ at_root n (build0 b) (λ at. unfit)
  step-0 b = unfold make_step in rw by_arity-0

  step-1 : {u t : Sort} (b : Unary u t) (x : Expr u) → make_step n (build1 b x) ≡ at_root n (build1 b x) (in_one (length (head1 b)) (build1 b) (make_step n x))
  step-1 b x = unfold make_step in rw by_arity-1

  step-2 : {u v t : Sort} (b : Binary u v t) (x : Expr u) (y : Expr v)
      → make_step n (build2 b x y) ≡ at_root n (build2 b x y) (in_two (length (head2 b)) (build2 b) x y (make_step n x) (make_step n y))
  step-2 b x y = unfold make_step in rw by_arity-2

  -- At the beginning: the law applied to the whole term.
  pub step-here : {s : Sort} (e : Expr s) → make_step n e 0 ≡ by_law e (numbered n (laws s))
  unfolding at_root
  step-here e = by_arity (λ s e. make_step n e 0 ≡ by_law e (numbered n (laws s))) (λ s b. ap (λ f. f 0) (step-0 b))
      (λ u t b x h. ap (λ f. f 0) (step-1 b x))
      (λ u v t b x y h k. ap (λ f. f 0) (step-2 b x y))
      e

  -- After the first code's bytes: the step in an operand.
  past : {s : Sort} (e : Expr s) (h k : ℕ) (inside : ℕ → Made (Expr s)) → 1 ≤ h → at_root n e (λ at. elim (ltb at h) [ true ↦ unfit | false ↦ inside (at - h) ]) (h + k) ≡ inside k
  unfolding at_root
  past {s} e h k inside l =
      ap₂ {B = Bool} {C = Made (Expr s)} (λ a b. elim a as (λ c. Made (Expr s)) [ true ↦ by_law e (numbered n (laws s)) | false ↦ elim b [ true ↦ unfit | false ↦ inside (h + k - h) ] ]) (ne_eqb (h + k) 0 (λ q. absurd (omega arith))) (le-ltb (h + k) h (omega arith))
      ∙ ap inside (omega arith)

  pub step-only : {u t : Sort} (b : Unary u t) (x : Expr u) (k : ℕ) → make_step n (build1 b x) (length (head1 b) + k) ≡ map_made (build1 b) (make_step n x k)
  unfolding in_one
  step-only b x k = ap (λ f. f (length (head1 b) + k)) (step-1 b x) ∙ past (build1 b x) (length (head1 b)) k (λ z. map_made (build1 b) (make_step n x z)) (head1-some b)

  module _ {u v t : Sort} (b : Binary u v t) (x : Expr u) (y : Expr v) where
    step-two : (k : ℕ) → make_step n (build2 b x y) (length (head2 b) + k) ≡ elim (ltb k (length (code x))) [ true ↦ map_made (λ z. build2 b z y) (make_step n x k) | false ↦ map_made (build2 b x) (make_step n y (k - length (code x))) ]
    unfolding in_two
    step-two k =
        ap (λ f. f (length (head2 b) + k)) (step-2 b x y)
        ∙ past (build2 b x y) (length (head2 b)) k (λ z. elim (ltb z (length (code x))) [ true ↦ map_made (λ w. build2 b w y) (make_step n x z) | false ↦ map_made (build2 b x) (make_step n y (z - length (code x))) ]) (head2-some b)

    pub step-first : (k : ℕ) → k < length (code x) → make_step n (build2 b x y) (length (head2 b) + k) ≡ map_made (λ z. build2 b z y) (make_step n x k)
    step-first k l = step-two k ∙ ap (λ c. elim c as (λ c. Made (Expr t)) [ true ↦ map_made (λ z. build2 b z y) (make_step n x k) | false ↦ map_made (build2 b x) (make_step n y (k - length (code x))) ]) (lt-ltb k (length (code x)) l)

    pub step-second : (k : ℕ) → make_step n (build2 b x y) (length (head2 b) + (length (code x) + k)) ≡ map_made (build2 b x) (make_step n y k)
    step-second k =
        step-two (length (code x) + k)
        ∙ ap₂ (λ c z. elim c as (λ c. Made (Expr t)) [ true ↦ map_made (λ w. build2 b w y) (make_step n x (length (code x) + k)) | false ↦ map_made (build2 b x) (make_step n y z) ]) (le-ltb (length (code x) + k) (length (code x)) (omega arith)) (omega arith)

  -- Where a step is made, a term begins.
  abbrev MadeStands : {t : Sort} → Expr t → (ℕ → Made (Expr t)) → Type 0
  MadeStands {t} e step = (at : ℕ) (e' : Expr t) → step at ≡ made e' → StandsIn e at

  root_stands : {t : Sort} (e : Expr t) (inside : ℕ → Made (Expr t)) → MadeStands e inside → MadeStands e (at_root n e inside)
  unfolding at_root
  root_stands {t} e inside f at e' = go (eqb at 0) refl where
    go : (b : Bool) → eqb at 0 ≡ b → elim b as (λ c. Made (Expr t)) [ true ↦ by_law e (numbered n (laws t)) | false ↦ inside at ] ≡ made e' → StandsIn e at
    go true z q = stands-root e at (eqb-true at 0 z)
    go false z q = f at e' q

  past-stands : {t : Sort} (e : Expr t) (h : ℕ) (inside : ℕ → Made (Expr t)) → ((at k : ℕ) → at ≡ h + k → (e' : Expr t) → inside k ≡ made e' → StandsIn e at) → MadeStands e (at_root n e (λ at. elim (ltb at h) [ true ↦ unfit | false ↦ inside (at - h) ]))
  past-stands {t} e h inside f = root_stands e (λ at. elim (ltb at h) [ true ↦ unfit | false ↦ inside (at - h) ]) (λ at e'. go at e' (ltb at h) refl) where
    go : (at : ℕ) (e' : Expr t) (c : Bool) → ltb at h ≡ c → elim c as (λ c. Made (Expr t)) [ true ↦ unfit | false ↦ inside (at - h) ] ≡ made e' → StandsIn e at
    go at e' true z q = absurd (unfit-not-made e' q)
    go at e' false z q = f at (at - h) (omega (arith, ltb-false at h z)) e' q

  pub made-stands : {t : Sort} (e : Expr t) → MadeStands e (make_step n e)
  unfolding in_one in_two
  made-stands e = by_arity (λ s e. MadeStands e (make_step n e)) leaf one two e where
    leaf : (s : Sort) (b : Nullary s) → MadeStands (build0 b) (make_step n (build0 b))
    leaf s b = subst (MadeStands (build0 b)) (sym (step-0 b)) (root_stands (build0 b) (λ at. unfit) (λ at e' q. absurd (unfit-not-made e' q)))

    one : (u t : Sort) (b : Unary u t) (x : Expr u) → MadeStands x (make_step n x) → MadeStands (build1 b x) (make_step n (build1 b x))
    one u t b x f = subst (MadeStands (build1 b x)) (sym (step-1 b x)) (past-stands (build1 b x) (length (head1 b)) (λ k. map_made (build1 b) (make_step n x k)) inside) where
      inside : (at k : ℕ) → at ≡ length (head1 b) + k → (e' : Expr t) → map_made (build1 b) (make_step n x k) ≡ made e' → StandsIn (build1 b x) at
      inside at k e e' q = let (x', p) = map-made (build1 b) (make_step n x k) e' q in stands-only b x k at e (f k x' p)

    two : (u v t : Sort) (b : Binary u v t) (x : Expr u) (y : Expr v) → MadeStands x (make_step n x) → MadeStands y (make_step n y) → MadeStands (build2 b x y) (make_step n (build2 b x y))
    two u v t b x y f g = subst (MadeStands (build2 b x y)) (sym (step-2 b x y)) (past-stands (build2 b x y) (length (head2 b)) (λ k. inside k (ltb k l)) (λ at k e e'. go at k e e' (ltb k l) refl))
      where
        l : ℕ
        l = length (code x)

        inside : ℕ → Bool → Made (Expr t)
        inside k c = elim c [ true ↦ map_made (λ z. build2 b z y) (make_step n x k) | false ↦ map_made (build2 b x) (make_step n y (k - l)) ]

        go : (at k : ℕ) → at ≡ length (head2 b) + k → (e' : Expr t) (c : Bool) → ltb k l ≡ c → inside k c ≡ made e' → StandsIn (build2 b x y) at
        go at k e e' true z q = let (x', p) = map-made (λ z. build2 b z y) (make_step n x k) e' q in stands-first b x y k at e (f k x' p)
        go at k e e' false z q = let (y', p) = map-made (build2 b x) (make_step n y (k - l)) e' q in stands-second b x y (k - l) at (omega (arith, ltb-false k l z)) (g (k - l) y' p)
