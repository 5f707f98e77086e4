-- Making steps one after the other (item 11 of document 02): what the check computes.
use Rattle.std.specs.Prelude.{true, false, List, [], ◌∷◌, ℕ, ◌-◌, eqb, ltb, length}
use Rattle.logic.specs.Syntax.{Sort, rule, Expr}
use Rattle.logic.specs.Arity.{build0, build1, build2, by_arity}
use Rattle.text.specs.Code.{code}
use Rattle.text.specs.Heads.{head1, head2}
use Rattle.shortening.specs.Raw.{same_term}
use Rattle.shortening.specs.Laws.{Law, laws, Made, made, unfit, numbered, Step}

unfoldable pub map_made : {A B : Type 0} → (A → B) → Made A → Made B
map_made f (made a) = made (f a)
map_made f unfit = unfit

-- Applies a law to the whole term.
unfoldable pub by_law : {s : Sort} → Expr s → Made (Law s) → Made (Expr s)
by_law e (made l) = elim (same_term e (l.left (l.find e))) [ true ↦ made (l.right (l.find e)) | false ↦ unfit ]
by_law e unfit = unfit

-- At offset 0, applies the law to the whole term; else goes inside.
unfoldable pub at_root : (n : ℕ) {s : Sort} → Expr s → (ℕ → Made (Expr s)) → ℕ → Made (Expr s)
at_root n {s} e inside at = elim (eqb at 0) [ true ↦ by_law e (numbered n (laws s)) | false ↦ inside at ]

-- Goes inside a code of h bytes with one operand; with two operands, x and y.
unfoldable pub in_one : {u t : Sort} (h : ℕ) → (Expr u → Expr t) → (ℕ → Made (Expr u)) → ℕ → Made (Expr t)
in_one h make step at = elim (ltb at h) [ true ↦ unfit | false ↦ map_made make (step (at - h)) ]

unfoldable pub in_two : {u v t : Sort} (h : ℕ) → (Expr u → Expr v → Expr t) → (x : Expr u) (y : Expr v) → (ℕ → Made (Expr u)) → (ℕ → Made (Expr v)) → ℕ → Made (Expr t)
in_two h make x y step₁ step₂ at =
    elim (ltb at h) [
      | true ↦ unfit
      | false ↦ elim (ltb (at - h) (length (code x))) [ true ↦ map_made (λ z. make z y) (step₁ (at - h)) | false ↦ map_made (make x) (step₂ (at - h - length (code x))) ]
    ]

-- Applies law n at the code that begins at an offset.
unfoldable pub make_step : (n : ℕ) {s : Sort} → Expr s → ℕ → Made (Expr s)
make_step n e =
    by_arity (λ s e. ℕ → Made (Expr s))
    (λ s b. at_root n (build0 b) (λ at. unfit))
    (λ u t b x step. at_root n (build1 b x) (in_one (length (head1 b)) (build1 b) step))
    (λ u v t b x y step₁ step₂. at_root n (build2 b x y) (in_two (length (head2 b)) (build2 b) x y step₁ step₂))
    e

-- Makes all steps in order.
unfoldable pub make_steps : List Step → Expr rule → Made (Expr rule)
make_steps [] K = made K
make_steps (x ∷ xs) K = elim (make_step x.law K x.offset) [ made M ↦ make_steps xs M | unfit ↦ unfit ]
