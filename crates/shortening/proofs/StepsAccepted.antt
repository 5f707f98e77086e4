-- Accepted exactly when the steps are a chain of fitting steps that ends in the text sent.
use mathlib.Core.Path.{◌≡◌, refl, sym, ◌∙◌, ap, ap₂, subst}
use mathlib.Core.Bool.{Bool, true, false}
use mathlib.Core.Logic.{◌↔◌}
use mathlib.Core.List.{List, [], ◌∷◌}
use Prim.Native.Nat.{ℕ, suc, ◌+◌, ◌*◌}
use lib.Dec.{eqb}
use borrow.Author.Tests.{eqb-true, eq-eqb}
use Rattle.answer.specs.Asked.{Asked, passed, refused, ◌>>=◌}
use Rattle.answer.proofs.AskedLaws.{passed-same, refused-not-passed, bind-passed}
use Rattle.logic.specs.Syntax.{Expr, rule}
use Rattle.text.specs.Code.{code}
use Rattle.shortening.specs.Laws.{Made, made, unfit, Step, Chain}
use Rattle.shortening.specs.Checking.{map_made, make_step}
use Rattle.shortening.specs.Questions.{step_of, steps_of, ask_steps, ask_same, ask_chain, Accepted}
use Rattle.shortening.proofs.Numbered.{made-injective, unfit-not-made}
use Rattle.shortening.proofs.ExactSteps.{step-exact}

-- The steps that are made are a chain,
steps-led : (t : List ℕ) (i : ℕ) (K L : Expr rule) → ask_steps t i K ≡ passed L → (xs : List Step) × (steps_of t ≡ made xs) × Chain xs K L
unfolding ask_steps steps_of Chain map_made
steps-led [] i K L h = ([], refl, passed-same h)
steps-led (a ∷ []) i K L h = refused-not-passed h
steps-led (a ∷ b ∷ []) i K L h = refused-not-passed h
steps-led (a ∷ b ∷ n ∷ t) i K L h = go (make_step n K (a + 256 * b)) refl h (λ M. steps-led t (suc i) M L) where
  go : (m : Made (Expr rule)) → make_step n K (a + 256 * b) ≡ m → elim m as (λ m. Asked (Expr rule)) [ made M ↦ ask_steps t (suc i) M | unfit ↦ refused 59 i ] ≡ passed L
      → ((M : Expr rule) → ask_steps t (suc i) M ≡ passed L → (xs : List Step) × (steps_of t ≡ made xs) × Chain xs M L)
      → (xs : List Step) × (map_made (step_of a b n ∷◌) (steps_of t) ≡ made xs) × Chain xs K L
  go (made M) e h rest = let (xs, d, c) = rest M h in (step_of a b n ∷ xs, ap (map_made (step_of a b n ∷◌)) d, (M, (step-exact (step_of a b n) K M).0 e, c))
  go unfit e h rest = refused-not-passed h

-- and the steps of a chain are made.
chain-made : (t : List ℕ) (i : ℕ) (K L : Expr rule) (xs : List Step) → steps_of t ≡ made xs → Chain xs K L → ask_steps t i K ≡ passed L
unfolding ask_steps steps_of Chain map_made
chain-made [] i K L xs e c = ap passed (subst (λ ys. Chain ys K L) (sym (made-injective [] xs e)) c)
chain-made (a ∷ []) i K L xs e c = absurd (unfit-not-made xs e)
chain-made (a ∷ b ∷ []) i K L xs e c = absurd (unfit-not-made xs e)
chain-made (a ∷ b ∷ n ∷ t) i K L xs e c = go (steps_of t) refl (λ M ys. chain-made t (suc i) M L ys) e where
  led : (ys : List Step) → steps_of t ≡ made ys → ((M : Expr rule) (ys : List Step) → steps_of t ≡ made ys → Chain ys M L → ask_steps t (suc i) M ≡ passed L) → Chain (step_of a b n ∷ ys) K L
      → elim (make_step n K (a + 256 * b)) as (λ m. Asked (Expr rule)) [ made M ↦ ask_steps t (suc i) M | unfit ↦ refused 59 i ] ≡ passed L
  led ys d rest (M, f, k) = ap (λ m. elim m as (λ m. Asked (Expr rule)) [ made M ↦ ask_steps t (suc i) M | unfit ↦ refused 59 i ]) ((step-exact (step_of a b n) K M).1 f) ∙ rest M ys d k

  go : (m : Made (List Step)) → steps_of t ≡ m → ((M : Expr rule) (ys : List Step) → steps_of t ≡ made ys → Chain ys M L → ask_steps t (suc i) M ≡ passed L) → map_made (step_of a b n ∷◌) m ≡ made xs
      → elim (make_step n K (a + 256 * b)) as (λ m. Asked (Expr rule)) [ made M ↦ ask_steps t (suc i) M | unfit ↦ refused 59 i ] ≡ passed L
  go (made ys) d rest e = led ys d rest (subst (λ zs. Chain zs K L) (sym (made-injective (step_of a b n ∷ ys) xs e)) c)
  go unfit d rest e = absurd (unfit-not-made xs e)

-- The comparison passes exactly when the texts are equal.
same_text : (xs ys : List ℕ) (p : ℕ) → ask_same xs ys p ≡ passed tt → xs ≡ ys
unfolding ask_same
same_text [] [] p h = refl
same_text [] (y ∷ ys) p h = refused-not-passed h
same_text (x ∷ xs) [] p h = refused-not-passed h
same_text (x ∷ xs) (y ∷ ys) p h = go (eqb x y) refl h (same_text xs ys (suc p)) where
  go : (b : Bool) → eqb x y ≡ b → elim b as (λ c. Asked (Unit {0})) [ true ↦ ask_same xs ys (suc p) | false ↦ refused 60 p ] ≡ passed tt → (ask_same xs ys (suc p) ≡ passed tt → xs ≡ ys) → ◌≡◌ {A = List ℕ} (x ∷ xs) (y ∷ ys)
  go true e h rest = ap₂ ◌∷◌ (eqb-true x y e) (rest h)
  go false e h rest = refused-not-passed h

text_same : (xs : List ℕ) (p : ℕ) → ask_same xs xs p ≡ passed tt
unfolding ask_same
text_same [] p = refl
text_same (x ∷ xs) p = ap (λ b. elim b as (λ c. Asked (Unit {0})) [ true ↦ ask_same xs xs (suc p) | false ↦ refused 60 p ]) (eq-eqb x x refl) ∙ text_same xs (suc p)

pub accepted : (K : Expr rule) (steps sent : List ℕ) → (ask_chain K steps sent ≡ passed tt) ↔ Accepted K steps sent
unfolding ask_chain ◌>>=◌
accepted K steps sent = (there, back) where
  there : ask_chain K steps sent ≡ passed tt → Accepted K steps sent
  there h =
      let (L, made_all, same) = bind-passed (ask_steps steps 0 K) (λ L. ask_same (code L) sent 0) tt h in
      let (xs, e, c) = steps-led steps 0 K L made_all in
      record { chain = xs; read = e; last = L; leads = c; same = same_text (code L) sent 0 same }

  back : Accepted K steps sent → ask_chain K steps sent ≡ passed tt
  back a = ap (◌>>= (λ L. ask_same (code L) sent 0)) (chain-made steps 0 K a.last a.chain a.read a.leads) ∙ ap (λ t. ask_same (code a.last) t 0) (sym a.same) ∙ text_same (code a.last) 0
