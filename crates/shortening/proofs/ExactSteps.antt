-- What the check computes is the relation: a step is made exactly when it fits, and the steps lead from K to L exactly when they are a chain.
use mathlib.Core.Path.{◌≡◌, refl, sym, ◌∙◌, ap, ap₂}
use mathlib.Core.Bool.{Bool, true, false}
use mathlib.Core.Logic.{◌↔◌}
use mathlib.Core.List.{List, [], ◌∷◌, ◌++◌}
use Prim.Native.Nat.{ℕ, ◌+◌}
use lib.ListN.{length, length-append}
use Rattle.logic.specs.Lists.{All}
use Rattle.logic.specs.Syntax.{Sort, node, arrow, rule, Expr}
use Rattle.logic.specs.Arity.{build1, build2}
use Rattle.text.specs.Code.{code}
use Rattle.shortening.specs.Raw.{same_term}
use Rattle.text.specs.Heads.{head1, head2}
use Rattle.shortening.specs.Place.{Context, here, only, first, second, put, before}
use Rattle.shortening.specs.Laws.{Law, laws, operands, Made, made, unfit, numbered, Step, Fits, Chain}
use Rattle.shortening.specs.Checking.{map_made, by_law, make_step, make_steps}
use Rattle.shortening.proofs.Codes.{place_in}
use Rattle.shortening.proofs.Numbered.{◌&◌, by_number, made-injective, unfit-not-made}
use Rattle.shortening.proofs.Same.{same-equal, equal-same}
use Rattle.shortening.proofs.StandingTerms.{StandsIn}
use Rattle.shortening.proofs.StepsByArity.{step-here, step-only, step-first, step-second, made-stands}

-- `find` gives back the term that was put in for the variable of a left side.
abbrev Found : {s : Sort} → Law s → Type 0
Found {s} l = (x : Expr s) → l.find (l.left x) ≡ x

laws-found : (s : Sort) → All Found (laws s)
unfolding laws operands
laws-found node = (λ x. refl) & (λ x. refl) & (λ x. refl) & (λ x. refl) & (λ x. refl) & (λ x. refl) & tt
laws-found arrow = tt
laws-found rule = (λ x. refl) & (λ x. refl) & tt

map-here : {s : Sort} (m : Made (Expr s)) → m ≡ map_made (put here) m
unfolding put map_made
map-here (made x) = refl
map-here unfit = refl

map-map : {s u t : Sort} (f : Expr u → Expr t) (g : Expr s → Expr u) (m : Made (Expr s)) → map_made f (map_made g m) ≡ map_made (λ x. f (g x)) m
unfolding map_made
map-map f g (made x) = refl
map-map f g unfit = refl

module _ (n : ℕ) where
  -- A step that fits is made.
  by-law : {s : Sort} (l : Law s) (x : Expr s) → numbered n (laws s) ≡ made l → by_law (l.left x) (numbered n (laws s)) ≡ made (l.right x)
  unfolding by_law
  by-law {s} l x e =
      let found : l.find (l.left x) ≡ x = by_number (λ n. Found) (laws-found s) e x in
      ap (by_law (l.left x)) e
      ∙ ap (λ b. elim b as (λ c. Made (Expr s)) [ true ↦ made (l.right (l.find (l.left x))) | false ↦ unfit ]) (equal-same (l.left x) (l.left (l.find (l.left x))) (ap l.left (sym found)))
      ∙ ap (λ z. made (l.right z)) found

  -- A step at a place is the law applied to the term there.
  step-put : {s t : Sort} (c : Context s t) (x : Expr s) → make_step n (put c x) (length (before c)) ≡ map_made (put c) (by_law x (numbered n (laws s)))
  unfolding put before
  step-put {s} here x = step-here n x ∙ map-here (by_law x (numbered n (laws s)))
  step-put {s} (only b c) x =
      cc (length-append (head1 b) (before c), step-only n b (put c x) (length (before c)), step-put c x, map-map (build1 b) (put c) (by_law x (numbered n (laws s))))
  step-put {s} (first b c y) x =
      cc (length-append (head2 b) (before c), step-first n b (put c x) y (length (before c)) (place_in c x), step-put c x, map-map (λ z. build2 b z y) (put c) (by_law x (numbered n (laws s))))
  step-put {s} (second b y c) x =
      cc (length-append (head2 b) (code y ++ before c), length-append (code y) (before c), step-second n b y (put c x) (length (before c)), step-put c x, map-map (build2 b y) (put c) (by_law x (numbered n (laws s))))

  pub fits-made : {s t : Sort} (c : Context s t) (l : Law s) → numbered n (laws s) ≡ made l → (x : Expr s) → make_step n (put c (l.left x)) (length (before c)) ≡ made (put c (l.right x))
  fits-made c l e x = unfold map_made in step-put c (l.left x) ∙ ap (map_made (put c)) (by-law l x e)

  -- A step that is made fits.
  abbrev pub FitsAt : {t : Sort} → Expr t → ℕ → Expr t → Type 0
  FitsAt e at e' = Fits (record { offset = at; law = n }) e e'

  stands-fits : {t : Sort} (e e' : Expr t) (at : ℕ) (s : StandsIn e at) → map_made (put s.place) (by_law s.what (numbered n (laws s.sort))) ≡ made e' → FitsAt e at e'
  unfolding by_law map_made
  stands-fits {t} e e' at s = law (numbered n (laws s.sort)) refl where
    same : (l : Law s.sort) → numbered n (laws s.sort) ≡ made l → (b : Bool) → same_term s.what (l.left (l.find s.what)) ≡ b → map_made (put s.place) (elim b [ true ↦ made (l.right (l.find s.what)) | false ↦ unfit ]) ≡ made e' → FitsAt e at e'
    same l q true h m =
        record {
          sort = s.sort;
          place = s.place;
          law = l;
          number_right = q;
          variable = l.find s.what;
          offset_right = s.offset;
          from = s.from ∙ ap (put s.place) (same-equal s.what (l.left (l.find s.what)) h);
          to = sym (made-injective (put s.place (l.right (l.find s.what))) e' m);
        }
    same l q false h m = absurd (unfit-not-made e' m)

    law : (m : Made (Law s.sort)) → numbered n (laws s.sort) ≡ m → map_made (put s.place) (by_law s.what m) ≡ made e' → FitsAt e at e'
    law (made l) q m = same l q (same_term s.what (l.left (l.find s.what))) refl m
    law unfit q m = absurd (unfit-not-made e' m)

  made-fits : {t : Sort} (e e' : Expr t) (at : ℕ) → make_step n e at ≡ made e' → FitsAt e at e'
  made-fits e e' at h =
      let s : StandsIn e at = made-stands n e at e' h in
      stands-fits e e' at s (sym (ap₂ (make_step n) s.from s.offset ∙ step-put s.place s.what) ∙ h)

-- A step is made exactly when it fits.
pub step-exact : (x : Step) {t : Sort} (e e' : Expr t) → (make_step x.law e x.offset ≡ made e') ↔ Fits x e e'
step-exact x e e' = (made-fits x.law e e' x.offset, λ f. ap₂ (make_step x.law) f.from f.offset_right ∙ fits-made x.law f.place f.law f.number_right f.variable ∙ ap made (sym f.to))

-- "every chain of fitting steps that ends in the text sent is accepted": the steps lead from K to L exactly when they are a chain from K to L.
pub chain-exact : (xs : List Step) (K L : Expr rule) → (make_steps xs K ≡ made L) ↔ Chain xs K L
unfolding make_steps Chain
chain-exact [] K L = (made-injective K L, ap made)
chain-exact (x ∷ xs) K L = (λ h. there (λ M. (chain-exact xs M L).0) (make_step x.law K x.offset) refl h, λ (M, f, c). ap goes_on ((step-exact x K M).1 f) ∙ (chain-exact xs M L).1 c) where
  goes_on : Made (Expr rule) → Made (Expr rule)
  goes_on m = elim m [ made M ↦ make_steps xs M | unfit ↦ unfit ]

  there : ((M : Expr rule) → make_steps xs M ≡ made L → Chain xs M L) → (m : Made (Expr rule)) → make_step x.law K x.offset ≡ m → goes_on m ≡ made L → (M : Expr rule) × Fits x K M × Chain xs M L
  there rest (made M) e h = (M, (step-exact x K M).0 e, rest M h)
  there rest unfit e h = absurd (unfit-not-made L h)
