-- Following a format one part after the other; formats of one shape; and how far a reading has come.
use mathlib.Core.Path.{◌≡◌, refl, sym, ◌∙◌, ap, fun_ext}
use mathlib.Core.Bool.{Bool, true, false}
use mathlib.Core.List.{List, [], ◌∷◌, ◌++◌}
use Prim.Native.Nat.{ℕ, suc, ◌+◌, ◌≤◌}
use native.Mathlib.Omega.{arith}
use lib.Dec.{leb, eqb}
use lib.ListN.{length, drop, length-drop, length-append}
use Rattle.logic.specs.Limits.{Kind, fits}
use Rattle.std.proofs.Common.{Ok, Err}
use Rattle.text.specs.Reading.{Limits, Want, Thing, Format, done, number, operand, ◌>>=◌, Entry, Read, got, fault, Fault, too_deep, wrong_sort, out_of_range, codes, choice, follow}
use Rattle.text.specs.Patterns.{Turn, turn_of, turn_at}
use Rattle.text.proofs.TextPlaces.{place_behind-is}
use Rattle.text.proofs.StandingLaws.{behind}
use Rattle.text.proofs.Converse.{spelling, Fine, Outcome, outcome}

bind_assoc : {A B C : Type 0} (p : Format A) (f : A → Format B) (h : B → Format C) → (p >>= f) >>= h ≡ p >>= (λ a. f a >>= h)
unfolding ◌>>=◌
bind_assoc (done a) f h = refl
bind_assoc (number k p) f h = ap (number k) (fun_ext (λ x. bind_assoc (p x) f h))
bind_assoc (operand w d p) f h = ap (operand w d) (fun_ext (λ e. bind_assoc (p e) f h))

module _ (l : Limits) where
  unfoldable pub continue : {A B : Type 0} → Read A → (A → Format B) → Read B
  continue (got a t at) f = follow l t (f a) at
  continue (fault why at) f = fault why at

  continue-if : {A B : Type 0} (f : A → Format B) (b : Bool) (r q : Read A) (r' q' : Read B) → r' ≡ continue r f → q' ≡ continue q f
      → elim b as (λ c. Read B) [ true ↦ r' | false ↦ q' ] ≡ continue (elim b as (λ c. Read A) [ true ↦ r | false ↦ q ]) f
  continue-if f true r q r' q' e e' = e
  continue-if f false r q r' q' e e' = e'

  continue-choice : {A B C : Type 0} (f : A → Format B) (c : ℕ) (es : List (Entry C)) (found : Format C → Read A) (found' : Format C → Read B) (why : Fault) (at : ℕ) → ((p : Format C) → found' p ≡ continue (found p) f)
      → choice c es found' (fault why at) ≡ continue (choice c es found (fault why at)) f
  unfolding continue choice
  continue-choice f c [] found found' why at e = refl
  continue-choice f c (x ∷ es) found found' why at e =
      continue-if f (eqb c x.byte) (found x.format) (choice c es found (fault why at)) (found' x.format) (choice c es found' (fault why at)) (e x.format) (continue-choice f c es found found' why at e)

  pub follow-bind : {A B : Type 0} (t : List ℕ) (p : Format A) (f : A → Format B) (at : ℕ) → follow l t (p >>= f) at ≡ continue (follow l t p at) f
  unfolding follow continue ◌>>=◌
  follow-bind [] (done a) f at = refl
  follow-bind [] (number k p) f at = refl
  follow-bind [] (operand w d p) f at = refl
  follow-bind (x ∷ t) (done a) f at = refl
  follow-bind (x ∷ t) (number k p) f at = continue-if f (fits l.numbers k x) (follow l t (p x) (suc at)) (fault out_of_range at) (follow l t (p x >>= f) (suc at)) (fault out_of_range at) (follow-bind t (p x) f (suc at)) refl
  follow-bind (c ∷ t) (operand w d p) f at =
      continue-choice f c (codes d w) _ _ wrong_sort at
      (λ q. continue-if f (leb d l.deepest) (follow l t (q >>= p) (suc at)) (fault too_deep at) (follow l t (q >>= (λ e. p e >>= f)) (suc at)) (fault too_deep at) (ap (λ z. follow l t z (suc at)) (sym (bind_assoc q p f)) ∙ follow-bind t (q >>= p) f (suc at)) refl)

  follow-operand : {A : Type 0} (w : Want) (d : ℕ) (f : Thing w → Format A) (t : List ℕ) (at : ℕ) → follow l t (operand w d f) at ≡ continue (follow l t (operand w d done) at) f
  follow-operand w d f t at = unfold ◌>>=◌ in follow-bind t (operand w d done) f at

-- Two formats that want the same bytes, whatever they make of them.
pub data Alike {A B : Type 0} : Format A → Format B → Type 0 where
  same_end : {a : A} {b : B} → Alike (done a) (done b)
  same_number : {k : Kind} {f : ℕ → Format A} {g : ℕ → Format B} → ((x : ℕ) → Alike (f x) (g x)) → Alike (number k f) (number k g)
  same_operand : {w : Want} {d : ℕ} {f : Thing w → Format A} {g : Thing w → Format B} → ((e : Thing w) → Alike (f e) (g e)) → Alike (operand w d f) (operand w d g)

-- what they make in the end does not matter
pub alike-bind : {A B : Type 0} {p : Format A} {q : Format B} (b : B) → Alike p q → Alike (p >>= (λ a. done b)) q
unfolding ◌>>=◌
alike-bind b same_end = same_end
alike-bind b (same_number {k} {f} {g} h) = same_number (λ x. alike-bind {p = f x} {q = g x} b (h x))
alike-bind b (same_operand {w} {d} {f} {g} h) = same_operand (λ e. alike-bind {p = f e} {q = g e} b (h e))

turn-if : {A B : Type 0} (b : Bool) (r : Read A) (r' : Read B) (why : Fault) (at : ℕ) → turn_of r ≡ turn_of r' → turn_of {A = A} (elim b as (λ c. Read A) [ true ↦ r | false ↦ fault why at ]) ≡ turn_of {A = B} (elim b as (λ c. Read B) [ true ↦ r' | false ↦ fault why at ])
unfolding turn_of
turn-if true r r' why at h = h
turn-if false r r' why at h = refl

pub alike-turns : {A B : Type 0} (l : Limits) {p : Format A} {q : Format B} → Alike p q → (t : List ℕ) (at : ℕ) → turn_of (follow l t p at) ≡ turn_of (follow l t q at)
unfolding follow turn_of continue
alike-turns l same_end [] at = refl
alike-turns l same_end (x ∷ t) at = refl
alike-turns l (same_number h) [] at = refl
alike-turns l (same_number {k} {f} {g} h) (x ∷ t) at = turn-if (fits l.numbers k x) (follow l t (f x) (suc at)) (follow l t (g x) (suc at)) out_of_range at (alike-turns l (h x) t (suc at))
alike-turns {A} {B} l (same_operand {w} {d} {f} {g} h) t at = ap turn_of (follow-operand l w d f t at) ∙ go (follow l t (operand w d done) at) (λ e r p. alike-turns l (h e) r p) ∙ sym (ap turn_of (follow-operand l w d g t at))
  where
    go : (x : Read (Thing w)) → ((e : Thing w) (r : List ℕ) (p : ℕ) → turn_of (follow l r (f e) p) ≡ turn_of (follow l r (g e) p)) → turn_of (continue l x f) ≡ turn_of (continue l x g)
    go (got e r p) k = k e r p
    go (fault why p) k = refl

-- any format takes some bytes and leaves the others
fine-any : {A : Type 0} (l : Limits) (p : Format A) (pre : List ℕ) → Fine l (λ a bs. Unit {0}) p pre
fine-any l (done a) pre = tt
fine-any l (number k f) pre = λ x b. fine-any l (f x) (pre ++ x ∷ [])
fine-any l (operand w d f) pre = λ e b. fine-any l (f e) (pre ++ spelling w e)

-- A reading that began at a place of a text has come to a later one, and what is left of the text starts there.
pub record Reached (text : List ℕ) (at : ℕ) (rest : List ℕ) (p : ℕ) : Type 0 where
  pub rest-is : rest ≡ drop p text
  pub on : at ≤ p
  pub inside : at ≤ length text → p ≤ length text

abbrev pub ReachedBy : {A : Type 0} → List ℕ → ℕ → Read A → Type 0
ReachedBy text at (got a rest p) = Reached text at rest p
ReachedBy text at (fault why p) = Unit {0}

pub reached : {A : Type 0} (l : Limits) (text : List ℕ) (p : Format A) (at : ℕ) → ReachedBy text at (follow l (drop at text) p at)
reached {A} l text p at = go (follow l (drop at text) p at) (outcome l (λ a bs. Unit {0}) (drop at text) p [] at (fine-any l p [])) where
  go : (r : Read A) → Outcome l (λ a bs. Unit {0}) [] (drop at text) at r → ReachedBy text at r
  go (got a rest q) h =
      let e : q ≡ at + length h.0 = h.3 ∙ place_behind-is h.0 at in
      record {
        rest-is = sym (ap (λ z. drop z text) e ∙ behind text at h.0 rest h.1);
        on = omega arith;
        inside = λ i. omega (arith, sym (length-drop at text) ∙ ap length h.1 ∙ length-append h.0 rest);
      }
  go (fault why q) h = tt

-- A turn, and then one from where it ended.
abbrev pub and_then : Turn → (ℕ → Turn) → Turn
and_then (Ok p) k = k p
and_then (Err s) k = Err s

pub then_next : (s : Turn) (k : ℕ → Turn) → ((p : ℕ) → k p ≡ Ok p) → and_then s k ≡ s
then_next (Ok p) k h = h p
then_next (Err s) k h = refl

pub then-then : (s : Turn) (k h : ℕ → Turn) → and_then (and_then s k) h ≡ and_then s (λ p. and_then (k p) h)
then-then (Ok p) k h = refl
then-then (Err s) k h = refl

pub then_same : (s : Turn) (k h : ℕ → Turn) → ((p : ℕ) → k p ≡ h p) → and_then s k ≡ and_then s h
then_same (Ok p) k h e = e p
then_same (Err s) k h e = refl

module _ (text : List ℕ) (ρ : Limits) where
  pub turn-then : {A B : Type 0} (p : Format A) (q : Format B) (at : ℕ) → turn_at text ρ (p >>= (λ a. q)) at ≡ and_then (turn_at text ρ p at) (λ m. turn_at text ρ q m)
  unfolding turn_at turn_of continue
  turn-then {A} p q at = ap turn_of (follow-bind ρ (drop at text) p (λ a. q) at) ∙ go (follow ρ (drop at text) p at) (reached ρ text p at) where
    go : (r : Read A) → ReachedBy text at r → turn_of (continue ρ r (λ a. q)) ≡ and_then (turn_of r) (λ m. turn_of (follow ρ (drop m text) q m))
    go (got a rest m) h = ap (λ z. turn_of (follow ρ z q m)) h.rest-is
    go (fault why m) h = refl
