-- What is read is spelled by exactly the bytes taken, its numbers are in range, and its levels are within the limit.
use mathlib.Core.Path.{◌≡◌, refl, sym, ◌∙◌, ap, subst}
use mathlib.Core.Bool.{Bool, true, false}
use mathlib.Core.List.{List, [], ◌∷◌, ◌++◌, append_assoc, append-nil}
use Prim.Native.Nat.{ℕ, suc, ◌+◌, ◌≤◌}
use native.Mathlib.Omega.{arith}
use lib.ListN.{length}
use lib.Dec.{T, leb, eqb, leb→le, eqb→eq}
use Rattle.logic.specs.Syntax.{node, arrow, rule}
use Rattle.logic.specs.Lists.{All}
use Rattle.logic.specs.Arity.{by_arity}
use Rattle.logic.specs.Limits.{fits, InRange, EditInRange}
use Rattle.text.specs.Code.{code, edit_code, levels, edit_levels}
use Rattle.text.specs.Reading.{Limits, Want, expr, edit, Thing, Format, done, number, operand, ◌>>=◌, Entry, Read, got, fault, codes, choice, follow}
use Rattle.text.proofs.TextPlaces.{place_behind, place_behind-is}

-- the bytes of a thing, and its levels
abbrev pub spelling : (w : Want) → Thing w → List ℕ
spelling (expr s) e = code e
spelling edit Z = edit_code Z

abbrev pub depth : (w : Want) → Thing w → ℕ
depth (expr s) e = levels e
depth edit Z = edit_levels Z

abbrev pub NumbersFit : Limits → (w : Want) → Thing w → Type 0
NumbersFit l (expr s) e = InRange l.numbers e
NumbersFit l edit Z = EditInRange l.numbers Z

-- A thing within the limits, its first code at level d.
pub record Allowed (l : Limits) (w : Want) (d : ℕ) (e : Thing w) : Type 0 where
  pub numbers_fit : NumbersFit l w e
  pub levels-fit : d + depth w e ≤ suc l.deepest

-- P holds for whatever the format makes together with the bytes before it, `pre`, and those that the format takes
abbrev pub Fine : Limits → {A : Type 0} → (A → List ℕ → Type 0) → Format A → List ℕ → Type 0
Fine l P (done a) pre = P a pre
Fine l P (number k f) pre = (x : ℕ) → T (fits l.numbers k x) → Fine l P (f x) (pre ++ x ∷ [])
Fine l P (operand w d f) pre = (e : Thing w) → Allowed l w d e → Fine l P (f e) (pre ++ spelling w e)

-- the bytes are the thing's, and it is within the limits
pub record Spelled (l : Limits) (w : Want) (d : ℕ) (e : Thing w) (pre : List ℕ) : Type 0 where
  pub same : spelling w e ≡ pre
  pub allowed : Allowed l w d e

abbrev FineAll : (l : Limits) (w : Want) (d : ℕ) → List (Entry (Thing w)) → Type 0
FineAll l w d = All (λ e. Fine l (Spelled l w d) e.format (e.byte ∷ []))

infixr 5 ◌&◌
abbrev pub ◌&◌ : {A B : Type 0} → A → B → A × B
a & b = (a, b)

-- each entry of the table has the code that its constructor has
module _ (l : Limits) (d : ℕ) (h : d ≤ l.deepest) where
  codes-fine : (w : Want) → FineAll l w d (codes d w)
  unfolding codes code edit_code levels by_arity edit_levels InRange EditInRange ◌>>=◌
  codes-fine (expr node) =
      search arith & search arith & (λ k f. search arith) & (λ k f. search arith) & (λ E a. search arith) & (λ E a F b. search arith) & (λ E a F b. search arith)
      & (λ E a F b. search arith) & (λ E a F b. search arith) & (λ k f E a F b. search arith) & (λ k f E a F b. search arith) & tt
  codes-fine (expr arrow) =
      (λ k f. search arith) & (λ E a. search arith) & (λ E a F b. search arith) & (λ E a F b. search arith) & (λ E a F b. search arith) & (λ E a F b. search arith)
      & (λ i f j g. search arith) & tt
  codes-fine (expr rule) =
      (λ E a F b. search arith) & (λ E a F b. search arith) & (λ i f E a. search arith) & (λ i f j g R a. search arith) & (λ E a F b. search arith) & (λ E a F b. search arith)
      & (λ E a. search arith) & tt
  codes-fine edit =
      search arith & (λ k f E a F b. search arith) & (λ k f E a F b. search arith) & (λ k f E a F b. search arith) & (λ k f E a F b. search arith)
      & (λ K a P b Q c Z e. search arith) & tt

module _ (l : Limits) {A : Type 0} (P : A → List ℕ → Type 0) where
  fine_bind : (w : Want) (d : ℕ) (q : Format (Thing w)) (f : Thing w → Format A) (pre c : List ℕ) → Fine l (Spelled l w d) q c → ((e : Thing w) → Allowed l w d e → Fine l P (f e) (pre ++ spelling w e)) → Fine l P (q >>= f) (pre ++ c)
  unfolding ◌>>=◌
  fine_bind w d (done e) f pre c h k = subst (λ z. Fine l P (f e) (pre ++ z)) h.same (k e h.allowed)
  fine_bind w d (number κ g) f pre c h k = λ x b. rw (append_assoc pre c (x ∷ [])) (fine_bind w d (g x) f pre (c ++ x ∷ []) (h x b) k)
  fine_bind w d (operand v m g) f pre c h k = λ e b. rw (append_assoc pre c (spelling v e)) (fine_bind w d (g e) f pre (c ++ spelling v e) (h e b) k)

  -- what a format made is spelled by the bytes before it and those it took
  abbrev pub Outcome : List ℕ → List ℕ → ℕ → Read A → Type 0
  Outcome pre t at (got a r p) = (bs : List ℕ) × (t ≡ bs ++ r) × P a (pre ++ bs) × (p ≡ place_behind bs at)
  Outcome pre t at (fault why p) = Unit {0}

  outcome-cons : (pre t : List ℕ) (at x : ℕ) (r : Read A) → Outcome (pre ++ x ∷ []) t (suc at) r → Outcome pre (x ∷ t) at r
  unfolding place_behind
  outcome-cons pre t at x (got a r p) h = (x ∷ h.0, ap (x ∷◌) h.1, rw (append_assoc pre (x ∷ []) h.0) at h.2, h.3)
  outcome-cons pre t at x (fault why p) h = tt

  outcome-if : (pre t : List ℕ) (at : ℕ) (b : Bool) (r q : Read A) → (T b → Outcome pre t at r) → Outcome pre t at q → Outcome pre t at (elim b [ true ↦ r | false ↦ q ])
  outcome-if pre t at true r q h i = h tt
  outcome-if pre t at false r q h i = i

  -- the table is fine if the level is within the limit, which is checked once the code is found
  outcome-choice : (X : Type 0) (pre t : List ℕ) (at : ℕ) (w : Want) (d c : ℕ) (es : List (Entry (Thing w))) (found : Format (Thing w) → Read A) (other : Read A) → (X → FineAll l w d es)
      → ((q : Format (Thing w)) → (X → Fine l (Spelled l w d) q (c ∷ [])) → Outcome pre t at (found q)) → Outcome pre t at other → Outcome pre t at (choice c es found other)
  unfolding choice
  outcome-choice X pre t at w d c [] found other h k o = o
  outcome-choice X pre t at w d c (e ∷ es) found other h k o =
      outcome-if pre t at (eqb c e.byte) (found e.format) (choice c es found other) (λ b. k e.format (λ x. rw (eqb→eq c e.byte b) (h x).0))
      (outcome-choice X pre t at w d c es found other (λ x. (h x).1) k o)

  pub outcome : (t : List ℕ) (p : Format A) (pre : List ℕ) (at : ℕ) → Fine l P p pre → Outcome pre t at (follow l t p at)
  unfolding follow place_behind
  outcome [] (done a) pre at h = ([], refl, rw append-nil h, refl)
  outcome [] (number k f) pre at h = tt
  outcome [] (operand w d f) pre at h = tt
  outcome (x ∷ t) (done a) pre at h = ([], refl, rw append-nil h, refl)
  outcome (x ∷ t) (number k f) pre at h =
      outcome-if pre (x ∷ t) at (fits l.numbers k x) _ _ (λ b. outcome-cons pre t at x (follow l t (f x) (suc at)) (outcome t (f x) (pre ++ x ∷ []) (suc at) (h x b))) tt
  outcome (c ∷ t) (operand w d f) pre at h =
      outcome-choice (T (leb d l.deepest)) pre (c ∷ t) at w d c (codes d w) _ _ (λ b. codes-fine l d (leb→le d l.deepest b) w)
      (λ q g.
      outcome-if pre (c ∷ t) at (leb d l.deepest) _ _
      (λ b. outcome-cons pre t at c (follow l t (q >>= f) (suc at)) (outcome t (q >>= f) (pre ++ c ∷ []) (suc at) (fine_bind w d q f pre (c ∷ []) (g b) h))) tt)
      tt

-- What a reading of a thing wanted at level d says if it gives one: the text is the thing's bytes followed by the rest,
-- the place is the rest's, and the thing is within the limits.
pub record Written (l : Limits) (w : Want) (d : ℕ) (t : List ℕ) (at : ℕ) (e : Thing w) (rest : List ℕ) (place : ℕ) : Type 0 where
  pub text-is : t ≡ spelling w e ++ rest
  pub place_is : place ≡ at + length (spelling w e)
  pub within : Allowed l w d e

abbrev pub Wrote : (l : Limits) (w : Want) (d : ℕ) → List ℕ → ℕ → Read (Thing w) → Type 0
Wrote l w d t at (got e rest p) = Written l w d t at e rest p
Wrote l w d t at (fault why p) = Unit {0}

pub wrote : (l : Limits) (w : Want) (d : ℕ) (t : List ℕ) (at : ℕ) → Wrote l w d t at (follow l t (operand w d done) at)
wrote l w d t at = go (follow l t (operand w d done) at) (outcome l (Spelled l w d) t (operand w d done) [] at (λ e h. record { same = refl; allowed = h })) where
  go : (r : Read (Thing w)) → Outcome l (Spelled l w d) [] t at r → Wrote l w d t at r
  go (got e rest p) h =
      record {
        text-is = h.1 ∙ ap (◌++ rest) (sym h.2.same);
        place_is = h.3 ∙ place_behind-is h.0 at ∙ ap (λ z. at + length z) (sym h.2.same);
        within = h.2.allowed;
      }
  go (fault why p) h = tt

-- THE CONVERSE: what is read is spelled by exactly the bytes taken, with its numbers in range and its levels within the limit.
pub read-is-written : (l : Limits) (w : Want) (d : ℕ) (t : List ℕ) (at : ℕ) {e : Thing w} {rest : List ℕ} {p : ℕ} → follow l t (operand w d done) at ≡ got e rest p → Written l w d t at e rest p
read-is-written l w d t at h = subst (Wrote l w d t at) h (wrote l w d t at)
