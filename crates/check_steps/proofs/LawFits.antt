-- If the right side is found, a law's left side is there: so a step on the text is the step on the term.
use mathlib.Core.Path.{◌≡◌, refl, sym, ap, ap₂, ◌∙◌, subst}
use mathlib.Core.List.{List, [], ◌∷◌, ◌++◌}
use Prim.Native.Nat.{ℕ, ◌≤◌, ◌<◌}
use native.Mathlib.Nat.{add-zero}
use native.Mathlib.Decide.{ℕ_discrete}
use native.Mathlib.Omega.{arith}
use lib.ListN.{length, get_or}
use borrow.Author.Tests.{eq-eqb}
use Rattle.logic.specs.Lists.{All}
use Rattle.logic.specs.Syntax.{Sort, node, arrow, rule, Expr, complement, and, or, not_rule}
use Rattle.logic.specs.Limits.{max_nodes, ranges, InRange}
use Rattle.logic.specs.Arity.{Unary, complement·, not_rule·, Binary, and·, or·, either·, build1, build2}
use Rattle.logic.proofs.ArityLaws.{range-2}
use Rattle.text.specs.Code.{code}
use Rattle.text.proofs.Items.{each_below}
use Rattle.shortening.specs.Place.{put, before, behind}
use Rattle.shortening.specs.Laws.{Law, laws, Made, made, unfit, numbered}
use Rattle.shortening.specs.Checking.{map_made, make_step}
use Rattle.shortening.proofs.Numbered.{◌&◌, by_number, unfit-not-made}
use Rattle.shortening.proofs.StepLimits.{range_at}
use Rattle.shortening.proofs.StandingTerms.{StandsIn}
use Rattle.shortening.proofs.ExactSteps.{fits-made, FitsAt, step-exact}
use Rattle.check_steps.specs.Raised.{raised, first_bytes_def, second_bytes_def, right_at, step_on}
use Rattle.check_steps.proofs.Spans.{raised-length}
use Rattle.check_steps.proofs.Sides.{right-4, right-again, Found, found}
use Rattle.check_steps.proofs.TermHeads.{head-1, head-2}
use Rattle.check_steps.proofs.Texts.{text_of, front, text-one-then, text-two-then, text-put}
use Rattle.check_steps.proofs.RaisedTerms.{place_at}
use Rattle.check_steps.proofs.Tops.{Begun, begun-by}
use Rattle.check_steps.proofs.StandsTwice.{top-at, same-again, contrary-of}
use Rattle.check_steps.proofs.Lefts.{Makes, Plain, laws-make}

-- What the first byte says about the term if the right side is found, and the second byte about its first operand.
first-begun : {s : Sort} (x : Expr s) (B D : List ℕ) {n : ℕ} → Found (B ++ (text_of x ++ D)) (length B) n → Begun s (get_or first_bytes_def n 0) x
first-begun x B D f = begun-by x _ (sym (top-at B [] x D) ∙ ap (λ k. get_or (B ++ (text_of x ++ D)) k 0) (add-zero (length B)) ∙ f.first-is)

second-begun : {s : Sort} (E : Expr s) (B : List ℕ) (c : ℕ) (Z : List ℕ) {n : ℕ} → Found (B ++ (c ∷ (text_of E ++ Z))) (length B) n → (get_or second_bytes_def n 0 ≡ 0 → ⊥) → Begun s (get_or second_bytes_def n 0) E
second-begun E B c Z f fixed = begun-by E _ (sym (top-at B (c ∷ []) E Z) ∙ f.second_is fixed)

-- A code with one operand of its sort, and with two.
module _ {s : Sort} (x : Expr s) (B D : List ℕ) {n : ℕ} (f : Found (B ++ (text_of x ++ D)) (length B) n) where
  next_one : (u : Unary s s) {c : ℕ} → front (head-1 u) ≡ c ∷ [] → (E : Expr s) → x ≡ build1 u E → (get_or second_bytes_def n 0 ≡ 0 → ⊥) → Begun s (get_or second_bytes_def n 0) E
  next_one u {c} alone E e = second-begun E B c D (subst (λ z. Found (B ++ z) (length B) n) (ap (λ z. text_of z ++ D) e ∙ text-one-then u E D ∙ ap (◌++ (text_of E ++ D)) alone) f)

  module _ (b : Binary s s s) {c : ℕ} (alone : front (head-2 b) ≡ c ∷ []) (E F : Expr s) (e : x ≡ build2 b E F) where
    opened : Found (B ++ (c ∷ (text_of E ++ (text_of F ++ D)))) (length B) n
    opened = subst (λ z. Found (B ++ z) (length B) n) (ap (λ z. text_of z ++ D) e ∙ text-two-then b E F D ∙ ap (◌++ (text_of E ++ (text_of F ++ D))) alone) f

    next-two : (get_or second_bytes_def n 0 ≡ 0 → ⊥) → Begun s (get_or second_bytes_def n 0) E
    next-two = second-begun E B c (text_of F ++ D) opened

    module _ (r : InRange (ranges max_nodes) x) where
      parts : InRange (ranges max_nodes) E × InRange (ranges max_nodes) F
      parts = ((range-2 (ranges max_nodes) b E F).0 (subst (InRange (ranges max_nodes)) e r)).1

      same-two : Plain n → get_or second_bytes_def n 0 ≡ 0 → x ≡ build2 b E E
      same-two plain any =
          e
          ∙ ap (build2 b E) (sym (same-again B (c ∷ []) E [] D F (λ z. opened.rest (sym (right-again _ (length B) n plain.1 plain.2 any) ∙ z)) parts.0 parts.1))

-- A term for which the right side of the law with a number is found is a left side of that law.
abbrev Left : {s : Sort} → ℕ → Law s → Type 0
Left {s} n l =
    (x : Expr s) (B D : List ℕ) → InRange (ranges max_nodes) x → Found (B ++ (text_of x ++ D)) (length B) n → Begun s (get_or first_bytes_def n 0) x → (v : Expr s) × (x ≡ l.left v)

laws-left : (s : Sort) → All (λ l. Left l.number l) (laws s)
unfolding laws first_bytes_def second_bytes_def build1 build2 head-1 head-2
laws-left node =
    (λ x B D r f (y, e). let (z, g) = next_one x B D f complement· refl y e (omega arith) in (z, e ∙ ap complement g))
    & (λ x B D r f (y, z, e). (y, same-two x B D f and· refl y z e r (omega arith) refl))
    & (λ x B D r f (y, z, e). (y, same-two x B D f or· refl y z e r (omega arith) refl))
    & (λ x B D r f (y, z, e). let (p, q) = parts x B D f and· refl y z e r in
    (y, e ∙ ap (and y) (contrary-of B 0x06 D y z p q (λ c. (opened x B D f and· refl y z e).rest (sym (right-4 _ (length B) 4 refl) ∙ c)))))
    & (λ x B D r f (y, z, e). (z, e ∙ ap (λ w. or w z) (next-two x B D f or· refl y z e (omega arith))))
    & (λ x B D r f (y, z, e). (z, e ∙ ap (λ w. and w z) (next-two x B D f and· refl y z e (omega arith))))
    & tt
laws-left arrow = tt
laws-left rule =
    (λ x B D r f (y, e). let (z, g) = next_one x B D f not_rule· refl y e (omega arith) in (z, e ∙ ap not_rule g))
    & (λ x B D r f (y, z, e). (y, same-two x B D f either· refl y z e r (omega arith) refl))
    & tt

-- A number whose first byte begins a term of a sort is that of a law of the sort.
abbrev HasLaw : Sort → ℕ → Type 0
HasLaw s n = (x : Expr s) → Begun s (get_or first_bytes_def n 0) x → (l : Law s) × (numbered n (laws s) ≡ made l)

no_arrow : (n : ℕ) → n < 9 → 0x11 ≤ get_or first_bytes_def n 0 → 0x17 < get_or first_bytes_def n 0
no_arrow = unfold first_bytes_def in each_below (λ n. 0x11 ≤ get_or first_bytes_def n 0 → 0x17 < get_or first_bytes_def n 0) 9 (omega arith)

first-low : (n : ℕ) → n < 9 → get_or first_bytes_def n 0 < 128
first-low = unfold first_bytes_def in each_below (λ n. get_or first_bytes_def n 0 < 128) 9 (omega arith)

-- one more number
infixl 20 ◌▸◌
◌▸◌ : {A B : Type 0} → A → B → A × B
a ▸ b = (a, b)

law-of : (s : Sort) (n : ℕ) → n < 9 → HasLaw s n
unfolding first_bytes_def laws numbered
law-of node = each_below (HasLaw node) 9
    (tt ▸ (λ x b. absurd (omega arith))
    ▸ (λ x b. (_, refl)) ▸ (λ x b. (_, refl)) ▸ (λ x b. (_, refl)) ▸ (λ x b. (_, refl)) ▸ (λ x b. (_, refl)) ▸ (λ x b. (_, refl))
    ▸ (λ x b. absurd (omega arith)) ▸ (λ x b. absurd (omega arith)))
law-of arrow = λ n l x b. absurd (omega (arith, no_arrow n l b.0, b.1))
law-of rule = each_below (HasLaw rule) 9
    (tt ▸ (λ x b. absurd (omega arith)) ▸ (λ x b. absurd (omega arith)) ▸ (λ x b. absurd (omega arith)) ▸ (λ x b. absurd (omega arith))
    ▸ (λ x b. absurd (omega arith)) ▸ (λ x b. absurd (omega arith)) ▸ (λ x b. absurd (omega arith))
    ▸ (λ x b. (_, refl)) ▸ (λ x b. (_, refl)))

-- A STEP ON THE TEXT is the step on the term.
pub step-text : (n : ℕ) (K : Expr rule) (at : ℕ) → InRange (ranges max_nodes) K → map_made text_of (make_step n K at) ≡ step_on (text_of K) at n
unfolding map_made step_on
step-text n K at r = go (make_step n K at) refl where
  text : List ℕ
  text = text_of K

  fitted : (M : Expr rule) → FitsAt n K at M → made (text_of M) ≡ step_on text at n
  fitted M f =
      let makes : Makes n f.law = by_number Makes (laws-make f.sort) f.number_right in
      let B : List ℕ = raised 0 (before f.place) in
      let D : List ℕ = raised 0 (behind f.place) in
      let place_is : length B ≡ at = raised-length 0 (before f.place) ∙ sym f.offset_right in
      cc (f.from, text-put f.place (f.law.left f.variable), makes f.variable B D, text-put f.place (f.law.right f.variable), f.to)

  made-somewhere : make_step n K at ≡ unfit → Found text at n → StandsIn K at → ⊥
  made-somewhere u f s =
      let E = s.what in
      let B : List ℕ = raised 0 (before s.place) in
      let D : List ℕ = raised 0 (behind s.place) in
      let place_is : at ≡ length B = s.offset ∙ sym (raised-length 0 (before s.place)) in
      let text-is : text ≡ B ++ (text_of E ++ D) = ap text_of s.from ∙ text-put s.place E in
      let g : Found (B ++ (text_of E ++ D)) (length B) n = subst (λ p. Found (B ++ (text_of E ++ D)) p n) place_is (subst (λ t. Found t at n) text-is f) in
      let b : Begun s.sort (get_or first_bytes_def n 0) E = first-begun E B D g in
      let (l, q) = law-of s.sort n f.known E b in
      let in-range : InRange (ranges max_nodes) E = range_at (ranges max_nodes) s.place E (subst (InRange (ranges max_nodes)) s.from r) in
      let (v, e) = by_number Left (laws-left s.sort) q E B D in-range g b in
      let m : make_step n K at ≡ made (put s.place (l.right v)) = ap₂ (make_step n) (s.from ∙ ap (put s.place) e) s.offset ∙ fits-made n s.place l q v in
      unfit-not-made (put s.place (l.right v)) (sym u ∙ m)

  nowhere : make_step n K at ≡ unfit → Dec (right_at text at n ≡ 0) → right_at text at n ≡ 0
  nowhere u (yes z) = z
  nowhere u (no z) =
      let f = found text at n z in
      absurd (made-somewhere u f (place_at K at (omega (arith, f.room, raised-length 0 (code K))) (omega (arith, f.first-is, first-low n f.known))))

  go : (m : Made (Expr rule)) → make_step n K at ≡ m → map_made text_of m ≡ step_on text at n
  go (made M) e = fitted M ((step-exact (record { offset = at; law = n }) K M).0 e)
  go unfit e = let z = nowhere e (ℕ_discrete (right_at text at n) 0) in cc (eq-eqb (right_at text at n) 0 z)
