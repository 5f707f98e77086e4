-- A text has one reading, whatever the limits; and a text of one rule is a book of one rule.
use mathlib.Core.Path.{◌≡◌, refl, sym, ◌∙◌, ap, ap₂, subst}
use mathlib.Core.Bool.{Bool, true, false}
use mathlib.Core.List.{List, [], ◌∷◌, ◌++◌, append-nil}
use Prim.Native.Nat.{ℕ, suc, ◌+◌}
use native.Mathlib.Omega.{arith}
use lib.Dec.{eqb, leb}
use lib.ListN.{length}
use Rattle.answer.specs.Asked.{passed}
use Rattle.logic.specs.Syntax.{Expr, rule}
use Rattle.logic.specs.Limits.{fits}
use Rattle.text.specs.Code.{code, book_code}
use Rattle.text.specs.Reading.{Limits, expr, Format, done, number, operand, ◌>>=◌, Entry, Fault, Read, got, fault, wrong_sort, too_deep, out_of_range, codes, choice, follow, read_as}
use Rattle.text.specs.Questions.{ask_book, ask_rule}
use Rattle.text.proofs.TextReadBack.{reads}
use Rattle.text.proofs.TextSpelling.{EachAllowed, rule-is-spelled, book-is-spelled}

-- Nothing is read without a byte, so a rule has some.
none-there : (l : Limits) (t : List ℕ) (K : Expr rule) (r : List ℕ) (p : ℕ) → t ≡ [] → read_as l (expr rule) t 0 ≡ got K r p → ⊥
unfolding follow
none-there l t K r p e h = let g : read_as l (expr rule) [] 0 ≡ got K r p = subst (λ u. read_as l (expr rule) u 0 ≡ got K r p) e h in let z : ◌≡◌ {A = ℕ} 0 1 = cc in absurd (omega arith)

no-rules : (l : Limits) (rules : List (Expr rule)) → EachAllowed l rules → book_code rules ≡ [] → rules ≡ []
unfolding book_code
no-rules l [] a e = refl
no-rules l (K ∷ rules) a e = absurd (none-there l (code K ++ book_code rules) K (book_code rules) _ e (reads l (expr rule) 1 K a.0 (book_code rules) 0))

alone-read : (l : Limits) (t : List ℕ) (K : Expr rule) → ask_rule l t ≡ passed K → read_as l (expr rule) t 0 ≡ got K [] (0 + length (code K))
alone-read l t K h =
    let s = rule-is-spelled l t K h in
    ap (λ u. read_as l (expr rule) u 0) (s.text-is ∙ sym (append-nil (code K))) ∙ reads l (expr rule) 1 K s.within [] 0

-- Two readings give the same, or one of them gives nothing.
abbrev Agree : {A : Type 0} → Read A → Read A → Type 0
Agree (got a r p) (got b s q) = got a r p ≡ got b s q
Agree (got a r p) (fault why q) = Unit {0}
Agree (fault why p) y = Unit {0}

agree-fault : {A : Type 0} (x : Read A) (why : Fault) (p : ℕ) → Agree x (fault why p)
agree-fault (got a r q) why p = tt
agree-fault (fault w q) why p = tt

agree-both : {A : Type 0} (b c : Bool) (x y : Read A) (why : Fault) (p : ℕ) → Agree x y → Agree {A = A} (elim b [ true ↦ x | false ↦ fault why p ]) (elim c [ true ↦ y | false ↦ fault why p ])
agree-both true true x y why p h = h
agree-both true false x y why p h = agree-fault x why p
agree-both false c x y why p h = tt

agree-choice : {A B : Type 0} (c : ℕ) (es : List (Entry A)) (f g : Format A → Read B) (why : Fault) (p : ℕ) → ((e : Format A) → Agree (f e) (g e)) → Agree (choice c es f (fault why p)) (choice c es g (fault why p))
unfolding choice
agree-choice c [] f g why p h = tt
agree-choice {A} {B} c (e ∷ es) f g why p h = go (eqb c e.byte) (agree-choice c es f g why p h) where
  go : (b : Bool) → Agree (choice c es f (fault why p)) (choice c es g (fault why p)) → Agree {A = B} (elim b [ true ↦ f e.format | false ↦ choice c es f (fault why p) ]) (elim b [ true ↦ g e.format | false ↦ choice c es g (fault why p) ])
  go true k = h e.format
  go false k = k

module _ (l l' : Limits) where
  -- So do two readings of a text by one format under two limits.
  agree : {A : Type 0} (t : List ℕ) (p : Format A) (at : ℕ) → Agree (follow l t p at) (follow l' t p at)
  unfolding follow
  agree [] (done a) at = refl
  agree [] (number k f) at = tt
  agree [] (operand w d f) at = tt
  agree (x ∷ t) (done a) at = refl
  agree (x ∷ t) (number k f) at = agree-both (fits l.numbers k x) (fits l'.numbers k x) (follow l t (f x) (suc at)) (follow l' t (f x) (suc at)) out_of_range at (agree t (f x) (suc at))
  agree (c ∷ t) (operand w d f) at =
      agree-choice c (codes d w) _ _ wrong_sort at (λ p. agree-both (leb d l.deepest) (leb d l'.deepest) (follow l t (p >>= f) (suc at)) (follow l' t (p >>= f) (suc at)) too_deep at (agree t (p >>= f) (suc at)))

  got_same : {A : Type 0} (t : List ℕ) (p : Format A) (at : ℕ) (a b : A) (r s : List ℕ) (x y : ℕ) → follow l t p at ≡ got a r x → follow l' t p at ≡ got b s y → got a r x ≡ got b s y
  got_same t p at a b r s x y e e' = subst (λ z. Agree z (got b s y)) e (subst (Agree (follow l t p at)) e' (agree t p at))

  -- One rule has one reading;
  pub one-rule : (t : List ℕ) (K L : Expr rule) → ask_rule l t ≡ passed K → ask_rule l' t ≡ passed L → K ≡ L
  one-rule t K L h h' = let e = got_same t (operand (expr rule) 1 done) 0 K L [] [] _ _ (alone-read l t K h) (alone-read l' t L h') in cc

  -- read as a book, it is just that rule.
  pub one-rule-book : (t : List ℕ) (K : Expr rule) (rules : List (Expr rule)) → ask_rule l t ≡ passed K → ask_book l' t ≡ passed rules → rules ≡ K ∷ []
  unfolding book_code
  one-rule-book t K rules h b = go rules (book-is-spelled l' t rules b).spells.text-is (book-is-spelled l' t rules b).spells.rules where
    go : (rules : List (Expr rule)) → t ≡ book_code rules → EachAllowed l' rules → rules ≡ K ∷ []
    go [] e a = absurd (none-there l t K [] _ e (alone-read l t K h))
    go (R ∷ rs) e a =
        let read : read_as l' (expr rule) t 0 ≡ got R (book_code rs) (0 + length (code R)) = ap (λ u. read_as l' (expr rule) u 0) e ∙ reads l' (expr rule) 1 R a.0 (book_code rs) 0 in
        let same : got K [] (0 + length (code K)) ≡ got R (book_code rs) (0 + length (code R)) = got_same t (operand (expr rule) 1 done) 0 K R [] (book_code rs) _ _ (alone-read l t K h) read in
        let first : R ≡ K = cc in
        let rest : book_code rs ≡ [] = cc in
        ap₂ ◌∷◌ first (no-rules l' rs a.1 rest)
