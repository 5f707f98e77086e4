-- Books, edits and first rules: what passes the questions is spelled by its text and within the limits, and everything of that kind passes.
use mathlib.Core.Path.{◌≡◌, refl, sym, ◌∙◌, ap, subst}
use mathlib.Core.List.{List, [], ◌∷◌, ◌++◌, append-nil}
use Prim.Native.Nat.{ℕ, zero, suc, ◌+◌, ◌≤◌}
use native.Mathlib.Omega.{arith}
use lib.ListN.{length, take}
use lib.Seq.{take_at}
use lib.Dec.{leb}
use borrow.Author.Tests.{leb-true, le-leb}
use denote.Ref.{Bor}
use Rattle.answer.specs.Asked.{Asked, passed, refused, ◌>>=◌, after}
use Rattle.answer.proofs.AskedLaws.{passed-same, refused-not-passed, is-then, so-then}
use Rattle.logic.specs.Syntax.{Expr, rule, Edit}
use Rattle.logic.specs.Limits.{max_nodes}
use Rattle.logic.specs.Lists.{All}
use Rattle.logic.proofs.ListLaws.{all_so}
use Rattle.text.specs.Code.{code, edit_code, book_code}
use Rattle.text.specs.Part.{PartOf}
use Rattle.text.specs.Reading.{most_rules, Limits, text_limits, Want, Thing, expr, edit, Fault, Read, got, fault, follow, read_as}
use Rattle.text.specs.Stands.{RulesInRange, EditStands}
use Rattle.text.specs.Questions.{fault_number, first, whole, read_rules, ask_book, ask_first, ask_one, ask_rule, ask_edit, ask_rule_end, first_rule, first_part}
use Rattle.text.proofs.Converse.{spelling, Allowed, Written, Wrote, wrote, read-is-written}
use Rattle.text.proofs.TextReadBack.{reads}

abbrev pub EachAllowed : Limits → List (Expr rule) → Type 0
EachAllowed l book = All (Allowed l (expr rule) 1) book

pub rules-in-range : (l : Limits) (rules : List (Expr rule)) → EachAllowed l rules → RulesInRange l.numbers rules
rules-in-range l = all_so (λ K a. a.numbers_fit)

-- A text that spells a book of at most m rules within the limits.
pub record SpellsRules (l : Limits) (m : ℕ) (t : List ℕ) (book : List (Expr rule)) : Type 0 where
  pub text-is : t ≡ book_code book
  pub few : length book ≤ m
  pub rules : EachAllowed l book

-- A text that spells a book within the limits; one that spells an edit or one rule; and one that begins with a rule.
pub record SpellsBook (l : Limits) (t : List ℕ) (book : List (Expr rule)) : Type 0 where
  pub short : length t ≤ l.longest
  pub spells : SpellsRules l most_rules t book

pub record Spells (l : Limits) (w : Want) (t : List ℕ) (e : Thing w) : Type 0 where
  pub text-is : t ≡ spelling w e
  pub short : length t ≤ l.longest
  pub within : Allowed l w 1 e

pub record BeginsWith (l : Limits) (t : List ℕ) (K : Expr rule) : Type 0 where
  pub rest : List ℕ
  pub text-is : t ≡ code K ++ rest
  pub short : length t ≤ l.longest
  pub within : Allowed l (expr rule) 1 K

-- What was read if the questions about it pass.
pub whole-got : {A : Type 0} (base : ℕ) (x : Read A) {a : A} → whole base x ≡ passed a → (p : ℕ) × (x ≡ got a [] p)
unfolding whole
whole-got base (got b [] p) h = (p, ap (λ y. got y [] p) (passed-same h))
whole-got base (got b (c ∷ r) p) h = refused-not-passed h
whole-got base (fault why p) h = refused-not-passed h

first-got : {A : Type 0} (x : Read A) {a : A} → first x ≡ passed a → (r : List ℕ) × (p : ℕ) × (x ≡ got a r p)
unfolding first
first-got (got b r p) h = (r, p, ap (λ y. got y r p) (passed-same h))
first-got (fault why p) h = refused-not-passed h

pub fault-not-got : {A P : Type 0} {why : Fault} {q : ℕ} {a : A} {r : List ℕ} {p : ℕ} → fault why q ≡ got a r p → P
fault-not-got e = let z : ◌≡◌ {A = ℕ} 0 1 = cc in absurd (omega arith)

module _ (l : Limits) where
  -- what the rules that were read say about the text
  abbrev Rules : ℕ → List ℕ → Asked (List (Expr rule)) → Type 0
  Rules m t (passed book) = SpellsRules l m t book
  Rules m t (refused q p) = Unit {0}

  rules : (m : ℕ) (t : List ℕ) (at : ℕ) → Rules m t (read_rules l m t at)
  unfolding read_rules book_code ◌>>=◌
  rules zero [] at = record { text-is = refl; few = omega arith; rules = tt }
  rules zero (c ∷ t) at = tt
  rules (suc m) [] at = record { text-is = refl; few = omega arith; rules = tt }
  rules (suc m) (c ∷ t) at = go (read_as l (expr rule) (c ∷ t) at) (wrote l (expr rule) 1 (c ∷ t) at) (λ r p. rules m r p) where
    more : (K : Expr rule) (r : List ℕ) (p : ℕ) → Written l (expr rule) 1 (c ∷ t) at K r p → (q : Asked (List (Expr rule))) → Rules m r q → Rules (suc m) (c ∷ t) (q >>= (λ book. passed (K ∷ book)))
    more K r p w (passed book) h = record { text-is = w.text-is ∙ ap (code K ++◌) h.text-is; few = omega (arith, h.few); rules = (w.within, h.rules) }
    more K r p w (refused q p') h = tt

    go : (x : Read (Expr rule)) → Wrote l (expr rule) 1 (c ∷ t) at x → ((r : List ℕ) (p : ℕ) → Rules m r (read_rules l m r p))
        → Rules (suc m) (c ∷ t) (elim x [ got K r p ↦ read_rules l m r p >>= (λ book. passed (K ∷ book)) | fault why p ↦ refused (fault_number 10 why) p ])
    go (got K r p) w k = more K r p w (read_rules l m r p) (k r p)
    go (fault why p) w k = tt

  -- if a rule is read, the rules are that one and those after it
  pub rules-step : (m : ℕ) (t : List ℕ) (at : ℕ) (K : Expr rule) (r : List ℕ) (p : ℕ) → read_as l (expr rule) t at ≡ got K r p → read_rules l (suc m) t at ≡ read_rules l m r p >>= (λ book. passed (K ∷ book))
  unfolding read_rules follow
  rules-step m [] at K r p h = fault-not-got h
  rules-step m (c ∷ t) at K r p h = ap (λ x. elim x as (λ y. Asked (List (Expr rule))) [ got K r p ↦ read_rules l m r p >>= (λ book. passed (K ∷ book)) | fault why p ↦ refused (fault_number 10 why) p ]) h

  pub rules-fault : (m : ℕ) (t : List ℕ) (at : ℕ) (why : Fault) (p : ℕ) → (t ≡ [] → ⊥) → read_as l (expr rule) t at ≡ fault why p → read_rules l (suc m) t at ≡ refused (fault_number 10 why) p
  unfolding read_rules
  rules-fault m [] at why p some h = absurd (some refl)
  rules-fault m (c ∷ t) at why p some h =
      ap (λ x. elim x as (λ y. Asked (List (Expr rule))) [ got K r p ↦ read_rules l m r p >>= (λ book. passed (K ∷ book)) | fault why p ↦ refused (fault_number 10 why) p ]) h

  rules-back : (m : ℕ) (book : List (Expr rule)) (at : ℕ) → length book ≤ m → EachAllowed l book → read_rules l m (book_code book) at ≡ passed book
  unfolding read_rules book_code ◌>>=◌
  rules-back zero [] at h a = refl
  rules-back zero (K ∷ book) at h a = absurd (omega arith)
  rules-back (suc m) [] at h a = refl
  rules-back (suc m) (K ∷ book) at h a =
      rules-step m (code K ++ book_code book) at K (book_code book) (at + length (code K)) (reads l (expr rule) 1 K a.0 (book_code book) at)
      ∙ ap (◌>>= (λ b. passed (K ∷ b))) (rules-back m book (at + length (code K)) (omega arith) a.1)

  -- A book passes exactly when the text spells it within the limits.
  pub book-is-spelled : (t : List ℕ) (book : List (Expr rule)) → ask_book l t ≡ passed book → SpellsBook l t book
  unfolding ask_book
  book-is-spelled t book h =
      let (short, e) = is-then (leb (length t) l.longest) 11 0 (read_rules l most_rules t 0) h in
      record { short = leb-true (length t) l.longest short; spells = subst (Rules most_rules t) e (rules most_rules t 0) }

  pub spelled-book-passes : (t : List ℕ) (book : List (Expr rule)) → SpellsBook l t book → ask_book l t ≡ passed book
  unfolding ask_book
  spelled-book-passes t book s =
      so-then 11 0 (read_rules l most_rules t 0) (le-leb (length t) l.longest s.short)
      ∙ ap (λ x. read_rules l most_rules x 0) s.spells.text-is
      ∙ rules-back most_rules book 0 s.spells.few s.spells.rules

  -- So do an edit and one rule.
  module _ (base : ℕ) (w : Want) (t : List ℕ) (e : Thing w) where
    pub one-is-spelled : ask_one l base w t ≡ passed e → Spells l w t e
    unfolding ask_one
    one-is-spelled h =
        let (short, i) = is-then (leb (length t) l.longest) (base + 1) 0 (whole base (read_as l w t 0)) h in
        let (p, g) = whole-got base (read_as l w t 0) i in
        let s = read-is-written l w 1 t 0 g in
        record { text-is = s.text-is ∙ append-nil (spelling w e); short = leb-true (length t) l.longest short; within = s.within }

    pub spelled-one-passes : Spells l w t e → ask_one l base w t ≡ passed e
    unfolding ask_one whole
    spelled-one-passes s =
        so-then (base + 1) 0 (whole base (read_as l w t 0)) (le-leb (length t) l.longest s.short)
        ∙ ap (λ x. whole base (read_as l w x 0)) (s.text-is ∙ sym (append-nil (spelling w e)))
        ∙ ap (whole base) (reads l w 1 e s.within [] 0)

  pub edit-is-spelled : (t : List ℕ) (Z : Edit) → ask_edit l t ≡ passed Z → Spells l edit t Z
  edit-is-spelled t Z h = one-is-spelled 20 edit t Z h

  pub spelled-edit-passes : (t : List ℕ) (Z : Edit) → Spells l edit t Z → ask_edit l t ≡ passed Z
  spelled-edit-passes t Z s = spelled-one-passes 20 edit t Z s

  pub rule-is-spelled : (t : List ℕ) (K : Expr rule) → ask_rule l t ≡ passed K → Spells l (expr rule) t K
  rule-is-spelled t K h = one-is-spelled 10 (expr rule) t K h

  pub spelled-rule-passes : (t : List ℕ) (K : Expr rule) → Spells l (expr rule) t K → ask_rule l t ≡ passed K
  spelled-rule-passes t K s = spelled-one-passes 10 (expr rule) t K s

  -- An edit starts at the start of its text.
  pub read-edit-stands : {t : List ℕ} {Z : Edit} → ask_edit l t ≡ passed Z → EditStands l.numbers t 0 Z
  read-edit-stands {t} {Z} h = let s = edit-is-spelled t Z h in record { rest = []; here = s.text-is ∙ sym (append-nil (edit_code Z)); range = s.within.numbers_fit }

  -- And the first rule of a text.
  pub first-is-spelled : (t : List ℕ) (K : Expr rule) → ask_first l t ≡ passed K → BeginsWith l t K
  unfolding ask_first
  first-is-spelled t K h =
      let (short, i) = is-then (leb (length t) l.longest) 11 0 (first (read_as l (expr rule) t 0)) h in
      let (r, p, g) = first-got (read_as l (expr rule) t 0) i in
      let s = read-is-written l (expr rule) 1 t 0 g in
      record { rest = r; text-is = s.text-is; short = leb-true (length t) l.longest short; within = s.within }

  pub spelled-first-passes : (t : List ℕ) (K : Expr rule) → BeginsWith l t K → ask_first l t ≡ passed K
  unfolding ask_first first
  spelled-first-passes t K s =
      so-then 11 0 (first (read_as l (expr rule) t 0)) (le-leb (length t) l.longest s.short)
      ∙ ap (λ x. first (read_as l (expr rule) x 0)) s.text-is
      ∙ ap first (reads l (expr rule) 1 K s.within s.rest 0)

-- RULE END: the part that holds the first rule is that rule, byte for byte.
part-holds : (t : List ℕ) → take (length (first_rule t)) t ≡ first_rule t
unfolding first_rule after
part-holds t = go (ask_rule_end t) refl where
  go : (x : Asked (Expr rule)) → ask_rule_end t ≡ x → take (length (after x code [])) t ≡ after x code []
  go (passed K) e = let s = first-is-spelled (text_limits max_nodes) t K e in ap (take (length (code K))) s.text-is ∙ take_at (code K) s.rest (length (code K)) refl
  go (refused q p) e = refl

pub part-is-rule : {text r : Bor (List ℕ)} → PartOf text (first_part text.now) r → r.now ≡ first_rule text.now
part-is-rule {text} h = unfold first_part in h.contents ∙ part-holds text.now

-- ONE TEXT for one book and for one edit, whatever the limits that it passed.
pub one_text_of_a_book : (l l' : Limits) (t t' : List ℕ) (book : List (Expr rule)) → ask_book l t ≡ passed book → ask_book l' t' ≡ passed book → t ≡ t'
one_text_of_a_book l l' t t' book h h' = (book-is-spelled l t book h).spells.text-is ∙ sym (book-is-spelled l' t' book h').spells.text-is

pub one_text_of_an_edit : (l l' : Limits) (t t' : List ℕ) (Z : Edit) → ask_edit l t ≡ passed Z → ask_edit l' t' ≡ passed Z → t ≡ t'
one_text_of_an_edit l l' t t' Z h h' = (edit-is-spelled l t Z h).text-is ∙ sym (edit-is-spelled l' t' Z h').text-is
