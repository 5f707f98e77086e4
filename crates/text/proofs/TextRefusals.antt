-- How a book and an edit can be refused: with 11 to 16 and 21 to 26, and a place of the text or its end. A text that is too long is refused before it
-- is read, so no place is outside the longest text.
use mathlib.Core.Path.{◌≡◌}
use mathlib.Core.Bool.{Bool, true, false}
use mathlib.Core.List.{List, [], ◌∷◌}
use Prim.Native.Nat.{ℕ, zero, suc, ◌+◌, ◌≤◌}
use native.Mathlib.Omega.{arith}
use borrow.Author.Tests.{leb-true}
use lib.Dec.{leb, eqb}
use lib.ListN.{length}
use Rattle.answer.specs.Asked.{◌>>=◌, passed, refused}
use Rattle.answer.proofs.Refusals.{Refuses, passes, refuses, asked-refuses, bind-refuses, wider}
use Rattle.logic.specs.Syntax.{Expr, rule}
use Rattle.logic.specs.Limits.{fits}
use Rattle.text.specs.Reading.{Limits, Want, Thing, expr, edit, Format, done, number, operand, Entry, Fault, missing, wrong_sort, too_deep, out_of_range, Read, got, fault, codes, choice, follow, read_as}
use Rattle.text.specs.Reading as reading
use Rattle.text.specs.Questions.{fault_number, most_rules, whole, read_rules, ask_book, ask_one, ask_edit}

-- A reading stays inside the text, whose end is `end`: what is left starts where the reading has come to, and a fault is at no later place.
data Inside {A : Type 0} (end : ℕ) : Read A → Type 0 where
  left : {a : A} {rest : List ℕ} {p : ℕ} → p + length rest ≡ end → Inside end (got a rest p)
  at-fault : {why : Fault} (p : ℕ) → p ≤ end → Inside end (fault why p)

module _ (l : Limits) {A : Type 0} where
  if-inside : {end : ℕ} (b : Bool) {r q : Read A} → Inside end r → Inside end q → Inside {A = A} end (elim b [ true ↦ r | false ↦ q ])
  if-inside true h i = h
  if-inside false h i = i

  choice-inside : {B : Type 0} {end : ℕ} (c : ℕ) (es : List (Entry B)) {found : Format B → Read A} {other : Read A} → ((p : Format B) → Inside end (found p)) → Inside end other → Inside end (choice c es found other)
  unfolding choice
  choice-inside c [] h i = i
  choice-inside c (e ∷ es) h i = if-inside (eqb c e.byte) (h e.format) (choice-inside c es h i)

  follow-inside : (t : List ℕ) (p : Format A) (at : ℕ) {end : ℕ} → at + length t ≡ end → Inside end (follow l t p at)
  unfolding follow
  follow-inside [] (done a) at h = left h
  follow-inside [] (number k f) at h = at-fault at (omega arith)
  follow-inside [] (operand w d f) at h = at-fault at (omega arith)
  follow-inside (x ∷ t) (done a) at h = left h
  follow-inside (x ∷ t) (number k f) at h = if-inside (fits l.numbers k x) (follow-inside t (f x) (suc at) (omega arith)) (at-fault at (omega arith))
  follow-inside (x ∷ t) (operand w d f) at h =
      choice-inside x (codes d w) (λ q. if-inside (leb d l.deepest) (follow-inside t (reading.◌>>=◌ q f) (suc at) (omega arith)) (at-fault at (omega arith))) (at-fault at (omega arith))

fault-refuses : {A : Type 0} {most : ℕ} (base : ℕ) (why : Fault) (p : ℕ) → p ≤ most → Refuses (base + 1) (base + 6) most {A = A} (refused (fault_number base why) p)
fault-refuses base missing p h = refuses (base + 2) p (omega arith) (omega arith) h
fault-refuses base wrong_sort p h = refuses (base + 3) p (omega arith) (omega arith) h
fault-refuses base too_deep p h = refuses (base + 4) p (omega arith) (omega arith) h
fault-refuses base out_of_range p h = refuses (base + 5) p (omega arith) (omega arith) h

module _ (l : Limits) where
  rules-refuse : (m : ℕ) (t : List ℕ) (at : ℕ) {end : ℕ} → at + length t ≡ end → Refuses 11 16 end (read_rules l m t at)
  unfolding read_rules
  rules-refuse zero [] at h = passes
  rules-refuse zero (c ∷ t) at h = refuses 16 at (omega arith) (omega arith) (omega arith)
  rules-refuse (suc m) [] at h = passes
  rules-refuse (suc m) (c ∷ t) at {end} h = go (read_as l (expr rule) (c ∷ t) at) (follow-inside l (c ∷ t) (operand (expr rule) 1 done) at h) (λ rest p i. rules-refuse m rest p i) where
    go : (r : Read (Expr rule)) → Inside end r → ((rest : List ℕ) (p : ℕ) → p + length rest ≡ end → Refuses 11 16 end (read_rules l m rest p))
        → Refuses 11 16 end {A = List (Expr rule)} (elim r [ got K rest p ↦ read_rules l m rest p >>= (λ book. passed (K ∷ book)) | fault why p ↦ refused (fault_number 10 why) p ])
    go (got K rest p) (left i) k = bind-refuses (k rest p i) (λ book e. passes)
    go (fault why p) (at-fault _ i) k = fault-refuses 10 why p i

  whole-refuses : {A : Type 0} {end : ℕ} (base : ℕ) (r : Read A) → Inside end r → Refuses (base + 1) (base + 6) end (whole base r)
  unfolding whole
  whole-refuses base (got a [] p) (left i) = passes
  whole-refuses base (got a (x ∷ t) p) (left i) = refuses (base + 6) p (omega arith) (omega arith) (omega arith)
  whole-refuses base (fault why p) (at-fault _ i) = fault-refuses base why p i

  pub book-refuses : (t : List ℕ) → Refuses 11 16 l.longest (ask_book l t)
  unfolding ask_book
  book-refuses t =
      asked-refuses (leb (length t) l.longest) (omega arith) (omega arith) (omega arith)
      (λ e. wider (omega arith) (omega arith) (leb-true (length t) l.longest e) (rules-refuse most_rules t 0 (omega arith)))

  pub edit-refuses : (t : List ℕ) → Refuses 21 26 l.longest (ask_edit l t)
  unfolding ask_one
  edit-refuses t =
      asked-refuses (leb (length t) l.longest) (omega arith) (omega arith) (omega arith)
      (λ e. wider (omega arith) (omega arith) (leb-true (length t) l.longest e) (whole-refuses 20 (read_as l edit t 0) (follow-inside l t (operand edit 1 done) 0 (omega arith))))
