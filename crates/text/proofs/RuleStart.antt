-- Where the rules of a book start: each after the codes of those before it.
use mathlib.Core.Path.{◌≡◌, refl, sym, ◌∙◌, ap, subst}
use mathlib.Core.List.{List, [], ◌∷◌, ◌++◌, append_assoc}
use Prim.Native.Nat.{ℕ, zero, suc, ◌+◌}
use native.Mathlib.Omega.{arith}
use lib.ListN.{length, take, drop, length-append, take-append-drop}
use lib.Seq.{drop-append_seam}
use Rattle.answer.specs.Asked.{passed}
use Rattle.logic.specs.Syntax.{Expr, rule}
use Rattle.logic.proofs.ListLaws.{all_drop}
use Rattle.text.specs.Code.{code, book_code}
use Rattle.text.specs.Reading.{Limits, expr, Fault, got, fault, follow, read_as}
use Rattle.text.specs.Questions.{rules_end, rule_start_def, ask_book}
use Rattle.text.specs.Stands.{Stands}
use Rattle.text.proofs.Converse.{Allowed}
use Rattle.text.proofs.TextReadBack.{reads}
use Rattle.text.proofs.TextSpelling.{EachAllowed, book-is-spelled}

-- Rule i of a book: its place is the length of the codes before it, and what is left of the text there is the codes of the rules from i on.
-- So rule i starts there, if there is one.
pub record RuleStands (l : Limits) (t : List ℕ) (book : List (Expr rule)) (i : ℕ) : Type 0 where
  pub place_is : rule_start_def l i t ≡ length (book_code (take i book))
  pub left_is : drop (rule_start_def l i t) t ≡ book_code (drop i book)
  pub stands : (K : Expr rule) (others : List (Expr rule)) → drop i book ≡ K ∷ others → Stands l.numbers t (rule_start_def l i t) K

book-append : (a b : List (Expr rule)) → book_code (a ++ b) ≡ book_code a ++ book_code b
unfolding book_code
book-append [] b = refl
book-append (K ∷ a) b = ap (code K ++◌) (book-append a b) ∙ sym (append_assoc (code K) (book_code a) (book_code b))

module _ (l : Limits) where
  -- after one rule, and where there is none
  pub end_step : (i : ℕ) (t : List ℕ) (at : ℕ) {K : Expr rule} {r : List ℕ} {p : ℕ} → read_as l (expr rule) t at ≡ got K r p → rules_end l (suc i) t at ≡ rules_end l i r p
  end_step i t at h = unfold rules_end in rw (h, rules_end)

  pub end-fault : (i : ℕ) (t : List ℕ) (at : ℕ) {why : Fault} {p : ℕ} → read_as l (expr rule) t at ≡ fault why p → rules_end l (suc i) t at ≡ at + length t
  end-fault i t at h = unfold rules_end in rw (h, rules_end)

  end_is : (i : ℕ) (book : List (Expr rule)) (at : ℕ) → EachAllowed l book → rules_end l i (book_code book) at ≡ at + length (book_code (take i book))
  unfolding rules_end book_code follow
  end_is zero book at a = omega arith
  end_is (suc i) [] at a = refl
  end_is (suc i) (K ∷ book) at a =
      end_step i (code K ++ book_code book) at (reads l (expr rule) 1 K a.0 (book_code book) at)
      ∙ end_is i book (at + length (code K)) a.1
      ∙ omega (arith, length-append (code K) (book_code (take i book)))

  -- RULE i OF A BOOK THAT PASSES STARTS AT rule_start_def, and its code begins there.
  pub rule-stands : (t : List ℕ) (book : List (Expr rule)) → ask_book l t ≡ passed book → (i : ℕ) → RuleStands l t book i
  unfolding rule_start_def book_code
  rule-stands t book h i =
      let s = (book-is-spelled l t book h).spells in
      let place : rule_start_def l i t ≡ length (book_code (take i book)) = ap (λ x. rules_end l i x 0) s.text-is ∙ end_is i book 0 s.rules ∙ omega arith in
      let split : t ≡ book_code (take i book) ++ book_code (drop i book) = s.text-is ∙ ap book_code (sym (take-append-drop i book)) ∙ book-append (take i book) (drop i book) in
      let left : drop (rule_start_def l i t) t ≡ book_code (drop i book) = ap (λ k. drop k t) place ∙ ap (drop (length (book_code (take i book)))) split ∙ drop-append_seam (book_code (take i book)) (book_code (drop i book)) in
      record {
        place_is = place;
        left_is = left;
        stands = λ K others e. record { rest = book_code others; here = left ∙ ap book_code e; range = (subst (EachAllowed l) e (all_drop (Allowed l (expr rule) 1) i book s.rules)).0.numbers_fit };
      }
