-- A book that passes the questions of a book is left as it is.
use mathlib.Core.Path.{◌≡◌, refl, sym, ◌∙◌, ap, ap₂}
use mathlib.Core.Bool.{◌&&◌}
use mathlib.Core.List.{List, [], ◌∷◌}
use Prim.Native.Nat.{ℕ, ◌≤◌}
use native.Mathlib.Omega.{arith}
use lib.Dec.{T, leb, leb→le}
use borrow.Author.Tests.{ne_eqb, le-leb, lt-ltb}
use Rattle.answer.specs.Asked.{passed, ◌>>=◌}
use Rattle.logic.specs.Syntax.{Sort, node, arrow, rule, Expr, at_least, at_most}
use Rattle.logic.specs.Limits.{max_nodes, ranges, former_ranges, InRange}
use Rattle.logic.specs.Arity.{build1, build2}
use Rattle.logic.proofs.ArityLaws.{range-1, range-2}
use Rattle.logic.proofs.Bools.{both_so}
use Rattle.text.specs.Code.{book_code}
use Rattle.text.specs.Reading.{text_limits}
use Rattle.text.specs.Questions.{ask_book}
use Rattle.text.proofs.TextSpelling.{EachAllowed, book-is-spelled}
use Rattle.rewrite_counts.specs.Rewritten.{least_rewritten, most_rewritten, rewritten, rewritten_book, ask_rewritten}
use Rattle.rewrite_counts.proofs.ByRewriting.{by_rewriting}
use Rattle.rewrite_counts.proofs.Wider.{former-of-now, former-below, book-wider}

least_kept : (m : ℕ) (R R' : Expr arrow) (E E' : Expr node) → T (leb 1 m && leb m max_nodes) → R' ≡ R → E' ≡ E → least_rewritten m R' E' ≡ at_least m R E
unfolding least_rewritten
least_kept m R R' E E' h r e =
    let b = both_so (leb 1 m) (leb m 60) h in
    let from : 1 ≤ m = leb→le 1 m b.0 in
    rw (ne_eqb m 0 (λ z. omega arith), le-leb m 60 (leb→le m 60 b.1)) (ap₂ (at_least m) r e)

most-kept : (m : ℕ) (R R' : Expr arrow) (E E' : Expr node) → T (leb m 59) → R' ≡ R → E' ≡ E → most_rewritten m R' E' ≡ at_most m R E
most-kept m R R' E E' h r e = unfold most_rewritten in let to : m ≤ 59 = leb→le m 59 h in rw (lt-ltb m 60 (omega arith)) (ap₂ (at_most m) r e)

module _ (n : ℕ) where
  -- A term whose counts are in today's ranges is not changed.
  pub kept : {s : Sort} (e : Expr s) → InRange (ranges n) e → rewritten e ≡ e
  unfolding InRange
  kept = by_rewriting (λ s e e'. InRange (ranges n) e → e' ≡ e) (λ s b h. refl)
      (λ u t b x x' p h. ap (build1 b) (p ((range-1 (ranges n) b x).0 h).1))
      (λ u v t b _ _ x x' y y' p q h. let i = ((range-2 (ranges n) b x y).0 h).1 in ap₂ (build2 b) (p i.0) (q i.1))
      (λ m R R' E E' p q h. least_kept m R R' E E' h.0 (p h.1) (q h.2))
      (λ m R R' E E' p q h. most-kept m R R' E E' h.0 (p h.1) (q h.2))

  each-kept : (rules : List (Expr rule)) → EachAllowed (text_limits n) rules → rewritten_book rules ≡ rules
  each-kept [] h = refl
  each-kept (K ∷ Ks) h = ap₂ ◌∷◌ (kept K h.0.numbers_fit) (each-kept Ks h.1)

  pub book_kept : (t : List ℕ) (rules : List (Expr rule)) → ask_book (text_limits n) t ≡ passed rules → rewritten_book rules ≡ rules
  book_kept t rules h = each-kept rules (book-is-spelled (text_limits n) t rules h).spells.rules

  -- The bytes of a book that passes are left as they are.
  pub left_alone : n ≤ max_nodes → (t : List ℕ) (rules : List (Expr rule)) → ask_book (text_limits n) t ≡ passed rules → ask_rewritten t ≡ passed t
  unfolding ask_rewritten ◌>>=◌
  left_alone l t rules h =
      rw (book-wider (ranges n) (former_ranges max_nodes) (λ k x i. former-below n l k x (former-of-now n k x i)) t rules h)
      (ap (λ x. passed (book_code x)) (book_kept t rules h) ∙ ap passed (sym (book-is-spelled (text_limits n) t rules h).spells.text-is))
