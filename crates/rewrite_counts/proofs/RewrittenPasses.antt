-- A rewritten book passes the questions of a book, for as many nodes as the stored book passed for by the former ranges.
use mathlib.Core.Path.{◌≡◌, refl, ap}
use mathlib.Core.Bool.{Bool, true, false, cond}
use mathlib.Core.List.{List}
use Prim.Native.Nat.{ℕ, ◌<◌}
use native.Mathlib.Omega.{arith}
use lib.Dec.{leb, ltb, eqb}
use lib.ListN.{length}
use borrow.Author.Tests.{eqb-false, ltb-true, le-leb}
use Rattle.answer.specs.Asked.{passed}
use Rattle.logic.specs.Syntax.{Sort, node, arrow, rule, Expr, all, none, at_least, at_most}
use Rattle.logic.specs.Limits.{ranges, former_ranges, InRange}
use Rattle.logic.specs.Arity.{Nullary, all·, none·, label·, nominal·, arrow_kind·, pair·, Unary, complement·, reversed·, node_in·, pair_in·, not_rule·, build0, numbers1}
use Rattle.logic.proofs.ArityLaws.{Fit, range-1, range-2}
use Rattle.logic.proofs.ListLaws.{all_map}
use Rattle.text.specs.Code.{book_code}
use Rattle.text.specs.Reading.{expr, text_limits, former_limits_def}
use Rattle.text.specs.Questions.{ask_book}
use Rattle.text.proofs.Converse.{Allowed}
use Rattle.text.proofs.TextSpelling.{book-is-spelled, spelled-book-passes}
use Rattle.rewrite_counts.specs.Rewritten.{least_rewritten, most_rewritten, rewritten, rewritten_book}
use Rattle.rewrite_counts.proofs.ByRewriting.{by_rewriting}
use Rattle.rewrite_counts.proofs.NoLonger.{no_deeper, book-no-longer, as-many-rules}

module _ (n : ℕ) where
  least-in : (m : ℕ) (R : Expr arrow) (E : Expr node) → InRange (ranges n) R → InRange (ranges n) E → InRange (ranges n) (least_rewritten m R E)
  unfolding least_rewritten InRange
  least-in m R E r e = go (eqb m 0) (leb m 60) (eqb-false m 0) refl where
    go : (z l : Bool) → (z ≡ false → m ≡ 0 → ⊥) → leb m 60 ≡ l → InRange (ranges n) (cond z all (cond l (at_least m R E) none))
    go true l f g = tt
    go false true f g = (rw (le-leb 1 m (omega (arith, f refl)), g) tt, r, e)
    go false false f g = tt

  most-in : (m : ℕ) (R : Expr arrow) (E : Expr node) → InRange (ranges n) R → InRange (ranges n) E → InRange (ranges n) (most_rewritten m R E)
  unfolding most_rewritten InRange
  most-in m R E r e = go (ltb m 60) (ltb-true m 60) where
    go : (l : Bool) → (l ≡ true → m < 60) → InRange (ranges n) (cond l (at_most m R E) all)
    go true f = (rw (le-leb m 59 (omega (arith, f refl))) tt, r, e)
    go false f = tt

  -- numbers that are not counts have the same ranges as before
  now-0 : {s : Sort} (b : Nullary s) → InRange (former_ranges n) (build0 b) → InRange (ranges n) (build0 b)
  unfolding InRange build0
  now-0 all· h = h
  now-0 none· h = h
  now-0 (label· k) h = h
  now-0 (nominal· i) h = h
  now-0 (arrow_kind· a) h = h
  now-0 (pair· i j) h = h

  now-1 : {u t : Sort} (b : Unary u t) → Fit (former_ranges n) (numbers1 b) → Fit (ranges n) (numbers1 b)
  now-1 complement· h = h
  now-1 reversed· h = h
  now-1 (node_in· i) h = h
  now-1 (pair_in· i j) h = h
  now-1 not_rule· h = h

  -- Each number of a rewritten term is in today's ranges.
  pub rewritten-in : {s : Sort} (e : Expr s) → InRange (former_ranges n) e → InRange (ranges n) (rewritten e)
  unfolding InRange
  rewritten-in = by_rewriting (λ s e e'. InRange (former_ranges n) e → InRange (ranges n) e') (λ s b. now-0 b)
      (λ u t b x x' p h. let i = (range-1 (former_ranges n) b x).0 h in (range-1 (ranges n) b x').1 (now-1 b i.0, p i.1))
      (λ u v t b none _ x x' y y' p q h. let i = ((range-2 (former_ranges n) b x y).0 h).1 in (range-2 (ranges n) b x' y').1 (rw none tt, (p i.0, q i.1)))
      (λ m R R' E E' p q h. least-in m R' E' (p h.1) (q h.2))
      (λ m R R' E E' p q h. most-in m R' E' (p h.1) (q h.2))

  rewritten-allowed : (K : Expr rule) → Allowed (former_limits_def n) (expr rule) 1 K → Allowed (text_limits n) (expr rule) 1 (rewritten K)
  rewritten-allowed K a = record { numbers_fit = rewritten-in K a.numbers_fit; levels-fit = omega (arith, a.levels-fit, no_deeper K) }

  pub rewritten-passes : (t : List ℕ) (rules : List (Expr rule)) → ask_book (former_limits_def n) t ≡ passed rules → ask_book (text_limits n) (book_code (rewritten_book rules)) ≡ passed (rewritten_book rules)
  rewritten-passes t rules h =
      let s = book-is-spelled (former_limits_def n) t rules h in
      spelled-book-passes (text_limits n) (book_code (rewritten_book rules)) (rewritten_book rules)
      (record {
        short = omega (arith, s.short, ap length s.spells.text-is, book-no-longer rules);
        spells = record { text-is = refl; few = omega (arith, s.spells.few, as-many-rules rules); rules = all_map (Allowed (text_limits n) (expr rule) 1) rewritten rewritten-allowed rules s.spells.rules };
      })
