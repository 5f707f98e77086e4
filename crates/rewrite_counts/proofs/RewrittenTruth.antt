-- A rewritten book holds on a sheet exactly where the stored book did, rule by rule.
use mathlib.Core.Path.{◌≡◌, refl, sym, ◌∙◌, ap, ap₂, fun_ext}
use mathlib.Core.Bool.{Bool, true, false, ◌&&◌, cond, and-true, and-false}
use mathlib.Core.List.{List, [], ◌∷◌, map}
use Prim.Native.Nat.{ℕ, zero, suc, ◌≤◌, ◌<◌}
use native.Mathlib.Omega.{arith}
use lib.Dec.{leb, ltb, eqb}
use borrow.Author.Tests.{eqb-true, leb-false, ltb-false, le-leb, lt-leb}
use Rattle.answer.specs.Asked.{passed, ◌>>=◌}
use Rattle.logic.specs.Syntax.{Sort, node, arrow, rule, Expr, all, none, at_least, at_most}
use Rattle.logic.specs.Graph.{Graph, Nodes, is_node, count_below}
use Rattle.logic.specs.Meaning.{value}
use Rattle.logic.specs.Limits.{max_nodes, former_ranges, Within}
use Rattle.logic.specs.Arity.{at_least·, at_most·, build2}
use Rattle.logic.proofs.ArityLaws.{value-1, value-2}
use Rattle.logic.proofs.Dual.{at_least_none}
use Rattle.text.specs.Code.{book_code}
use Rattle.text.specs.Reading.{former_limits_def}
use Rattle.text.specs.Questions.{ask_book}
use Rattle.rewrite_counts.specs.Rewritten.{least_rewritten, most_rewritten, rewritten, rewritten_book, ask_rewritten}
use Rattle.rewrite_counts.specs.OnSheet.{OnSheet}
use Rattle.rewrite_counts.proofs.ByRewriting.{by_rewriting}
use Rattle.rewrite_counts.proofs.Wider.{former-below, book-wider}
use Rattle.rewrite_counts.proofs.RewrittenPasses.{rewritten-passes}

-- no more are counted than there are
count_most : (n : ℕ) (v : Nodes) → count_below n v ≤ n
unfolding count_below
count_most zero v = omega arith
count_most (suc n) v = go (v n) (count_most n v) where
  go : (b : Bool) → count_below n v ≤ n → cond b (suc (count_below n v)) (count_below n v) ≤ suc n
  go true h = omega arith
  go false h = omega arith

module _ (g : Graph) (few : g.n ≤ max_nodes) where
  -- a count that says nothing has the value of what replaces it
  least-value : (m : ℕ) (R : Expr arrow) (E : Expr node) → value g (least_rewritten m R E) ≡ value g (at_least m R E)
  unfolding least_rewritten value
  least-value m R E = go (eqb m 0) (leb m 60) (eqb-true m 0) (leb-false m 60) where
    go : (z l : Bool) → (z ≡ true → m ≡ 0) → (l ≡ false → 60 < m) → value g (cond z all (cond l (at_least m R E) none)) ≡ value g (at_least m R E)
    go true l f h = sym (ap (λ k. value g (at_least k R E)) (f refl) ∙ at_least_none g R E)
    go false true f h = refl
    go false false f h = fun_ext (λ i. sym (ap (is_node g i &&◌) (lt-leb m _ (omega (arith, h refl, count_most g.n (λ j. value g R i j && value g E j)))) ∙ and-false (is_node g i)))

  most-value : (m : ℕ) (R : Expr arrow) (E : Expr node) → value g (most_rewritten m R E) ≡ value g (at_most m R E)
  unfolding most_rewritten value
  most-value m R E = go (ltb m 60) (ltb-false m 60) where
    go : (l : Bool) → (l ≡ false → 60 ≤ m) → value g (cond l (at_most m R E) all) ≡ value g (at_most m R E)
    go true h = refl
    go false h = fun_ext (λ i. sym (ap (is_node g i &&◌) (le-leb _ m (omega (arith, h refl, count_most g.n (λ j. value g R i j && value g E j)))) ∙ and-true (is_node g i)))

  pub same-value : {s : Sort} (e : Expr s) → value g (rewritten e) ≡ value g e
  unfolding build2
  same-value = by_rewriting (λ s e e'. value g e' ≡ value g e) (λ s b. refl)
      (λ u t b x x' p. value-1 g g.labelled g.joined b x' x p)
      (λ u v t b _ _ x x' y y' p q. value-2 g g.labelled g.joined b x' x y' y p q)
      (λ m R R' E E' p q. least-value m R' E' ∙ value-2 g g.labelled g.joined (at_least· m) R' R E' E p q)
      (λ m R R' E E' p q. most-value m R' E' ∙ value-2 g g.labelled g.joined (at_most· m) R' R E' E p q)

  pub same_truth : (rules : List (Expr rule)) → map (value g) (rewritten_book rules) ≡ map (value g) rules
  same_truth [] = refl
  same_truth (K ∷ Ks) = ap₂ ◌∷◌ (same-value K) (same_truth Ks)

pub on_every_sheet : (g : Graph) → Within g → (t : List ℕ) (rules : List (Expr rule)) → ask_book (former_limits_def g.n) t ≡ passed rules → OnSheet g t rules
unfolding ask_rewritten ◌>>=◌
on_every_sheet g w t rules h = record {
  bytes = book_code (rewritten_book rules);
  rewrites = rw (book-wider (former_ranges g.n) (former_ranges max_nodes) (former-below g.n w.few_nodes) t rules h);
  passes = rewritten-passes g.n t rules h;
  same = same_truth g w.few_nodes rules;
}
