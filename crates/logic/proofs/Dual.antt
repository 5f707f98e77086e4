-- The laws of the quantifiers and the counts, which no other meaning of 09, 0A and 0B satisfies: 08 determines 09, 0A determines 0B, and 0A is
-- determined by its value at 0 and the step from m to m + 1 (`at_least_only`).
use mathlib.Core.Path.{◌≡◌, refl, sym, ◌∙◌, ap, fun_ext}
use mathlib.Core.Bool.{Bool, true, false, not, ◌&&◌, and-true, and-false}
use Prim.Native.Nat.{ℕ, zero, suc, ◌<◌}
use native.Mathlib.Omega.{arith}
use lib.Dec.{leb, eqb, leb-zero, leb-suc-suc}
use borrow.Author.Tests.{le-leb, lt-leb, leb-true, leb-false, eq-eqb}
use Rattle.logic.specs.Syntax.{node, arrow, Expr, all, complement, some, every, at_least, at_most, minus, pair}
use Rattle.logic.specs.Graph.{Graph, Nodes, is_node, any_below, count_below, implies}
use Rattle.logic.specs.Meaning.{value}
use Rattle.logic.specs.Limits.{Within}
use Rattle.logic.proofs.Bools.{and-only}
use Rattle.logic.proofs.Below.{any-cong, all-not-any, any-and, count-cong, one-or-more, leave, count-leave}
use Rattle.logic.proofs.Inside.{value_in}

-- Within the limits 09 R E is 05 08 R 05 E: it contains nodes without an arrow of R, and no arrow goes to a closed node.
pub every_is_no_other : (g : Graph) → Within g → (R : Expr arrow) (E : Expr node) → value g (every R E) ≡ value g (complement (some R (complement E)))
unfolding value
every_is_no_other g w R E =
    fun_ext
    (λ i. ap (is_node g i &&◌) (all-not-any g.n _ _ (λ j l. ends-in (value g R i j) (value g E j) (is_node g j) ((value_in g w R).ends i j)))) where
      ends-in : (r e b : Bool) → (b ≡ false → r ≡ false) → implies r e ≡ not (r && (b && not e))
      ends-in true true true h = refl
      ends-in true false true h = refl
      ends-in false e true h = refl
      ends-in r e false h = rw (h refl)

-- 0B m R E is 05 0A m + 1 R E.
pub at_most_is_not_at_least : (g : Graph) (m : ℕ) (R : Expr arrow) (E : Expr node) → value g (at_most m R E) ≡ value g (complement (at_least (suc m) R E))
unfolding value
at_most_is_not_at_least g m R E = fun_ext (λ i. go (is_node g i) (count_below g.n (λ j. value g R i j && value g E j))) where
  more : (c : ℕ) (b : Bool) → leb c m ≡ b → b ≡ not (leb (suc m) c)
  more c true e = ap not (sym (lt-leb (suc m) c (omega (arith, leb-true c m e))))
  more c false e = ap not (sym (le-leb (suc m) c (omega (arith, leb-false c m e))))

  go : (b : Bool) (c : ℕ) → (b && leb c m) ≡ (b && not (b && leb (suc m) c))
  go true c = more c (leb c m) refl
  go false c = refl

-- Within the limits 0A 1 R E is 08 R E.
pub at_least_one_is_some : (g : Graph) → Within g → (R : Expr arrow) (E : Expr node) → value g (at_least 1 R E) ≡ value g (some R E)
unfolding value
at_least_one_is_some g w R E = fun_ext (λ i. ap (is_node g i &&◌) (one-or-more g.n _) ∙ and-only (is_node g i) (value g (some R E) i) (value_in g w (some R E) i))

-- 0A 0 R E is 01,
pub at_least_none : (g : Graph) (R : Expr arrow) (E : Expr node) → value g (at_least 0 R E) ≡ value g all
at_least_none g R E = unfold value in fun_ext (λ i. ap (is_node g i &&◌) (leb-zero (count_below g.n (λ j. value g R i j && value g E j))) ∙ and-true (is_node g i))

-- and within the limits 0A m + 1 R E contains node i exactly when R has an arrow from i to some node of E, and 0A m contains i without that arrow.
pub at_least_one_more : (g : Graph) → Within g → (m : ℕ) (R : Expr arrow) (E : Expr node) (i : ℕ)
    → value g (at_least (suc m) R E) i ≡ any_below g.n (λ j. (value g R i j && value g E j) && value g (at_least m (minus R (pair i j)) E) i)
unfolding value
at_least_one_more g w m R E i = sym (any-cong g.n _ (λ j. v j && enough) (λ j l. each j l (v j) refl) ∙ any-and g.n v enough ∙ some_is (is_node g i)) where
  v : Nodes
  v j = value g R i j && value g E j

  enough : Bool
  enough = is_node g i && leb (suc m) (count_below g.n v)

  -- without the arrow to j, only j is no longer counted
  left_out : (j k : ℕ) → is_node g i ≡ true → ((value g R i k && not ((is_node g i && eqb i i) && (is_node g k && eqb k j))) && value g E k) ≡ leave v j k
  left_out j k n = rw (n, eq-eqb i i refl) (go (value g R i k) (value g E k) (is_node g k) (eqb k j) ((value_in g w R).ends i k)) where
    go : (r e b c : Bool) → (b ≡ false → r ≡ false) → ((r && not (b && c)) && e) ≡ ((r && e) && not c)
    go true true true c h = and-true (not c)
    go true false true c h = and-false (not c)
    go false e true c h = refl
    go r e false c h = rw (h refl)

  each : (j : ℕ) → j < g.n → (b : Bool) → v j ≡ b → (b && value g (at_least m (minus R (pair i j)) E) i) ≡ (b && enough)
  each j l false e = refl
  each j l true e = go (is_node g i) refl where
    go : (b : Bool) → is_node g i ≡ b → value g (at_least m (minus R (pair i j)) E) i ≡ enough
    go false n = rw n
    go true n = ap (is_node g i &&◌) (ap (leb m) (count-cong g.n (λ k. value g (minus R (pair i j)) i k && value g E k) (leave v j) (λ k s. left_out j k n)) ∙ sym (leb-suc-suc m (count_below g.n (leave v j))) ∙ ap (leb (suc m)) (sym (count-leave g.n j v l e)))

  some_is : (b : Bool) → (any_below g.n v && (b && leb (suc m) (count_below g.n v))) ≡ (b && leb (suc m) (count_below g.n v))
  some_is b = ap (◌&& (b && leb (suc m) c)) (sym (one-or-more g.n v)) ∙ go (leb (suc m) c) refl where
    c : ℕ
    c = count_below g.n v

    go : (d : Bool) → leb (suc m) c ≡ d → (leb 1 c && (b && d)) ≡ (b && d)
    go true e = ap (◌&& (b && true)) (le-leb 1 c (omega (arith, leb-true (suc m) c e)))
    go false e = rw (and-false b, and-false (leb 1 c))

-- Nothing else satisfies both: what is 01 at 0 and has this step is 0A.
pub at_least_only : (g : Graph) → Within g → (A : ℕ → Expr arrow → Expr node → Nodes) → ((R : Expr arrow) (E : Expr node) → A 0 R E ≡ value g all)
    → ((m : ℕ) (R : Expr arrow) (E : Expr node) (i : ℕ) → A (suc m) R E i ≡ any_below g.n (λ j. (value g R i j && value g E j) && A m (minus R (pair i j)) E i))
    → (m : ℕ) (R : Expr arrow) (E : Expr node) → A m R E ≡ value g (at_least m R E)
at_least_only g w A none more zero R E = none R E ∙ sym (at_least_none g R E)
at_least_only g w A none more (suc m) R E =
    fun_ext (λ i. more m R E i
    ∙ ap (any_below g.n) (fun_ext (λ j. ap (λ (v : Nodes). (value g R i j && value g E j) && v i) (at_least_only g w A none more m (minus R (pair i j)) E)))
    ∙ sym (at_least_one_more g w m R E i))
