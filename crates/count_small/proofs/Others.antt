-- An edit that names only label 0 and arrow 0 changes no other, so it leaves a small sheet; and any small sheet becomes any other by changing only its
-- label 0 and its arrow 0.
use mathlib.Core.Path.{◌≡◌, refl, ap, ◌∙◌}
use mathlib.Core.Logic.{◌≢◌}
use mathlib.Core.Bool.{Bool, true, false, ◌&&◌, cond, and-eq-true_iff}
use Prim.Native.Nat.{ℕ}
use lib.Dec.{eqb}
use borrow.Author.Tests.{eqb-true, eqb-false, ne_eqb}
use Rattle.logic.specs.Syntax.{Sort, Expr, Edit, finish, add_label, take_label, add_arrow, take_arrow, choose}
use Rattle.logic.specs.Graph.{Graph, Nodes, Pairs}
use Rattle.logic.specs.Meaning.{value}
use Rattle.logic.specs.Steps.{update, relabel, rejoin, run}
use Rattle.logic.specs.Limits.{Ranges, EditInRange}
use Rattle.logic.proofs.Tables.{cond_both}
use Rattle.logic.proofs.Inside.{run-n, run_within}
use Rattle.logic.proofs.Closing.{run-in_use}
use Rattle.tree.specs.Tree.{tree}
use Rattle.count_small.specs.Small.{Small, small_sheet}
use Rattle.count_small.specs.Names.{only_first, edit_only_first}

-- No label and no arrow except 0 differs.
pub record SameOthers (g h : Graph) : Type 0 where
  pub labels : (k i : ℕ) → k ≢ 0 → h.labelled k i ≡ g.labelled k i
  pub arrows : (a i j : ℕ) → a ≢ 0 → h.joined a i j ≡ g.joined a i j

same_then : (f g h : Graph) → SameOthers f g → SameOthers g h → SameOthers f h
same_then f g h p q = record { labels = λ k i e. q.labels k i e ∙ p.labels k i e; arrows = λ a i j e. q.arrows a i j e ∙ p.arrows a i j e }

-- elsewhere a table is as it was
elsewhere : {A : Type 0} (f : ℕ → A) (k : ℕ) (v : A) (x : ℕ) → eqb k 0 ≡ true → x ≢ 0 → update f k v x ≡ f x
elsewhere f k v x e n = unfold update in ap (λ (b : Bool). cond b v (f x)) (ne_eqb x k (λ (p : x ≡ k). n (p ∙ eqb-true k 0 e)))

relabelled : (g : Graph) (k : ℕ) (v : Nodes) → eqb k 0 ≡ true → SameOthers g (relabel g k v)
relabelled g k v e = record { labels = λ x i n. ap (λ (u : Nodes). u i) (elsewhere g.labelled k v x e n); arrows = λ a i j n. refl }

rejoined : (g : Graph) (a : ℕ) (v : Pairs) → eqb a 0 ≡ true → SameOthers g (rejoin g a v)
rejoined g a v e = record { labels = λ k i n. refl; arrows = λ x i j n. ap (λ (u : Pairs). u i j) (elsewhere g.joined a v x e n) }

step-first : (k : ℕ) {s : Sort} (e : Expr s) (Z : Edit) → (eqb k 0 && (only_first (tree e) && edit_only_first Z)) ≡ true → (eqb k 0 ≡ true) × (edit_only_first Z ≡ true)
step-first k e Z o = let (h, q) = (and-eq-true_iff (eqb k 0) (only_first (tree e) && edit_only_first Z)).0 o in (h, ((and-eq-true_iff (only_first (tree e)) (edit_only_first Z)).0 q).1)

pub run-others : (Z : Edit) → edit_only_first Z ≡ true → (g : Graph) → SameOthers g (run Z g)
unfolding run edit_only_first
run-others finish o g = record { labels = λ k i n. refl; arrows = λ a i j n. refl }
run-others (add_label k E Z) o g = let (h, q) = step-first k E Z o in same_then g _ _ (relabelled g k _ h) (run-others Z q _)
run-others (take_label k E Z) o g = let (h, q) = step-first k E Z o in same_then g _ _ (relabelled g k _ h) (run-others Z q _)
run-others (add_arrow a R Z) o g = let (h, q) = step-first a R Z o in same_then g _ _ (rejoined g a _ h) (run-others Z q _)
run-others (take_arrow a R Z) o g = let (h, q) = step-first a R Z o in same_then g _ _ (rejoined g a _ h) (run-others Z q _)
run-others (choose K P Q Z) o g =
    let (k, x) = (and-eq-true_iff (only_first (tree K)) (edit_only_first P && (edit_only_first Q && edit_only_first Z))).0 o in
    let (p, y) = (and-eq-true_iff (edit_only_first P) (edit_only_first Q && edit_only_first Z)).0 x in
    let (q, z) = (and-eq-true_iff (edit_only_first Q) (edit_only_first Z)).0 y in
    same_then g (cond (value g K) (run P g) (run Q g)) _
    (cond_both (SameOthers g) (value g K) (run P g) (run Q g) (run-others P p g) (run-others Q q g))
    (run-others Z z _)

-- Such an edit leaves a small sheet.
pub small-after : (r : Ranges) (n : ℕ) (Z : Edit) (g : Graph) → EditInRange r Z → edit_only_first Z ≡ true → Small n g → Small n (run Z g)
small-after r n Z g f o s =
    let q = run-others Z o g in
    record {
      within = run_within r Z f g s.within;
      count = run-n Z g ∙ s.count;
      all_in_use = λ i. ap (λ (u : Nodes). u i) (run-in_use Z g) ∙ s.all_in_use i;
      one_label = λ k i e. q.labels k i e ∙ s.one_label k i e;
      one_arrow = λ a i j e. q.arrows a i j e ∙ s.one_arrow a i j e;
    }

-- With its label 0 and arrow 0 put, a small sheet is the one of that number.
abbrev pub relabelled_as : ℕ → ℕ → Graph → Graph
relabelled_as n x g = relabel g 0 ((small_sheet n x).labelled 0)

pub put_small : (n x : ℕ) (g : Graph) → Small n g → rejoin (relabelled_as n x g) 0 ((small_sheet n x).joined 0) ≡ small_sheet n x
unfolding small_sheet update
put_small n x g s =
    λ t. record {
      n = s.count t;
      in_use = λ i. s.all_in_use i t;
      labelled = λ k i. labels k i (eqb k 0) refl t;
      joined = λ a i j. arrows a i j (eqb a 0) refl t;
    } where
      labels : (k i : ℕ) (b : Bool) → eqb k 0 ≡ b → cond b ((small_sheet n x).labelled 0) (g.labelled k) i ≡ (b && (small_sheet n x).labelled 0 i)
      labels k i true e = refl
      labels k i false e = s.one_label k i (eqb-false k 0 e)

      arrows : (a i j : ℕ) (b : Bool) → eqb a 0 ≡ b → cond b ((small_sheet n x).joined 0) (g.joined a) i j ≡ (b && (small_sheet n x).joined 0 i j)
      arrows a i j true e = refl
      arrows a i j false e = s.one_arrow a i j (eqb-false a 0 e)
