-- The sentences of item 6 about closed nodes, and the laws of closing and opening.
use mathlib.Core.Path.{◌≡◌, refl, sym, ◌∙◌, ap, subst}
use mathlib.Core.Bool.{Bool, true, false, not, ◌&&◌, ◌||◌, cond, and-eq-true_iff, and-false}
use Prim.Native.Nat.{ℕ, ◌<◌}
use native.Mathlib.Omega.{arith}
use native.Mathlib.Decide.{dec_lt}
use lib.Dec.{eqb, ltb}
use borrow.Author.Tests.{eqb-true, eqb-false, not-true, not-false}
use Rattle.logic.specs.Syntax.{node, arrow, Expr, nominal, pair, node_in, pair_in, Edit}
use Rattle.logic.specs.Graph.{Graph, is_node, any_below}
use Rattle.logic.specs.Meaning.{value}
use Rattle.logic.specs.Steps.{update, run}
use Rattle.logic.specs.Limits.{Within, NodesIn, label_count, arrow_count}
use Rattle.logic.specs.Closing.{with_use, close_node_def, open_node_def, has_label_def, has_arrow_def, is_only, can_close_def}
use Rattle.logic.proofs.Bools.{or_left_false, or_right_false}
use Rattle.logic.proofs.Tables.{update_all, update_same, update_other, update-back}
use Rattle.logic.proofs.Below.{any_found, any-not, any-one}
use Rattle.logic.proofs.Inside.{value_in, no_node, run-nodes}

-- "Every node expression has only nodes in use as its value, 01 and 05 included": `value_in` of proofs/Inside, for node expressions.
pub only_in_use : (g : Graph) → Within g → (E : Expr node) → NodesIn g (value g E)
only_in_use g w E = value_in g w E

-- `is_node` is false for a node that is not in use.
pub closed_none : (g : Graph) (i : ℕ) → g.in_use i ≡ false → is_node g i ≡ false
closed_none g i h = unfold is_node in ap (ltb i g.n &&◌) h ∙ and-false (ltb i g.n)

-- "04 and 17 on a closed node are empty", on every graph.
module _ (g : Graph) where
  at-closed : (i j : ℕ) → is_node g j ≡ false → (is_node g i && eqb i j) ≡ false
  at-closed i j h = go (eqb i j) refl where
    go : (b : Bool) → eqb i j ≡ b → (is_node g i && b) ≡ false
    go true e = ap (λ x. is_node g x && true) (eqb-true i j e) ∙ ap (◌&& true) h
    go false e = and-false (is_node g i)

  pub nominal_empty : (j : ℕ) → is_node g j ≡ false → (i : ℕ) → value g (nominal j) i ≡ false
  nominal_empty j h i = unfold value in at-closed i j h

  pub pair-empty-from : (k l : ℕ) → is_node g k ≡ false → (i j : ℕ) → value g (pair k l) i j ≡ false
  pair-empty-from k l h i j = unfold value in ap (◌&& (is_node g j && eqb j l)) (at-closed i k h)

  pub pair-empty-to : (k l : ℕ) → is_node g l ≡ false → (i j : ℕ) → value g (pair k l) i j ≡ false
  pair-empty-to k l h i j = unfold value in ap ((is_node g i && eqb i k) &&◌) (at-closed j l h) ∙ and-false (is_node g i && eqb i k)

-- "23 and 24 are false there"
module _ (g : Graph) (w : Within g) where
  pub node_in_false : (i : ℕ) (E : Expr node) → is_node g i ≡ false → value g (node_in i E) ≡ false
  node_in_false i E h = unfold value in value_in g w E i h

  pub pair-in-false-from : (i j : ℕ) (R : Expr arrow) → is_node g i ≡ false → value g (pair_in i j R) ≡ false
  pair-in-false-from i j R h = unfold value in (value_in g w R).starts i j h

  pub pair-in-false-to : (i j : ℕ) (R : Expr arrow) → is_node g j ≡ false → value g (pair_in i j R) ≡ false
  pair-in-false-to i j R h = unfold value in (value_in g w R).ends i j h

-- "no step of an edit changes them"
pub run-in_use : (Z : Edit) (g : Graph) → (run Z g).in_use ≡ g.in_use
run-in_use = run-nodes (λ n u. u)

-- Closing and then opening a node gives the graph back, and so does opening and then closing.
pub close_open : (g : Graph) (i : ℕ) → g.in_use i ≡ true → open_node_def (close_node_def g i) i ≡ g
close_open g i h = unfold close_node_def open_node_def in ap (with_use g) (update-back g.in_use i false true h)

pub open-close : (g : Graph) (i : ℕ) → g.in_use i ≡ false → close_node_def (open_node_def g i) i ≡ g
open-close g i h = unfold close_node_def open_node_def in ap (with_use g) (update-back g.in_use i true false h)

module _ (g : Graph) (w : Within g) (i : ℕ) where
  -- A node without a label has no label of any number, and one without an arrow no arrow of any kind.
  no_label : has_label_def g i ≡ false → (k : ℕ) → g.labelled k i ≡ false
  unfolding has_label_def
  no_label h k = go (dec_lt k label_count) where
    go : Dec (k < label_count) → g.labelled k i ≡ false
    go (yes l) = any-not label_count (λ k. g.labelled k i) h k l
    go (no l) = w.no_more_labels k i (omega arith)

  no_arrow : has_arrow_def g i ≡ false → (a j : ℕ) → (g.joined a i j ≡ false) × (g.joined a j i ≡ false)
  unfolding has_arrow_def
  no_arrow h a j = go (dec_lt a arrow_count) (dec_lt j g.n) where
    go : Dec (a < arrow_count) → Dec (j < g.n) → (g.joined a i j ≡ false) × (g.joined a j i ≡ false)
    go (yes l) (yes u) =
        let one : (g.joined a i j || g.joined a j i) ≡ false = any-not g.n (λ j. g.joined a i j || g.joined a j i) (any-not arrow_count (λ a. any_below g.n (λ j. g.joined a i j || g.joined a j i)) h a l) j u in
        (or_left_false (g.joined a i j) (g.joined a j i) one, or_right_false (g.joined a i j) (g.joined a j i) one)
    go (yes l) (no u) = let b : is_node g j ≡ false = no_node g j (omega arith) in ((w.arrows_in a).ends i j b, (w.arrows_in a).starts j i b)
    go (no l) d = (w.no_more_arrows a i j (omega arith), w.no_more_arrows a j i (omega arith))

  -- What is not a node in use after closing i is i itself, or was not one before.
  closed-or : {A : Type 0} (x : ℕ) → is_node (close_node_def g i) x ≡ false → (x ≡ i → A) → (is_node g x ≡ false → A) → A
  unfolding close_node_def is_node update
  closed-or {A} x h f k = go (eqb x i) refl h where
    go : (b : Bool) → eqb x i ≡ b → (ltb x g.n && cond b false (g.in_use x)) ≡ false → A
    go true e h = f (eqb-true x i e)
    go false e h = k h

  -- Closing a node that may be closed leaves a graph within the limits.
  pub close-within : can_close_def g i ≡ true → Within (close_node_def g i)
  unfolding can_close_def close_node_def is_only
  close-within c =
      let none : (has_label_def g i || has_arrow_def g i || is_only g i) ≡ false = not-true _ c in
      let neither : (has_label_def g i || has_arrow_def g i) ≡ false = or_left_false (has_label_def g i || has_arrow_def g i) (is_only g i) none in
      let bare = no_label (or_left_false (has_label_def g i) (has_arrow_def g i) neither) in
      let free = no_arrow (or_right_false (has_label_def g i) (has_arrow_def g i) neither) in
      let (j, l, e) = any_found g.n (λ j. g.in_use j && not (eqb j i)) (not-false _ (or_right_false (has_label_def g i || has_arrow_def g i) (is_only g i) none)) in
      let (used, other) = (and-eq-true_iff (g.in_use j) (not (eqb j i))).0 e in
      record {
        some_node = any-one g.n (update g.in_use i false) j l (update_other g.in_use i false j (eqb-false j i (not-true _ other)) ∙ used);
        few_nodes = w.few_nodes;
        use_below = λ x l. update_all (λ v. v ≡ false) g.in_use i false x (w.use_below x l) refl;
        labels_in = λ k x h. closed-or x h (λ e. subst (λ y. g.labelled k y ≡ false) (sym e) (bare k)) (w.labels_in k x);
        arrows_in = λ a. record {
          starts = λ x y h. closed-or x h (λ e. subst (λ z. g.joined a z y ≡ false) (sym e) (free a y).0) ((w.arrows_in a).starts x y);
          ends = λ x y h. closed-or y h (λ e. subst (λ z. g.joined a x z ≡ false) (sym e) (free a x).1) ((w.arrows_in a).ends x y);
        };
        no_more_labels = w.no_more_labels;
        no_more_arrows = w.no_more_arrows;
      }

  -- So does opening a node below n.
  pub open-within : i < g.n → Within (open_node_def g i)
  unfolding open_node_def is_node update
  open-within l =
      record {
        some_node = any-one g.n (update g.in_use i true) i l (update_same g.in_use i true);
        few_nodes = w.few_nodes;
        use_below = λ x u. update_other g.in_use i true x (λ e. absurd (omega arith)) ∙ w.use_below x u;
        labels_in = λ k x h. w.labels_in k x (was x h);
        arrows_in = λ a. record { starts = λ x y h. (w.arrows_in a).starts x y (was x h); ends = λ x y h. (w.arrows_in a).ends x y (was y h) };
        no_more_labels = w.no_more_labels;
        no_more_arrows = w.no_more_arrows;
      } where
        was : (x : ℕ) → (ltb x g.n && update g.in_use i true x) ≡ false → (ltb x g.n && g.in_use x) ≡ false
        was x h = go (ltb x g.n) (eqb x i) h where
          go : (a b : Bool) → (a && cond b true (g.in_use x)) ≡ false → (a && g.in_use x) ≡ false
          go true true h = let z : ◌≡◌ {A = ℕ} 0 1 = cc in absurd (omega arith)
          go true false h = h
          go false b h = refl
