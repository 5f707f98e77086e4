-- On a graph within the limits no value goes outside the graph's nodes, taking away is the set difference of Definition 3.2,
-- and an edit leaves a graph within the limits.
use mathlib.Core.Path.{◌≡◌, refl, ◌∙◌, ap, fun_ext}
use mathlib.Core.Bool.{Bool, true, false, not, ◌&&◌, ◌||◌, and-false}
use Prim.Native.Nat.{ℕ, ◌≤◌}
use native.Mathlib.Omega.{arith}
use lib.Dec.{T, ltb, ltb→lt}
use borrow.Author.Tests.{le-ltb}
use Rattle.logic.specs.Syntax.{Sort, node, arrow, rule, Expr, all, none, label, nominal, complement, and, or, some, every, at_least, at_most, arrow_kind, reversed, union, common, minus, ending_in, pair, sub_nodes, sub_arrows, node_in, pair_in, both, either, not_rule, Edit, finish, add_label, take_label, add_arrow, take_arrow, choose}
use Rattle.logic.specs.Graph.{Graph, Nodes, Pairs, is_node}
use Rattle.logic.specs.Meaning.{Value, value}
use Rattle.logic.specs.Steps.{update, relabel, rejoin, run}
use Rattle.logic.specs.Limits.{NodesIn, PairsIn, Within, Ranges, EditInRange, label_count, arrow_count}
use Rattle.logic.proofs.Tables.{cond_both, update_all, update_other}
use Rattle.logic.proofs.Below.{any_none, any_found}

-- a value, of any sort, that contains only nodes in use
abbrev pub Inside : (s : Sort) (g : Graph) → Value s → Type 0
Inside node g v = NodesIn g v
Inside arrow g v = PairsIn g v
Inside rule g v = Unit {0}

-- numbers from n on are not nodes
pub no_node : (g : Graph) (i : ℕ) → g.n ≤ i → is_node g i ≡ false
no_node g i h = unfold is_node in ap (◌&& g.in_use i) (le-ltb i g.n h)

-- A graph within the limits has a node.
pub some-n : (g : Graph) → Within g → 1 ≤ g.n
some-n g w = let (i, l, e) = any_found g.n g.in_use w.some_node in omega arith

module _ (g : Graph) (w : Within g) where
  pub value_in : {s : Sort} (e : Expr s) → Inside s g (value g e)
  unfolding value
  value_in all = λ i h. h
  value_in none = λ i h. refl
  value_in (label k) = w.labels_in k
  value_in (nominal j) = λ i h. rw h
  value_in (complement E) = λ i h. rw h
  value_in (and E F) = λ i h. ap (◌&& value g F i) (value_in E i h)
  value_in (or E F) = λ i h. ap (◌|| value g F i) (value_in E i h) ∙ value_in F i h
  value_in (some R E) = λ i h. any_none g.n (λ j. value g R i j && value g E j) (λ j l. ap (◌&& value g E j) ((value_in R).starts i j h))
  value_in (every R E) = λ i h. rw h
  value_in (at_least m R E) = λ i h. rw h
  value_in (at_most m R E) = λ i h. rw h
  value_in (arrow_kind a) = w.arrows_in a
  value_in (reversed R) = record { starts = λ i j h. (value_in R).ends j i h; ends = λ i j h. (value_in R).starts j i h }
  value_in (union R S) =
      record {
        starts = λ i j h. ap (◌|| value g S i j) ((value_in R).starts i j h) ∙ (value_in S).starts i j h;
        ends = λ i j h. ap (◌|| value g S i j) ((value_in R).ends i j h) ∙ (value_in S).ends i j h;
      }
  value_in (common R S) = record { starts = λ i j h. ap (◌&& value g S i j) ((value_in R).starts i j h); ends = λ i j h. ap (◌&& value g S i j) ((value_in R).ends i j h) }
  value_in (minus R S) = record { starts = λ i j h. ap (◌&& not (value g S i j)) ((value_in R).starts i j h); ends = λ i j h. ap (◌&& not (value g S i j)) ((value_in R).ends i j h) }
  value_in (ending_in R E) = record { starts = λ i j h. ap (◌&& value g E j) ((value_in R).starts i j h); ends = λ i j h. ap (◌&& value g E j) ((value_in R).ends i j h) }
  value_in (pair k l) = record { starts = λ i j h. rw h; ends = λ i j h. rw (h, and-false) }
  value_in (sub_nodes E F) = tt
  value_in (sub_arrows R S) = tt
  value_in (node_in i E) = tt
  value_in (pair_in i j R) = tt
  value_in (both K L) = tt
  value_in (either K L) = tt
  value_in (not_rule K) = tt

  -- What 32 and 34 take away is the set difference.
  pub taken_label : (k : ℕ) (E : Expr node) (Z : Edit) → run (take_label k E Z) g ≡ run Z (relabel g k (λ i. g.labelled k i && not (value g E i)))
  unfolding run
  taken_label k E Z = ap (λ v. run Z (relabel g k v)) (fun_ext (λ i. go i (is_node g i) (g.labelled k i) (w.labels_in k i))) where
    go : (i : ℕ) (b l : Bool) → (b ≡ false → l ≡ false) → (l && (b && not (value g E i))) ≡ (l && not (value g E i))
    go i true l h = refl
    go i false l h = rw (h refl)

pub taken_arrow : (g : Graph) (a : ℕ) (R : Expr arrow) (Z : Edit) → run (take_arrow a R Z) g ≡ run Z (rejoin g a (λ i j. g.joined a i j && not (value g R i j)))
taken_arrow g a R Z = unfold run in refl

module _ (g : Graph) (w : Within g) where
  -- other labels and arrows
  tables-within : (l : ℕ → Nodes) (j : ℕ → Pairs) → ((k : ℕ) → NodesIn g (l k)) → ((a : ℕ) → PairsIn g (j a))
      → ((k i : ℕ) → label_count ≤ k → l k i ≡ false) → ((a i k : ℕ) → arrow_count ≤ a → j a i k ≡ false) → Within (record { n = g.n; in_use = g.in_use; labelled = l; joined = j })
  unfolding is_node
  tables-within l j labels arrows few-labels few-arrows =
      record {
        some_node = w.some_node;
        few_nodes = w.few_nodes;
        use_below = w.use_below;
        labels_in = labels;
        arrows_in = λ a. record { starts = (arrows a).starts; ends = (arrows a).ends };
        no_more_labels = few-labels;
        no_more_arrows = few-arrows;
      }

  pub relabel-within : (k : ℕ) (v : Nodes) → T (ltb k label_count) → NodesIn g v → Within (relabel g k v)
  relabel-within k v b h =
      tables-within (update g.labelled k v) g.joined (λ x. update_all (NodesIn g) g.labelled k v x (w.labels_in x) h) w.arrows_in
      (λ x i l. ap (λ u. u i) (update_other g.labelled k v x (λ e. absurd (omega (arith, ltb→lt k label_count b)))) ∙ w.no_more_labels x i l) w.no_more_arrows

  pub rejoin-within : (a : ℕ) (v : Pairs) → T (ltb a arrow_count) → PairsIn g v → Within (rejoin g a v)
  rejoin-within a v b h =
      tables-within g.labelled (update g.joined a v) w.labels_in (λ x. update_all (PairsIn g) g.joined a v x (w.arrows_in x) h) w.no_more_labels
      (λ x i j l. ap (λ u. u i j) (update_other g.joined a v x (λ e. absurd (omega (arith, ltb→lt a arrow_count b)))) ∙ w.no_more_arrows x i j l)

-- An edit does not change which nodes there are or are in use,
pub run-nodes : {A : Type 0} (f : ℕ → Nodes → A) (Z : Edit) (g : Graph) → f (run Z g).n (run Z g).in_use ≡ f g.n g.in_use
unfolding run
run-nodes f finish g = refl
run-nodes f (add_label k E Z) g = run-nodes f Z _
run-nodes f (take_label k E Z) g = run-nodes f Z _
run-nodes f (add_arrow a R Z) g = run-nodes f Z _
run-nodes f (take_arrow a R Z) g = run-nodes f Z _
run-nodes f (choose K P Q Z) g = run-nodes f Z _ ∙ cond_both (λ h. f h.n h.in_use ≡ f g.n g.in_use) (value g K) (run P g) (run Q g) (run-nodes f P g) (run-nodes f Q g)

pub run-n : (Z : Edit) (g : Graph) → (run Z g).n ≡ g.n
run-n = run-nodes (λ n u. n)

-- and it keeps a graph within the limits.
pub run_within : (r : Ranges) (Z : Edit) → EditInRange r Z → (g : Graph) → Within g → Within (run Z g)
unfolding run EditInRange value
run_within r finish q g w = w
run_within r (add_label k E Z) q g w = run_within r Z q.2 _ (relabel-within g w k (value g (or (label k) E)) q.0 (value_in g w (or (label k) E)))
run_within r (take_label k E Z) q g w = run_within r Z q.2 _ (relabel-within g w k (value g (and (label k) (complement E))) q.0 (value_in g w (and (label k) (complement E))))
run_within r (add_arrow a R Z) q g w = run_within r Z q.2 _ (rejoin-within g w a (value g (union (arrow_kind a) R)) q.0 (value_in g w (union (arrow_kind a) R)))
run_within r (take_arrow a R Z) q g w = run_within r Z q.2 _ (rejoin-within g w a (value g (minus (arrow_kind a) R)) q.0 (value_in g w (minus (arrow_kind a) R)))
run_within r (choose K P Q Z) q g w = run_within r Z q.3 _ (cond_both Within (value g K) (run P g) (run Q g) (run_within r P q.1 g w) (run_within r Q q.2 g w))
