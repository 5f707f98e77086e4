-- The value of an expression without 04 and 17 on the joined graph is the two values side by side; and item 8's sentence about rules.
use mathlib.Core.Path.{◌≡◌, refl, sym, ◌∙◌, ap, ap₂, fun_ext, subst}
use mathlib.Core.Bool.{Bool, true, false, not, ◌&&◌, ◌||◌}
use Rattle.logic.proofs.Bools.{both_so, so-both}
use mathlib.Core.Logic.{◌↔◌}
use Prim.Native.Nat.{ℕ, ◌+◌, ◌-◌, ◌<◌}
use native.Mathlib.Omega.{arith}
use native.Mathlib.Decide.{dec_lt}
use lib.Dec.{T, leb, ltb}
use borrow.Author.Tests.{lt-ltb, le-ltb, ltb-true, ltb-false}
use Rattle.logic.specs.Syntax.{Sort, node, arrow, rule, Expr, all, none, label, nominal, complement, and, or, some, every, at_least, at_most, arrow_kind, reversed, union, common, minus, ending_in, pair, sub_nodes, sub_arrows, node_in, pair_in, both, either, not_rule}
use Rattle.logic.specs.Graph.{Graph, Nodes, Pairs, is_node, any_below, all_below, count_below, implies}
use Rattle.logic.specs.Meaning.{Value, value}
use Rattle.logic.proofs.Below.{all-cong}
use Rattle.join_sheets.specs.Joined.{side_by_side, pairs_by_side, joined_graph}
use Rattle.join_sheets.specs.Joinable.{Joinable}
use Rattle.join_sheets.proofs.BelowSum.{any-first, any-second, all-onwards, all_first, all-second, count-first, count-second}

-- w is v below n and u from n on; for pairs, w is z between the two parts.
pub record NodesSide (n : ℕ) (v u w : Nodes) : Type 0 where
  pub first : (i : ℕ) → i < n → w i ≡ v i
  pub second : (i : ℕ) → w (n + i) ≡ u i

pub record PairsSideBut (z : Bool) (n : ℕ) (v u w : Pairs) : Type 0 where
  pub first : (i j : ℕ) → i < n → j < n → w i j ≡ v i j
  pub second : (i j : ℕ) → w (n + i) (n + j) ≡ u i j
  pub across : (i j : ℕ) → i < n → w i (n + j) ≡ z
  pub back : (i j : ℕ) → j < n → w (n + i) j ≡ z

abbrev pub PairsSide : (n : ℕ) (v u w : Pairs) → Type 0
PairsSide n v u w = PairsSideBut false n v u w

abbrev pub Side : (s : Sort) → ℕ → Value s → Value s → Value s → Type 0
Side node n v u w = NodesSide n v u w
Side arrow n v u w = PairsSide n v u w
Side rule n v u w = w ≡ (v && u)

pub nodes-side : (n : ℕ) (v u : Nodes) → NodesSide n v u (side_by_side n v u)
unfolding side_by_side
nodes-side n v u =
    record {
      first = λ i l. rw (lt-ltb i n l);
      second = λ i. let e : (n + i) - n ≡ i = omega arith in rw (le-ltb (n + i) n (omega arith), e);
    }

pub pairs-side : (n : ℕ) (v u : Pairs) → PairsSide n v u (pairs_by_side n v u)
unfolding pairs_by_side
pairs-side n v u =
    record {
      first = λ i j l k. rw (lt-ltb i n l) ((nodes-side n (v i) (λ j. false)).first j k);
      second = λ i j. let e : (n + i) - n ≡ i = omega arith in rw (le-ltb (n + i) n (omega arith), e) ((nodes-side n (λ j. false) (u i)).second j);
      across = λ i j l. rw (lt-ltb i n l) ((nodes-side n (v i) (λ j. false)).second j);
      back = λ i j l. rw (le-ltb (n + i) n (omega arith)) ((nodes-side n (λ j. false) (u ((n + i) - n))).first j l);
    }

-- What holds below n and from n on holds everywhere.
pub side-cases : (n : ℕ) (P : ℕ → Type 0) → ((i : ℕ) → i < n → P i) → ((k : ℕ) → P (n + k)) → (i : ℕ) → P i
side-cases n P f s i = go (dec_lt i n) where
  go : Dec (i < n) → P i
  go (yes l) = f i l
  go (no l) = let e : n + (i - n) ≡ i = omega arith in subst P e (s (i - n))

pub pair-cases : (n : ℕ) (P : ℕ → ℕ → Type 0) → ((i j : ℕ) → i < n → j < n → P i j) → ((i j : ℕ) → P (n + i) (n + j)) → ((i j : ℕ) → i < n → P i (n + j)) → ((i j : ℕ) → j < n → P (n + i) j)
    → (i j : ℕ) → P i j
pair-cases n P first second across back =
    side-cases n (λ i. (j : ℕ) → P i j) (λ i l. side-cases n (P i) (λ j. first i j l) (λ k. across i k l)) (λ k. side-cases n (P (n + k)) (back k) (second k))

-- Sets side by side are exactly what `side_by_side` makes.
pub nodes-are : (n : ℕ) (v u w : Nodes) → NodesSide n v u w → w ≡ side_by_side n v u
nodes-are n v u w s =
    let p = nodes-side n v u in
    fun_ext (side-cases n (λ i. w i ≡ side_by_side n v u i) (λ i l. s.first i l ∙ sym (p.first i l)) (λ k. s.second k ∙ sym (p.second k)))

pub pairs-are : (n : ℕ) (v u w : Pairs) → PairsSide n v u w → w ≡ pairs_by_side n v u
pairs-are n v u w s =
    let p = pairs-side n v u in
    fun_ext (λ i. fun_ext (pair-cases n (λ i j. w i j ≡ pairs_by_side n v u i j) (λ i j l k. s.first i j l k ∙ sym (p.first i j l k)) (λ i j. s.second i j ∙ sym (p.second i j))
    (λ i j l. s.across i j l ∙ sym (p.across i j l)) (λ i j l. s.back i j l ∙ sym (p.back i j l)) i))

-- An operation on members keeps sets side by side; for pairs, its value at two non-members is that between the parts.
module _ (f : Bool → Bool → Bool) where
  nodes-both : {n : ℕ} {v u w v' u' w' : Nodes} → NodesSide n v u w → NodesSide n v' u' w' → NodesSide n (λ i. f (v i) (v' i)) (λ i. f (u i) (u' i)) (λ i. f (w i) (w' i))
  nodes-both s t = record { first = λ i l. ap₂ f (s.first i l) (t.first i l); second = λ i. ap₂ f (s.second i) (t.second i) }

  module _ {z : Bool} {n : ℕ} {v u w : Pairs} (s : PairsSide n v u w) where
    pairs-both : f false false ≡ z → {v' u' w' : Pairs} → PairsSide n v' u' w' → PairsSideBut z n (λ i j. f (v i j) (v' i j)) (λ i j. f (u i j) (u' i j)) (λ i j. f (w i j) (w' i j))
    pairs-both e t =
        record {
          first = λ i j l k. ap₂ f (s.first i j l k) (t.first i j l k);
          second = λ i j. ap₂ f (s.second i j) (t.second i j);
          across = λ i j l. ap₂ f (s.across i j l) (t.across i j l) ∙ e;
          back = λ i j l. ap₂ f (s.back i j l) (t.back i j l) ∙ e;
        }

    -- the pairs, with a set of the nodes where they end
    pairs-ends : ((b : Bool) → f false b ≡ z) → {v' u' w' : Nodes} → NodesSide n v' u' w' → PairsSideBut z n (λ i j. f (v i j) (v' j)) (λ i j. f (u i j) (u' j)) (λ i j. f (w i j) (w' j))
    pairs-ends e {w' = w'} t =
        record {
          first = λ i j l k. ap₂ f (s.first i j l k) (t.first j k);
          second = λ i j. ap₂ f (s.second i j) (t.second j);
          across = λ i j l. ap (λ b. f b (w' (n + j))) (s.across i j l) ∙ e (w' (n + j));
          back = λ i j l. ap (λ b. f b (w' j)) (s.back i j l) ∙ e (w' j);
        }

-- The rows of pairs: some, how many, all.
module _ (m : ℕ) {n : ℕ} {v u w : Pairs} where
  any-side : PairsSide n v u w → NodesSide n (λ i. any_below n (v i)) (λ i. any_below m (u i)) (λ i. any_below (n + m) (w i))
  any-side s = record { first = λ i l. any-first _ _ n m (λ j k. s.first i j l k) (λ j. s.across i j l); second = λ i. any-second _ _ n m (s.back i) (s.second i) }

  count-side : (t : ℕ → Bool) → PairsSide n v u w → NodesSide n (λ i. t (count_below n (v i))) (λ i. t (count_below m (u i))) (λ i. t (count_below (n + m) (w i)))
  count-side t s =
      record { first = λ i l. ap t (count-first _ _ n m (λ j k. s.first i j l k) (λ j. s.across i j l)); second = λ i. ap t (count-second _ _ n m (s.back i) (s.second i)) }

  all-side : PairsSideBut true n v u w → NodesSide n (λ i. all_below n (v i)) (λ i. all_below m (u i)) (λ i. all_below (n + m) (w i))
  all-side s = record { first = λ i l. all_first _ _ n m (λ j k. s.first i j l k) (λ j. s.across i j l); second = λ i. all-second _ _ n m (s.back i) (s.second i) }

all_both : (m : ℕ) {n : ℕ} {v u w : Nodes} → NodesSide n v u w → all_below (n + m) w ≡ (all_below n v && all_below m u)
all_both m {n} {v} {u} {w} s = all-onwards w u n m s.second ∙ ap (◌&& all_below m u) (all-cong n w v s.first)

module _ (g h : Graph) where
  pub node-side : NodesSide g.n (is_node g) (is_node h) (is_node (joined_graph g h))
  unfolding is_node joined_graph
  node-side =
      record {
        first = λ i l. rw (lt-ltb i (g.n + h.n) (omega arith), lt-ltb i g.n l) ((nodes-side g.n g.in_use h.in_use).first i l);
        second = λ i. ap₂ ◌&&◌ (same i (ltb i h.n) refl) ((nodes-side g.n g.in_use h.in_use).second i);
      } where
        same : (i : ℕ) (b : Bool) → ltb i h.n ≡ b → ltb (g.n + i) (g.n + h.n) ≡ b
        same i true e = lt-ltb (g.n + i) (g.n + h.n) (omega (arith, ltb-true i h.n e))
        same i false e = le-ltb (g.n + i) (g.n + h.n) (omega (arith, ltb-false i h.n e))

  exchange : (a b c d : Bool) → ((a && b) && (c && d)) ≡ ((a && c) && (b && d))
  exchange true true c d = refl
  exchange true false true d = refl
  exchange true false false d = refl
  exchange false b c d = refl

  pub value-joined : {s : Sort} (e : Expr s) → Joinable e → Side s g.n (value g e) (value h e) (value (joined_graph g h) e)
  unfolding value joined_graph Joinable
  value-joined all q = node-side
  value-joined none q = record { first = λ i l. refl; second = λ i. refl }
  value-joined (label k) q = nodes-side g.n (g.labelled k) (h.labelled k)
  value-joined (nominal i) q = absurd q
  value-joined (complement E) q = nodes-both (λ a b. a && not b) node-side (value-joined E q)
  value-joined (and E F) q = nodes-both ◌&&◌ (value-joined E q.0) (value-joined F q.1)
  value-joined (or E F) q = nodes-both ◌||◌ (value-joined E q.0) (value-joined F q.1)
  value-joined (some R E) q = any-side h.n (pairs-ends ◌&&◌ (value-joined R q.0) (λ b. refl) (value-joined E q.1))
  value-joined (every R E) q = nodes-both ◌&&◌ node-side (all-side h.n (pairs-ends implies (value-joined R q.0) (λ b. refl) (value-joined E q.1)))
  value-joined (at_least m R E) q = nodes-both ◌&&◌ node-side (count-side h.n (leb m) (pairs-ends ◌&&◌ (value-joined R q.0) (λ b. refl) (value-joined E q.1)))
  value-joined (at_most m R E) q = nodes-both ◌&&◌ node-side (count-side h.n (λ c. leb c m) (pairs-ends ◌&&◌ (value-joined R q.0) (λ b. refl) (value-joined E q.1)))
  value-joined (arrow_kind a) q = pairs-side g.n (g.joined a) (h.joined a)
  value-joined (reversed R) q = let r = value-joined R q in record { first = λ i j l k. r.first j i k l; second = λ i j. r.second j i; across = λ i j l. r.back j i l; back = λ i j l. r.across j i l }
  value-joined (union R S) q = pairs-both ◌||◌ (value-joined R q.0) refl (value-joined S q.1)
  value-joined (common R S) q = pairs-both ◌&&◌ (value-joined R q.0) refl (value-joined S q.1)
  value-joined (minus R S) q = pairs-both (λ a b. a && not b) (value-joined R q.0) refl (value-joined S q.1)
  value-joined (ending_in R E) q = pairs-ends ◌&&◌ (value-joined R q.0) (λ b. refl) (value-joined E q.1)
  value-joined (pair i j) q = absurd q
  value-joined (sub_nodes E F) q = all_both h.n (nodes-both implies (value-joined E q.0) (value-joined F q.1))
  value-joined (sub_arrows R S) q = all_both h.n (all-side h.n (pairs-both implies (value-joined R q.0) refl (value-joined S q.1)))
  value-joined (node_in i E) q = absurd q
  value-joined (pair_in i j R) q = absurd q
  value-joined (both K L) q = ap₂ ◌&&◌ (value-joined K q.0) (value-joined L q.1) ∙ exchange (value g K) (value h K) (value g L) (value h L)
  value-joined (either K L) q = absurd q
  value-joined (not_rule K) q = absurd q

  -- The value of an expression on the joined sheet is the two values side by side.
  pub nodes-joined : (E : Expr node) → Joinable E → value (joined_graph g h) E ≡ side_by_side g.n (value g E) (value h E)
  nodes-joined E q = nodes-are g.n (value g E) (value h E) (value (joined_graph g h) E) (value-joined E q)

  pub pairs-joined : (R : Expr arrow) → Joinable R → value (joined_graph g h) R ≡ pairs_by_side g.n (value g R) (value h R)
  pairs-joined R q = pairs-are g.n (value g R) (value h R) (value (joined_graph g h) R) (value-joined R q)

  -- "A rule built only from 21, 22 and 25, in which 04 and 17 do not appear, must hold on the joined sheet exactly when it holds on both."
  pub rule-joined : (K : Expr rule) → Joinable K → T (value (joined_graph g h) K) ↔ (T (value g K) × T (value h K))
  rule-joined K q = (λ t. both_so (value g K) (value h K) (subst T (value-joined K q) t), λ t. subst T (sym (value-joined K q)) (so-both (value g K) (value h K) t.0 t.1))
