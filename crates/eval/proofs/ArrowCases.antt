-- The cases of an arrow expression by its code byte, and the relation that each means.
use mathlib.Core.Path.{◌≡◌, refl, sym, ap, ap₂}
use mathlib.Core.Bool.{Bool, true, false, not, cond, ◌&&◌}
use mathlib.Core.List.{List, []}
use Prim.Native.Nat.{ℕ, ◌+◌, ◌≤◌, ◌<◌}
use native.Mathlib.Omega.{arith}
use lib.Dec.{eqb, leb, ltb→lt}
use lib.ListN.{get_or}
use Rattle.logic.specs.Syntax.{node, arrow, Expr, arrow_kind, reversed, union, common, minus, ending_in, pair}
use Rattle.logic.specs.Graph.{Graph, Nodes, Pairs, is_node}
use Rattle.logic.specs.Meaning.{value}
use Rattle.logic.specs.Limits.{ranges, InRange}
use Rattle.bitset.specs.Words.{set_of}
use Rattle.sheet.specs.Sheet.{graph_of, Rows}
use Rattle.text.specs.Code.{code}
use Rattle.text.specs.Stands.{Stands}
use Rattle.rows.specs.Operations.{arrow_operation, turn}
use Rattle.eval.specs.Evaluated.{Opened, IsRelation, IsEitherWay, IsCombined, IsCombinedWay, IsTurned}
use Rattle.eval.proofs.EvaluatorPosts.{SetAt, WayAt}
use Rattle.eval.proofs.InUse.{is_whole}
use Rattle.eval.proofs.CodePlaces.{first-number, second-number, code_byte, by_byte, below, above, Leaf, One, Two, leaf-at, one_at, two_at}

module _ (n : ℕ) (text : List ℕ) (at : ℕ) where
  -- 11
  abbrev pub IsKind : Expr arrow → Type 0
  IsKind = Leaf text at 2 (get_or text (at + 1) 0 < 16) (λ g. g.joined (get_or text (at + 1) 0))

  -- 12
  abbrev pub IsReversed : Expr arrow → Type 0
  IsReversed = One (ranges n) text at 1 (Unit {0}) arrow (λ g v i j. v j i)

  -- 13 to 15
  abbrev pub IsTwo : ℕ → Expr arrow → Type 0
  IsTwo c = Two (ranges n) text at 1 arrow arrow (λ g v w i j. arrow_operation c (v i j) (w i j))

  -- 16
  abbrev pub IsEnding : Expr arrow → Type 0
  IsEnding = Two (ranges n) text at 1 arrow node (λ g v w i j. v i j && w j)

  -- 17
  abbrev pub IsPair : Expr arrow → Type 0
  IsPair = Leaf text at 3 ((get_or text (at + 1) 0 < n) × (get_or text (at + 2) 0 < n)) (λ g k l. (is_node g k && eqb k (get_or text (at + 1) 0)) && (is_node g l && eqb l (get_or text (at + 2) 0)))

  -- What an arrow expression that begins with c is made of.
  abbrev Shown : ℕ → Expr arrow → Type 0
  Shown c e =
      cond (leb c 0x12) (cond (leb c 0x11) (IsKind e) (IsReversed e))
      (cond (leb c 0x15) (IsTwo c e)
      (cond (leb c 0x16) (IsEnding e) (IsPair e)))

  cases : (e : Expr arrow) → Stands (ranges n) text at e → Shown (code_byte e) e
  unfolding code InRange value
  cases (arrow_kind a) h = let q = first-number text at 0x11 a _ h.here in leaf-at h (omega (arith, q, ltb→lt a 16 h.range)) (λ g. ap g.joined (sym q))
  cases (reversed R) h = one_at h 0x12 [] R tt (λ g. refl) refl h.range
  cases (union R S) h = two_at h 0x13 [] R S (λ g. refl) refl h.range.0 h.range.1
  cases (common R S) h = two_at h 0x14 [] R S (λ g. refl) refl h.range.0 h.range.1
  cases (minus R S) h = two_at h 0x15 [] R S (λ g. refl) refl h.range.0 h.range.1
  cases (ending_in R E) h = two_at h 0x16 [] R E (λ g. refl) refl h.range.0 h.range.1
  cases (pair i j) h =
      let p = first-number text at 0x17 i _ h.here in let q = second-number text at 0x17 i j _ h.here in
      leaf-at h (omega (arith, p, ltb→lt i n h.range.0), omega (arith, q, ltb→lt j n h.range.1)) (λ g. ap₂ {C = Pairs} (λ i j k l. (is_node g k && eqb k i) && (is_node g l && eqb l j)) (sym p) (sym q))

  -- With a numeral for c, Shown c is one case; else the bounds on c choose it (below, above).
  shown : (e : Expr arrow) → Stands (ranges n) text at e → (c : ℕ) → get_or text at 0 ≡ c → Shown c e
  shown e h = by_byte _ text at e h Shown (cases e h)

  module _ (e : Expr arrow) (h : Stands (ranges n) text at e) where
    pub as-kind : get_or text at 0 ≤ 0x11 → IsKind e
    as-kind u = below 0x11 _ _ (below {c = get_or text at 0} 0x12 _ _ (shown e h _ refl) (omega arith)) u

    pub as_reversed : 0x11 < get_or text at 0 → get_or text at 0 ≤ 0x12 → IsReversed e
    as_reversed l u = shown e h 0x12 (omega arith)

    pub as-two : 0x12 < get_or text at 0 → get_or text at 0 ≤ 0x15 → IsTwo (get_or text at 0) e
    as-two l u = below 0x15 _ _ (above 0x12 _ _ (shown e h _ refl) l) u

    pub as-ending : 0x15 < get_or text at 0 → get_or text at 0 ≤ 0x16 → IsEnding e
    as-ending l u = shown e h 0x16 (omega arith)

    pub as-pair : 0x16 < get_or text at 0 → IsPair e
    as-pair l = above 0x16 _ _ (above {c = get_or text at 0} 0x15 _ _ (above {c = get_or text at 0} 0x12 _ _ (shown e h _ refl) (omega arith)) (omega arith)) l

  module _ (sheet : List ℕ) (e : Expr arrow) (out : List ℕ) where
    pub leaf-relation : {k : ℕ} {P : Type 0} {v : Graph → Pairs} → Leaf text at k P v e → Rows n (v (graph_of sheet)) out → IsRelation sheet n at e out (at + k)
    leaf-relation h r = record { rows_are = rw (h.means (graph_of sheet)) r; ends = omega (arith, h.size) }

    -- in rows or in columns
    pub reversed-way : IsReversed e → (turned : Bool) (nx : ℕ) → WayAt n text sheet (at + 1) out turned nx → IsEitherWay sheet n at e out (not turned) nx
    reversed-way h turned nx p =
        let a = p h.A h.first in
        record { rows_are = rw (h.means (graph_of sheet)) (go turned (value (graph_of sheet) h.A) a.rows_are); ends = omega (arith, a.ends, h.size) } where
          go : (b : Bool) (v : Pairs) → Rows n (turn b v) out → Rows n (turn (not b) (λ i j. v j i)) out
          go true v q = q
          go false v q = q

    pub two-way : IsTwo (get_or text at 0) e → (first : List ℕ) (before turned : Bool) (nx ny : ℕ) → WayAt n text sheet (at + 1) first before nx
        → ((f : Expr arrow) → Stands (ranges n) text nx f → IsCombinedWay sheet n nx (get_or text at 0) f before first out turned ny) → IsEitherWay sheet n at e out turned ny
    two-way h first before turned nx ny p q =
        let a = p h.A h.first in let b = q h.B (h.second nx a.ends) in
        record { rows_are = rw (h.means (graph_of sheet)) (b.rows_are (value (graph_of sheet) h.A) a.rows_are); ends = omega (arith, a.ends, b.ends, h.size) }

    pub ending-way : {all : ℕ} → Opened sheet n all → IsEnding e → (rows : List ℕ) (turned : Bool) (x nx ny : ℕ) → WayAt n text sheet (at + 1) rows turned nx → SetAt n text sheet nx all x ny
        → ((v : Pairs) (w : Nodes) → Rows n (turn turned v) rows → x ≡ set_of n w → Rows n (turn turned (λ i j. v i j && w j)) out) → IsEitherWay sheet n at e out turned ny
    ending-way o h rows turned x nx ny p q r =
        let a = p h.A h.first in let b = is_whole o (q h.B (h.second nx a.ends)) in
        record { rows_are = rw (h.means (graph_of sheet)) (r _ _ a.rows_are b.set); ends = omega (arith, a.ends, b.ends, h.size) }

  module _ (sheet : List ℕ) (c : ℕ) (e : Expr arrow) (old out : List ℕ) where
    pub leaf-combined : {k : ℕ} {P : Type 0} {w : Graph → Pairs} → Leaf text at k P w e → ((v : Pairs) → Rows n v old → Rows n (λ i j. arrow_operation c (v i j) (w (graph_of sheet) i j)) out) → IsCombined sheet n at c e old out (at + k)
    leaf-combined h r = record { rows_are = λ v p. rw (h.means (graph_of sheet)) (r v p); ends = omega (arith, h.size) }

  module _ (sheet : List ℕ) (c : ℕ) (e : Expr arrow) (before : Bool) (old faced out : List ℕ) where
    -- a leaf as the second, at p after its 12s
    pub leaf-way : (turned : Bool) (p nx : ℕ) → IsTurned n text at e turned p → ((v : Pairs) → Rows n (turn before v) old → Rows n (turn turned v) faced)
        → ((f : Expr arrow) → Stands (ranges n) text p f → IsCombined sheet n p c f faced out nx) → IsCombinedWay sheet n at c e before old out turned nx
    leaf-way turned p nx t f q =
        let g = graph_of sheet in let b = q t.R t.stands in
        record {
          rows_are = λ v h. rw (t.means g) (go turned v (value g t.R) (b.rows_are (turn turned v) (f v h)));
          ends = omega (arith, t.ends, b.ends);
        } where
          go : (b : Bool) (v w : Pairs) → Rows n (λ i j. arrow_operation c (turn b v i j) (w i j)) out → Rows n (turn b (λ i j. arrow_operation c (v i j) (turn b w i j))) out
          go true v w q = q
          go false v w q = q

    pub apart-way : (other : List ℕ) (turned : Bool) (nx : ℕ) → IsEitherWay sheet n at e other turned nx → ((v : Pairs) → Rows n (turn before v) old → Rows n (turn turned v) faced)
        → ((v w : Pairs) → Rows n v faced → Rows n w other → Rows n (λ i j. arrow_operation c (v i j) (w i j)) out) → IsCombinedWay sheet n at c e before old out turned nx
    apart-way other turned nx a f r = record { rows_are = λ v h. go turned v (value (graph_of sheet) e) (r _ _ (f v h) a.rows_are); ends = a.ends } where
      go : (b : Bool) (v w : Pairs) → Rows n (λ i j. arrow_operation c (turn b v i j) (turn b w i j)) out → Rows n (turn b (λ i j. arrow_operation c (v i j) (w i j))) out
      go true v w q = q
      go false v w q = q
