-- The cases of a node expression by its code byte, and the set that each means.
use mathlib.Core.Path.{◌≡◌, refl, sym, ap, ap₂, ◌∙◌, subst}
use mathlib.Core.Bool.{Bool, true, false, not, ◌&&◌, ◌||◌, cond, and-true, and-false, and_assoc}
use mathlib.Core.List.{List, [], ◌∷◌}
use Prim.Native.Nat.{ℕ, ◌+◌, ◌-◌, ◌≤◌, ◌<◌}
use native.Mathlib.Omega.{arith}
use lib.Dec.{eqb, leb, ltb→lt}
use borrow.Author.Tests.{leb-true, leb-false}
use lib.ListN.{get_or, drop}
use Rattle.logic.specs.Syntax.{node, arrow, Expr, all, none, label, nominal, complement, and, or, some, every, at_least, at_most}
use Rattle.logic.specs.Graph.{Graph, Nodes, is_node}
use Rattle.logic.specs.Meaning.{value}
use Rattle.logic.specs.Limits.{ranges, InRange}
use Rattle.bitset.specs.Words.{set_of, member, combined}
use Rattle.bitset.proofs.SetLaws.{set_of-cong, set_of-none, set_of-member-lt, member-set_of, combined-sets}
use Rattle.sheet.specs.Sheet.{graph_of}
use Rattle.text.specs.Code.{code}
use Rattle.text.specs.Stands.{Stands}
use Rattle.rows.specs.Operations.{quantified, quantified_nodes}
use Rattle.eval.specs.Evaluated.{Opened, Used, IsSetWithin}
use Rattle.eval.proofs.CodePlaces.{first-number, code_byte, by_byte, below, above, Leaf, One, Two, leaf-at, one_at, two_at}
use Rattle.eval.proofs.EvaluatorPosts.{SetAt}
use Rattle.eval.proofs.InUse.{in_use, combined-used}

module _ (n : ℕ) (text : List ℕ) (at : ℕ) where
  -- 01
  abbrev pub IsAll : Expr node → Type 0
  IsAll = Leaf text at 1 (Unit {0}) is_node

  -- 02
  abbrev pub IsNone : Expr node → Type 0
  IsNone = Leaf text at 1 (Unit {0}) (λ g i. false)

  -- 03
  abbrev pub IsLabel : Expr node → Type 0
  IsLabel = Leaf text at 2 (get_or text (at + 1) 0 < 48) (λ g. g.labelled (get_or text (at + 1) 0))

  -- 04
  abbrev pub IsNominal : Expr node → Type 0
  IsNominal = Leaf text at 2 (get_or text (at + 1) 0 < n) (λ g i. is_node g i && eqb i (get_or text (at + 1) 0))

  -- 05
  abbrev pub IsComplement : Expr node → Type 0
  IsComplement = One (ranges n) text at 1 (Unit {0}) node (λ g v i. is_node g i && not (v i))

  -- 06
  abbrev pub IsAnd : Expr node → Type 0
  IsAnd = Two (ranges n) text at 1 node node (λ g v w i. v i && w i)

  -- 07
  abbrev pub IsOr : Expr node → Type 0
  IsOr = Two (ranges n) text at 1 node node (λ g v w i. v i || w i)

  -- 08 to 0B, the operands k bytes on, the count before them
  abbrev pub IsQuantifier : ℕ → ℕ → Expr node → Type 0
  IsQuantifier c k = Two (ranges n) text at k arrow node (λ g v w. quantified_nodes c (get_or text (at + k - 1) 0) g.n (is_node g) v w)

  -- What a node expression that begins with c is made of.
  abbrev Shown : ℕ → Expr node → Type 0
  Shown c e =
      cond (leb c 0x07)
      (cond (leb c 0x01) (IsAll e)
      (cond (leb c 0x02) (IsNone e)
      (cond (leb c 0x03) (IsLabel e)
      (cond (leb c 0x04) (IsNominal e)
      (cond (leb c 0x05) (IsComplement e)
      (cond (leb c 0x06) (IsAnd e) (IsOr e)))))))
      (IsQuantifier c (cond (leb c 0x09) 1 2) e)

  -- the count, right before the operands
  count-byte : (x m : ℕ) (l : List ℕ) → drop at text ≡ x ∷ m ∷ l → get_or text (at + 2 - 1) 0 ≡ m
  count-byte x m l e = let f : at + 2 - 1 ≡ at + 1 = omega arith in ap (λ (j : ℕ). get_or text j 0) f ∙ first-number text at x m l e

  cases : (e : Expr node) → Stands (ranges n) text at e → Shown (code_byte e) e
  unfolding code InRange value quantified quantified_nodes
  cases all h = leaf-at h tt (λ g. refl)
  cases none h = leaf-at h tt (λ g. refl)
  cases (label k) h = let q = first-number text at 0x03 k _ h.here in leaf-at h (omega (arith, q, ltb→lt k 48 h.range)) (λ g. ap g.labelled (sym q))
  cases (nominal j) h = let q = first-number text at 0x04 j _ h.here in leaf-at h (omega (arith, q, ltb→lt j n h.range)) (λ g. ap {B = Nodes} (λ j i. is_node g i && eqb i j) (sym q))
  cases (complement E) h = one_at h 0x05 [] E tt (λ g. refl) refl h.range
  cases (and E F) h = two_at h 0x06 [] E F (λ g. refl) refl h.range.0 h.range.1
  cases (or E F) h = two_at h 0x07 [] E F (λ g. refl) refl h.range.0 h.range.1
  cases (some R E) h = two_at h 0x08 [] R E (λ g. refl) refl h.range.0 h.range.1
  cases (every R E) h = two_at h 0x09 [] R E (λ g. refl) refl h.range.0 h.range.1
  cases (at_least m R E) h = two_at h 0x0A (m ∷ []) R E (λ g. ap (λ (j : ℕ). quantified_nodes 0x0A j g.n (is_node g) (value g R) (value g E)) (sym (count-byte 0x0A m _ h.here))) refl h.range.1 h.range.2
  cases (at_most m R E) h = two_at h 0x0B (m ∷ []) R E (λ g. ap (λ (j : ℕ). quantified_nodes 0x0B j g.n (is_node g) (value g R) (value g E)) (sym (count-byte 0x0B m _ h.here))) refl h.range.1 h.range.2

  -- With a numeral for c, Shown c is one case; else the bounds on c choose it (below, above).
  shown : (e : Expr node) → Stands (ranges n) text at e → (c : ℕ) → get_or text at 0 ≡ c → Shown c e
  shown e h = by_byte _ text at e h Shown (cases e h)

  module _ (e : Expr node) (h : Stands (ranges n) text at e) where
    pub as-all : get_or text at 0 ≤ 0x01 → IsAll e
    as-all u = below 0x01 _ _ (below {c = get_or text at 0} 0x07 _ _ (shown e h _ refl) (omega arith)) u

    pub as_none : 0x01 < get_or text at 0 → get_or text at 0 ≤ 0x02 → IsNone e
    as_none l u = shown e h 0x02 (omega arith)

    pub as-label : 0x02 < get_or text at 0 → get_or text at 0 ≤ 0x03 → IsLabel e
    as-label l u = shown e h 0x03 (omega arith)

    pub as-nominal : 0x03 < get_or text at 0 → get_or text at 0 ≤ 0x04 → IsNominal e
    as-nominal l u = shown e h 0x04 (omega arith)

    pub as-complement : 0x04 < get_or text at 0 → get_or text at 0 ≤ 0x05 → IsComplement e
    as-complement l u = shown e h 0x05 (omega arith)

    pub as-and : 0x05 < get_or text at 0 → get_or text at 0 ≤ 0x06 → IsAnd e
    as-and l u = shown e h 0x06 (omega arith)

    pub as-or : 0x06 < get_or text at 0 → get_or text at 0 ≤ 0x07 → IsOr e
    as-or l u = shown e h 0x07 (omega arith)

    pub as-quantifier : 0x07 < get_or text at 0 → (k : ℕ) → (get_or text at 0 ≤ 0x09 → k ≡ 1) → (0x09 < get_or text at 0 → k ≡ 2) → IsQuantifier (get_or text at 0) k e
    as-quantifier l k f g = subst (λ (j : ℕ). IsQuantifier (get_or text at 0) j e) (go (leb (get_or text at 0) 0x09) refl) (above 0x07 _ _ (shown e h _ refl) l) where
      go : (b : Bool) → leb (get_or text at 0) 0x09 ≡ b → cond b 1 2 ≡ k
      go true q = sym (f (leb-true _ _ q))
      go false q = sym (g (leb-false _ _ q))

  module _ (sheet : List ℕ) (within z : ℕ) (u : Used sheet n within) {e : Expr node} where
    leaf-set : {k : ℕ} {P : Type 0} {v : Graph → Nodes} → Leaf text at k P v e → z ≡ set_of n (λ i. member within i && v (graph_of sheet) i) → IsSetWithin sheet n at e within z (at + k)
    leaf-set h q = record { set = q ∙ ap (λ (v : Nodes). set_of n (λ i. member within i && v i)) (sym (h.means (graph_of sheet))); ends = omega (arith, h.size) }

    pub all_set : IsAll e → z ≡ within → IsSetWithin sheet n at e within z (at + 1)
    all_set h q = leaf-set h (q ∙ sym (set_of-member-lt n within u.small) ∙ set_of-cong n _ _ (λ i l. sym (in_use (member within i) (is_node (graph_of sheet) i) (λ b. b) (u.nodes i) ∙ and-true (member within i))))

    pub none-set : IsNone e → z ≡ 0 → IsSetWithin sheet n at e within z (at + 1)
    none-set h q = leaf-set h (q ∙ sym (set_of-none n) ∙ set_of-cong n _ _ (λ i l. sym (and-false (member within i))))

    pub label_set : IsLabel e → n ≡ (graph_of sheet).n → n ≤ 64 → (x : ℕ) → x ≡ set_of (graph_of sheet).n ((graph_of sheet).labelled (get_or text (at + 1) 0)) → z ≡ combined ◌&&◌ within x → IsSetWithin sheet n at e within z (at + 2)
    label_set h count m x d q =
        let v = (graph_of sheet).labelled (get_or text (at + 1) 0) in
        leaf-set h (combined-used ◌&&◌ refl v m u (d ∙ ap (λ (j : ℕ). set_of j v) (sym count)) q)

    pub nominal-set : IsNominal e → z ≡ set_of n (λ k. member within k && eqb k (get_or text (at + 1) 0)) → IsSetWithin sheet n at e within z (at + 2)
    nominal-set h q = leaf-set h (q ∙ set_of-cong n _ _ (λ k l. sym (in_use (member within k) (is_node (graph_of sheet) k) (λ b. b && eqb k (get_or text (at + 1) 0)) (u.nodes k))))

  module _ (sheet : List ℕ) (all : ℕ) (o : Opened sheet n all) (within : ℕ) (u : Used sheet n within) (e : Expr node) where
    pub complement-set : IsComplement e → (x nx z : ℕ) → SetAt n text sheet (at + 1) within x nx → z ≡ combined (λ a b. a && not b) within x → IsSetWithin sheet n at e within z nx
    complement-set h x nx z p r =
        let g = graph_of sheet in let a = p h.A h.first in
        let rest = combined-used (λ a b. a && not b) refl (λ i. member within i && value g h.A i) (omega (arith, o.few)) u a.set r in
        record {
          set = rw (h.means g) (rest ∙ set_of-cong n _ _ (λ i l. go (member within i) (value g h.A i) ∙ sym (in_use (member within i) (is_node g i) (λ b. b && not (value g h.A i)) (u.nodes i))));
          ends = omega (arith, a.ends, h.size);
        } where
          go : (a b : Bool) → (a && not (a && b)) ≡ (a && (true && not b))
          go true b = refl
          go false b = refl

    pub and_set : IsAnd e → (x nx y ny : ℕ) → SetAt n text sheet (at + 1) within x nx → SetAt n text sheet nx x y ny → IsSetWithin sheet n at e within y ny
    and_set h x nx y ny p q =
        let g = graph_of sheet in let a = p h.A h.first in let b = q h.B (h.second nx a.ends) in
        let first : (i : ℕ) → i < n → member x i ≡ (member within i && value g h.A i) = λ i l. ap (λ (z : ℕ). member z i) a.set ∙ member-set_of n _ i l in
        record {
          set = rw (h.means g) (b.set ∙ set_of-cong n _ _ (λ i l. ap (◌&& value g h.B i) (first i l) ∙ and_assoc (member within i) (value g h.A i) (value g h.B i)));
          ends = omega (arith, a.ends, b.ends, h.size);
        }

    pub or_set : IsOr e → (x nx w y ny z : ℕ) → SetAt n text sheet (at + 1) within x nx → w ≡ combined (λ a b. a && not b) within x
        → SetAt n text sheet nx w y ny → z ≡ combined ◌||◌ x y → IsSetWithin sheet n at e within z ny
    or_set h x nx w y ny z p s q r =
        let g = graph_of sheet in let a = p h.A h.first in let b = q h.B (h.second nx a.ends) in
        let rest : w ≡ set_of n (λ i. member within i && not (member within i && value g h.A i)) =
        combined-used (λ a b. a && not b) refl (λ i. member within i && value g h.A i) (omega (arith, o.few)) u a.set s in
        record {
          set =
              rw (h.means g) (r ∙ ap₂ (combined ◌||◌) a.set b.set
              ∙ combined-sets ◌||◌ refl n (λ i. member within i && value g h.A i) (λ i. member w i && value g h.B i) (omega (arith, o.few))
              ∙ set_of-cong n _ _ (λ i l. ap (λ (c : Bool). (member within i && value g h.A i) || (c && value g h.B i)) (ap (λ (z : ℕ). member z i) rest ∙ member-set_of n _ i l)
              ∙ go (member within i) (value g h.A i) (value g h.B i)));
          ends = omega (arith, a.ends, b.ends, h.size);
        } where
          go : (a b c : Bool) → ((a && b) || ((a && not (a && b)) && c)) ≡ (a && (b || c))
          go true true c = refl
          go true false c = refl
          go false b c = refl
