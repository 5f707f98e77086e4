-- The cases of a rule by its code byte, and when each holds.
use mathlib.Core.Path.{◌≡◌, refl, sym, ap, ap₂, ◌∙◌, subst}
use mathlib.Core.Bool.{Bool, true, false, not, ◌&&◌, ◌||◌, cond, and-true}
use mathlib.Core.List.{List, [], ◌∷◌}
use Prim.Native.Nat.{ℕ, ◌+◌, ◌≤◌, ◌<◌}
use native.Mathlib.Omega.{arith}
use lib.Dec.{eqb, leb, ltb→lt}
use borrow.Author.Tests.{eq-eqb}
use lib.ListN.{length, get_or}
use Rattle.logic.specs.Syntax.{node, arrow, rule, Expr, sub_nodes, sub_arrows, node_in, pair_in, both, either, not_rule}
use Rattle.logic.specs.Graph.{Nodes, Pairs, is_node, all_below, implies}
use Rattle.logic.specs.Meaning.{value}
use Rattle.logic.specs.Limits.{Ranges, ranges, InRange}
use Rattle.logic.proofs.Bools.{and-only}
use Rattle.logic.proofs.Below.{all-cong}
use Rattle.logic.proofs.Inside.{value_in}
use Rattle.bitset.specs.Words.{set_of, member}
use Rattle.bitset.proofs.SetLaws.{member-set_of}
use Rattle.sheet.specs.Sheet.{graph_of, Rows}
use Rattle.text.specs.Code.{code}
use Rattle.text.specs.Stands.{Stands}
use Rattle.eval.specs.Evaluated.{Opened, IsTruth, IsSettled, Upto, rule_operation, decided}
use Rattle.eval.proofs.EvaluatorPosts.{SetAt, RelationAt, SettledAt}
use Rattle.eval.proofs.InUse.{part-whole}
use Rattle.eval.proofs.RulesUpto.{upto-more}
use Rattle.eval.proofs.CodePlaces.{first-number, second-number, code_byte, by_byte, below, above, One, Two, one_at, two_at}

module _ (n : ℕ) (text : List ℕ) (at : ℕ) where
  -- 21
  abbrev pub IsSubNodes : Expr rule → Type 0
  IsSubNodes = Two (ranges n) text at 1 node node (λ g v w. all_below g.n (λ i. implies (v i) (w i)))

  -- 22
  abbrev pub IsSubArrows : Expr rule → Type 0
  IsSubArrows = Two (ranges n) text at 1 arrow arrow (λ g v w. all_below g.n (λ i. all_below g.n (λ j. implies (v i j) (w i j))))

  -- 23
  abbrev pub IsNodeIn : Expr rule → Type 0
  IsNodeIn = One (ranges n) text at 2 (get_or text (at + 1) 0 < n) node (λ g v. v (get_or text (at + 1) 0))

  -- 24
  abbrev pub IsPairIn : Expr rule → Type 0
  IsPairIn = One (ranges n) text at 3 ((get_or text (at + 1) 0 < n) × (get_or text (at + 2) 0 < n)) arrow (λ g v. v (get_or text (at + 1) 0) (get_or text (at + 2) 0))

  -- 25, 26
  abbrev pub IsTwo : ℕ → Expr rule → Type 0
  IsTwo c = Two (ranges n) text at 1 rule rule (λ g v w. rule_operation c v w)

  -- 27
  abbrev pub IsNot : Expr rule → Type 0
  IsNot = One (ranges n) text at 1 (Unit {0}) rule (λ g v. not v)

  -- What a rule that begins with c is made of.
  abbrev Shown : ℕ → Expr rule → Type 0
  Shown c e =
      cond (leb c 0x24)
      (cond (leb c 0x21) (IsSubNodes e)
      (cond (leb c 0x22) (IsSubArrows e)
      (cond (leb c 0x23) (IsNodeIn e) (IsPairIn e))))
      (cond (leb c 0x26) (IsTwo c e) (IsNot e))

  cases : (e : Expr rule) → Stands (ranges n) text at e → Shown (code_byte e) e
  unfolding code InRange value
  cases (sub_nodes E F) h = two_at h 0x21 [] E F (λ g. refl) refl h.range.0 h.range.1
  cases (sub_arrows R S) h = two_at h 0x22 [] R S (λ g. refl) refl h.range.0 h.range.1
  cases (node_in i E) h = let q = first-number text at 0x23 i _ h.here in one_at h 0x23 (i ∷ []) E (omega (arith, q, ltb→lt i n h.range.0)) (λ g. ap (value g E) (sym q)) refl h.range.1
  cases (pair_in i j R) h =
      let p = first-number text at 0x24 i _ h.here in let q = second-number text at 0x24 i j _ h.here in
      one_at h 0x24 (i ∷ j ∷ []) R (omega (arith, p, ltb→lt i n h.range.0), omega (arith, q, ltb→lt j n h.range.1)) (λ g. ap₂ (value g R) (sym p) (sym q)) refl h.range.2
  cases (both K L) h = two_at h 0x25 [] K L (λ g. refl) refl h.range.0 h.range.1
  cases (either K L) h = two_at h 0x26 [] K L (λ g. refl) refl h.range.0 h.range.1
  cases (not_rule K) h = one_at h 0x27 [] K tt (λ g. refl) refl h.range

  -- With a numeral for c, Shown c is one case; else the bounds on c choose it (below, above).
  shown : (e : Expr rule) → Stands (ranges n) text at e → (c : ℕ) → get_or text at 0 ≡ c → Shown c e
  shown e h = by_byte _ text at e h Shown (cases e h)

  module _ (e : Expr rule) (h : Stands (ranges n) text at e) where
    pub as-sub-nodes : get_or text at 0 ≤ 0x21 → IsSubNodes e
    as-sub-nodes u = below 0x21 _ _ (below {c = get_or text at 0} 0x24 _ _ (shown e h _ refl) (omega arith)) u

    pub as-sub-arrows : 0x21 < get_or text at 0 → get_or text at 0 ≤ 0x22 → IsSubArrows e
    as-sub-arrows l u = shown e h 0x22 (omega arith)

    pub as-node-in : 0x22 < get_or text at 0 → get_or text at 0 ≤ 0x23 → IsNodeIn e
    as-node-in l u = shown e h 0x23 (omega arith)

    pub as-pair-in : 0x23 < get_or text at 0 → get_or text at 0 ≤ 0x24 → IsPairIn e
    as-pair-in l u = shown e h 0x24 (omega arith)

    pub as-two : 0x24 < get_or text at 0 → get_or text at 0 ≤ 0x26 → IsTwo (get_or text at 0) e
    as-two l u = below 0x26 _ _ (above 0x24 _ _ (shown e h _ refl) l) u

    pub as-not : 0x26 < get_or text at 0 → IsNot e
    as-not l = above 0x26 _ _ (above {c = get_or text at 0} 0x24 _ _ (shown e h _ refl) (omega arith)) l

  module _ (sheet : List ℕ) (all : ℕ) (o : Opened sheet n all) (e : Expr rule) (b : Bool) where
    pub sub-nodes-truth : IsSubNodes e → (x nx y ny : ℕ) → SetAt n text sheet (at + 1) all x nx → SetAt n text sheet nx x y ny
        → ((m : ℕ) (v w : Nodes) → m ≤ 64 → x ≡ set_of m v → y ≡ set_of m w → b ≡ all_below m (λ i. implies (v i) (w i))) → IsTruth sheet at e b ny
    sub-nodes-truth h x nx y ny p q r =
        let g = graph_of sheet in let s = p h.A h.first in
        let t = q h.B (h.second nx s.ends) in let whole = part-whole sheet n all o h.A x s.set in
        record {
          truth =
              r n (value g h.A) (λ i. member x i && value g h.B i) (omega (arith, o.few)) whole t.set
              ∙ all-cong n _ (λ i. implies (value g h.A i) (value g h.B i)) (λ i l. ap (λ (c : Bool). implies (value g h.A i) (c && value g h.B i)) (ap (λ (z : ℕ). member z i) whole ∙ member-set_of n (value g h.A) i l) ∙ go (value g h.A i) (value g h.B i))
              ∙ ap (λ (m : ℕ). all_below m (λ i. implies (value g h.A i) (value g h.B i))) o.count
              ∙ sym (h.means g);
          ends = omega (arith, s.ends, t.ends, h.size);
        } where
          go : (c d : Bool) → implies c (c && d) ≡ implies c d
          go true d = refl
          go false d = refl

    pub sub-arrows-truth : IsSubArrows e → (first second : List ℕ) (nx ny : ℕ) → RelationAt n text sheet (at + 1) first nx → RelationAt n text sheet nx second ny
        → ((v w : Pairs) → Rows n v first → Rows n w second → b ≡ all_below n (λ i. all_below n (λ j. implies (v i j) (w i j)))) → IsTruth sheet at e b ny
    sub-arrows-truth h first second nx ny p q r =
        let s = p h.A h.first in let t = q h.B (h.second nx s.ends) in
        record { truth = (rw o.count at (r _ _ s.rows_are t.rows_are)) ∙ sym (h.means (graph_of sheet)); ends = omega (arith, s.ends, t.ends, h.size) }

    pub node-in-truth : IsNodeIn e → (w x nx : ℕ) → w ≡ set_of n (λ k. is_node (graph_of sheet) k && eqb k (get_or text (at + 1) 0)) → SetAt n text sheet (at + 2) w x nx
        → ((m : ℕ) (v : Nodes) → get_or text (at + 1) 0 < m → x ≡ set_of m v → b ≡ v (get_or text (at + 1) 0)) → IsTruth sheet at e b nx
    node-in-truth h w x nx d p r =
        let g = graph_of sheet in let s = p h.A h.first in let i = get_or text (at + 1) 0 in
        record {
          truth =
              r n (λ k. member w k && value g h.A k) h.range s.set
              ∙ ap (◌&& value g h.A i) (ap (λ (z : ℕ). member z i) d ∙ member-set_of n _ i h.range ∙ ap (is_node g i &&◌) (eq-eqb i i refl) ∙ and-true (is_node g i))
              ∙ and-only (is_node g i) (value g h.A i) (value_in g o.within h.A i)
              ∙ sym (h.means g);
          ends = omega (arith, s.ends, h.size);
        }

    pub pair-in-truth : IsPairIn e → (rows : List ℕ) (nx : ℕ) → RelationAt n text sheet (at + 3) rows nx
        → ((m : ℕ) (v : Pairs) → get_or text (at + 1) 0 < m → get_or text (at + 2) 0 < m → Rows m v rows → b ≡ v (get_or text (at + 1) 0) (get_or text (at + 2) 0))
        → IsTruth sheet at e b nx
    pair-in-truth h rows nx p r =
        let s = p h.A h.first in
        record { truth = r n _ h.range.0 h.range.1 s.rows_are ∙ sym (h.means (graph_of sheet)); ends = omega (arith, s.ends, h.size) }

  module _ (sheet : List ℕ) (e : Expr rule) where
    pub leaf-settled : {b : Bool} {next : ℕ} → IsTruth sheet at e b next → IsSettled sheet n text at e b next 0
    unfolding Upto
    leaf-settled s = record { truth = s.truth; ends = s.ends }

    abbrev EndsAt : (left next end : ℕ) → Type 0
    EndsAt left next end = Upto (ranges n) text end left next

    pub first-settled : IsTwo (get_or text at 0) e → (x b : Bool) (nx left : ℕ) → SettledAt n text sheet (at + 1) x nx left
        → b ≡ decided (get_or text at 0) x → b ≡ true → IsSettled sheet n text at e x nx (left + 1)
    first-settled h x b nx left p r d =
        let s = p h.A h.first in let q : at + 1 + length (code h.A) + length (code h.B) ≡ at + length (code e) = omega (arith, h.size) in
        record {
          truth = rw (h.means (graph_of sheet), ← s.truth) (go (eqb (get_or text at 0) 0x25) x (value (graph_of sheet) h.B) (sym r ∙ d));
          ends = subst (EndsAt (left + 1) nx) q (upto-more _ _ _ h.B (h.second _ refl) left _ s.ends);
        } where
          go : (c k l : Bool) → cond c (not k) k ≡ true → k ≡ cond c (k && l) (k || l)
          go true true l e = cc
          go true false l e = refl
          go false true l e = refl
          go false false l e = cc

    pub second-settled : IsTwo (get_or text at 0) e → (x y b : Bool) (nx left second ny rest : ℕ) → SettledAt n text sheet (at + 1) x nx left
        → ((l : Ranges) (end : ℕ) → Upto l text end left nx → second ≡ end) → SettledAt n text sheet second y ny rest
        → b ≡ decided (get_or text at 0) x → b ≡ false → IsSettled sheet n text at e y ny rest
    second-settled h x y b nx left second ny rest p f q r d =
        let s = p h.A h.first in let o = f _ _ s.ends in let t = q h.B (h.second second o) in
        let z : second + length (code h.B) ≡ at + length (code e) = omega (arith, o, h.size) in
        record { truth = rw (h.means (graph_of sheet), ← s.truth, ← t.truth) (go (eqb (get_or text at 0) 0x25) x y (sym r ∙ d)); ends = subst (EndsAt rest ny) z t.ends } where
          go : (c k l : Bool) → cond c (not k) k ≡ false → l ≡ cond c (k && l) (k || l)
          go true true l e = refl
          go true false l e = cc
          go false true l e = cc
          go false false l e = refl

    pub not-settled : IsNot e → (x : Bool) (nx left : ℕ) → SettledAt n text sheet (at + 1) x nx left → IsSettled sheet n text at e (not x) nx left
    not-settled h x nx left p =
        let s = p h.A h.first in let z : at + 1 + length (code h.A) ≡ at + length (code e) = omega (arith, h.size) in
        record { truth = ap not s.truth ∙ sym (h.means (graph_of sheet)); ends = subst (EndsAt left nx) z s.ends }
