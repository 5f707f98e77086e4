-- The witness of a rule without a rule inside, by the values of its expressions.
use mathlib.Core.Path.{◌≡◌, refl, sym, ap, ap₂, ◌∙◌}
use mathlib.Core.Bool.{Bool, true, false, not, ◌&&◌, cond, and-false}
use mathlib.Core.List.{List}
use Prim.Native.Nat.{ℕ, ◌+◌, ◌≤◌, ◌<◌}
use native.Mathlib.Omega.{arith}
use lib.Count.{count_trailing_zeros}
use lib.Dec.{eqb, ltb→lt}
use borrow.Author.Tests.{eq-eqb, ne_eqb}
use lib.ListN.{get_or}
use Rattle.logic.specs.Syntax.{node, arrow, rule, Expr, sub_nodes, sub_arrows, node_in, pair_in, not_rule}
use Rattle.logic.specs.Graph.{Nodes, Pairs, any_below, all_below, implies}
use Rattle.logic.specs.Meaning.{value}
use Rattle.logic.specs.Limits.{max_nodes, ranges, InRange}
use Rattle.logic.specs.Witness.{IsLowest, nothing, pairs, unnamed, breaks}
use Rattle.logic.proofs.Below.{any_none, any-one}
use Rattle.logic.proofs.WitnessLaws.{lowest-is}
use Rattle.bitset.specs.Words.{set_of, member, combined}
use Rattle.bitset.proofs.SetLaws.{set_of-only}
use Rattle.bitset.proofs.MemberLaws.{first-is-lowest}
use Rattle.sheet.specs.Sheet.{graph_of, Rows}
use Rattle.text.specs.Code.{code}
use Rattle.text.specs.Stands.{Stands}
use Rattle.eval.specs.Evaluated.{Opened, IsSet, IsRelation}
use Rattle.eval.proofs.CodePlaces.{first-number, second-number}
use Rattle.witness.specs.Witnessed.{witness, WitnessOf}
use Rattle.witness.specs.declared.Witness.{Witness}
use Rattle.witness.specs.declared.Witness.TheVariants.{Nothing, LowestNode, LowestPair, Unnamed}
use Rattle.witness.proofs.PairLaws.{outside, row_in, word-outside, word_none, word_some}
use Rattle.witness.proofs.RuleShapes.{operands}

-- the set of one node, and of one pair
pub only-lowest : (n i : ℕ) → i < n → IsLowest n (λ k. eqb k i) i
only-lowest n i l = record { below = l; is_in = eq-eqb i i refl; first = λ k b. ne_eqb k i (λ (z : k ≡ i). omega arith) }

module _ (n i j : ℕ) (l : i < n) (m : j < n) where
  pub first-lowest : IsLowest n (λ k. any_below n (λ h. eqb k i && eqb h j)) i
  first-lowest = record {
    below = l;
    is_in = any-one n (λ h. eqb i i && eqb h j) j m (ap₂ ◌&&◌ (eq-eqb i i refl) (eq-eqb j j refl));
    first = λ k b. any_none n (λ h. eqb k i && eqb h j) (λ h c. ap (◌&& eqb h j) (ne_eqb k i (λ (z : k ≡ i). omega arith)));
  }

  second-lowest : IsLowest n (λ h. eqb i i && eqb h j) j
  second-lowest = record {
    below = m;
    is_in = ap₂ ◌&&◌ (eq-eqb i i refl) (eq-eqb j j refl);
    first = λ h b. ap (eqb i i &&◌) (ne_eqb h j (λ (z : h ≡ j). omega arith)) ∙ and-false (eqb i i);
  }

-- r is the witness of e, if e is broken
abbrev pub IfBroken : List ℕ → ℕ → Witness → Expr rule → Type 0
IfBroken sheet n r e = value (graph_of sheet) e ≡ false → WitnessOf sheet n r e

module _ (n : ℕ) (text : List ℕ) (at : ℕ) (sheet : List ℕ) where
  -- 21
  module _ (all : ℕ) (o : Opened sheet n all) (E F : Expr node) (h : Stands (ranges n) text at (sub_nodes E F)) (x nx y ny d : ℕ)
      (p : (f : Expr node) → Stands (ranges n) text (at + 1) f → IsSet sheet n (at + 1) f x nx)
      (q : (f : Expr node) → Stands (ranges n) text nx f → IsSet sheet n nx f y ny)
      (e : d ≡ combined (λ a b. a && not b) x y) where
    abbrev v : Nodes
    v = value (graph_of sheet) E

    abbrev w : Nodes
    w = value (graph_of sheet) F

    word : d ≡ set_of n (outside v w)
    unfolding code InRange
    word =
        let s = operands 0x21 E F refl h.range.0 h.range.1 h in let t = p E s.first in
        word-outside n v w x y d (omega (arith, o.few)) t.set (q F (s.second nx t.ends)).set e

    truth : (b : Bool) → all_below n (λ i. implies (v i) (w i)) ≡ b → value (graph_of sheet) (sub_nodes E F) ≡ b
    truth b e = unfold value in ap (λ m. all_below m (λ i. implies (v i) (w i))) (sym o.count) ∙ e

    pub nodes-some : (r : ℕ) → 0 < d → member d r ≡ true → r ≡ count_trailing_zeros 64 d
        → WitnessOf sheet n (LowestNode r d) (sub_nodes E F)
    unfolding breaks witness
    nodes-some r l m t = rw (truth false (word_some n v w d word l)) (rw (lowest-is n (outside v w) r (first-is-lowest n (outside v w) d r (omega (arith, o.few)) word m t), ← word) refl)

    pub nodes-none : d ≤ 0 → WitnessOf sheet n Nothing (sub_nodes E F)
    unfolding breaks witness
    nodes-none l = rw (truth true (word_none n v w d word l)) refl

  -- 22
  pub pairs-named : (all : ℕ) → Opened sheet n all → (R S : Expr arrow) → Stands (ranges n) text at (sub_arrows R S) → (rows other : List ℕ) (nx ny : ℕ)
      → ((f : Expr arrow) → Stands (ranges n) text (at + 1) f → IsRelation sheet n (at + 1) f rows nx)
      → ((f : Expr arrow) → Stands (ranges n) text nx f → IsRelation sheet n nx f other ny)
      → (r : Witness) → ((v w : Pairs) → Rows n v rows → Rows n w other → r ≡ witness n (cond (all_below n (row_in n v w)) nothing (pairs (λ i j. v i j && not (w i j)))))
      → WitnessOf sheet n r (sub_arrows R S)
  unfolding breaks value code InRange
  pairs-named all o R S h rows other nx ny p q r k =
      let g = graph_of sheet in let s = operands 0x22 R S refl h.range.0 h.range.1 h in let t = p R s.first in
      k (value g R) (value g S) t.rows_are (q S (s.second nx t.ends)).rows_are
      ∙ ap (λ m. witness n (cond (all_below m (row_in m (value g R) (value g S))) nothing (pairs (λ i j. value g R i j && not (value g S i j))))) o.count

  -- 23
  pub node-named : (i : ℕ) (E : Expr node) → Stands (ranges n) text at (node_in i E) → n ≤ max_nodes → (k x : ℕ) → k ≡ get_or text (at + 1) 0 → x ≡ set_of 64 (λ m. eqb m k)
      → IfBroken sheet n (LowestNode k x) (node_in i E)
  unfolding breaks value witness code InRange
  node-named i E h few k x e f broken =
      let q : k ≡ i = e ∙ first-number text at 0x23 i _ h.here in let l = ltb→lt i n h.range.0 in
      let m : set_of 64 (λ m. eqb m i) ≡ set_of n (λ m. eqb m i) = set_of-only 64 i (omega arith) ∙ sym (set_of-only n i l) in
      rw (broken) (rw (lowest-is n (λ m. eqb m i) i (only-lowest n i l), f, q, m) refl)

  -- 24
  pub pair-named : (i j : ℕ) (R : Expr arrow) → Stands (ranges n) text at (pair_in i j R) → (k l : ℕ) → k ≡ get_or text (at + 1) 0 → l ≡ get_or text (at + 2) 0
      → IfBroken sheet n (LowestPair k l) (pair_in i j R)
  unfolding breaks value witness code InRange
  pair-named i j R h k l e f broken =
      let p : k ≡ i = e ∙ first-number text at 0x24 i _ h.here in let q : l ≡ j = f ∙ second-number text at 0x24 i j _ h.here in
      let a = ltb→lt i n h.range.0 in let b = ltb→lt j n h.range.1 in
      rw (broken) (rw (lowest-is n _ i (first-lowest n i j a b), lowest-is n _ j (second-lowest n i j a b), p, q) refl)

-- 27
pub not_named : (sheet : List ℕ) (n : ℕ) (K : Expr rule) → IfBroken sheet n Unnamed (not_rule K)
unfolding breaks value witness
not_named sheet n K broken = go (value (graph_of sheet) K) broken where
  go : (b : Bool) → not b ≡ false → Unnamed ≡ witness n (cond b unnamed nothing)
  go true e = refl
  go false e = cc
