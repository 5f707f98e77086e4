-- The lowest pair of a relation that is not in another, found row by row.
use mathlib.Core.Path.{◌≡◌, refl, sym, ap, ap₂, ◌∙◌}
use mathlib.Core.Bool.{Bool, true, false, not, ◌&&◌, cond, not-not}
use Prim.Native.Nat.{ℕ, ◌≤◌, ◌<◌}
use native.Mathlib.Omega.{arith}
use lib.Count.{count_trailing_zeros}
use lib.Dec.{eqb}
use borrow.Author.Tests.{ne_eqb}
use Rattle.logic.specs.Graph.{Nodes, Pairs, any_below, all_below, implies}
use Rattle.logic.specs.Witness.{IsLowest, nothing, pairs}
use Rattle.logic.proofs.Below.{any-one, all-each, all-stop, all_end, all-not-any, none-outside}
use Rattle.logic.proofs.WitnessLaws.{lowest-is}
use Rattle.bitset.specs.Words.{set_of, member, combined}
use Rattle.bitset.proofs.SetLaws.{set_of-empty, combined-sets}
use Rattle.bitset.proofs.MemberLaws.{first-is-lowest}
use Rattle.witness.specs.Witnessed.{witness}
use Rattle.witness.specs.declared.Witness.TheVariants.{Nothing, LowestPair}

-- what is in v and not in w
abbrev pub outside : Nodes → Nodes → Nodes
outside v w = λ i. v i && not (w i)

not-other : {x b : Bool} → not x ≡ b → x ≡ not b
not-other {x} {b} h = sym (not-not x) ∙ ap not h

pub inside-none : (n : ℕ) (v w : Nodes) (b : Bool) → all_below n (λ i. implies (v i) (w i)) ≡ b → any_below n (outside v w) ≡ not b
inside-none n v w b e = not-other (none-outside n v w ∙ e)

-- the word of what is in one set and not in another
pub word-outside : (n : ℕ) (v w : Nodes) (x y d : ℕ) → n ≤ 64 → x ≡ set_of n v → y ≡ set_of n w → d ≡ combined (λ a b. a && not b) x y → d ≡ set_of n (outside v w)
word-outside n v w x y d h p q e = e ∙ ap₂ (combined (λ a b. a && not b)) p q ∙ combined-sets (λ a b. a && not b) refl n v w h

-- such a word is above 0 exactly where the one set is not inside the other
pub word_none : (n : ℕ) (v w : Nodes) (d : ℕ) → d ≡ set_of n (outside v w) → d ≤ 0 → all_below n (λ i. implies (v i) (w i)) ≡ true
word_none n v w d e h = sym (none-outside n v w) ∙ sym (set_of-empty n (outside v w)) ∙ (let z : set_of n (outside v w) ≡ 0 = omega (arith, e) in ap (λ k. eqb k 0) z)

pub word_some : (n : ℕ) (v w : Nodes) (d : ℕ) → d ≡ set_of n (outside v w) → 0 < d → all_below n (λ i. implies (v i) (w i)) ≡ false
word_some n v w d e h = sym (none-outside n v w) ∙ sym (set_of-empty n (outside v w)) ∙ ne_eqb _ 0 (λ (z : set_of n (outside v w) ≡ 0). omega (arith, e))

module _ (n : ℕ) (v w : Pairs) where
  -- row k of v is inside that of w
  abbrev pub row_in : Nodes
  row_in k = all_below n (λ j. implies (v k j) (w k j))

  pub pairs-some : all_below n row_in ≡ false → any_below n (λ i. any_below n (outside (v i) (w i))) ≡ true
  pairs-some e = not-other (sym (all-not-any n row_in (λ i. any_below n (outside (v i) (w i))) (λ i l. sym (none-outside n (v i) (w i)))) ∙ e)

  pub pair_found : (i x : ℕ) (r : ℕ) → i < n → n ≤ 64 → all_below i row_in ≡ true → x ≡ set_of n (outside (v i) (w i)) → 0 < x → member x r ≡ true → r ≡ count_trailing_zeros 64 x
      → LowestPair i r ≡ witness n (cond (all_below n row_in) nothing (pairs (λ i j. v i j && not (w i j))))
  unfolding witness
  pair_found i x r l h before e some m t =
      let q : IsLowest n (outside (v i) (w i)) r = first-is-lowest n (outside (v i) (w i)) x r h e m t in
      let p : IsLowest n (λ i. any_below n (outside (v i) (w i))) i = record {
        below = l;
        is_in = any-one n (outside (v i) (w i)) r q.below q.is_in;
        first = λ k b. inside-none n (v k) (w k) true (all-each i row_in before k b);
      } in
      let first = lowest-is n (λ i. any_below n (outside (v i) (w i))) i p in
      rw (all-stop row_in n i l (word_some n (v i) (w i) x e some)) (rw (first, lowest-is n (outside (v i) (w i)) r q) refl)

  pub pair-none : (i : ℕ) → i ≤ n → n ≤ i → all_below i row_in ≡ true → Nothing ≡ witness n (cond (all_below n row_in) nothing (pairs (λ i j. v i j && not (w i j))))
  pair-none i h l before = unfold witness in rw (all_end row_in n i h l before) refl
