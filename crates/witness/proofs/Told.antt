-- A witness of a broken rule says what it should.
use mathlib.Core.Path.{◌≡◌, refl}
use mathlib.Core.Bool.{Bool, true, false, not, ◌&&◌, ◌||◌, cond}
use Prim.Native.Nat.{ℕ}
use native.Mathlib.Omega.{arith}
use lib.Dec.{eqb, ltb→lt}
use Rattle.logic.specs.Syntax.{Expr, rule, sub_nodes, sub_arrows, node_in, pair_in, both, either, not_rule}
use Rattle.logic.specs.Graph.{Graph, Nodes, Pairs, any_below}
use Rattle.logic.specs.Meaning.{value}
use Rattle.logic.specs.Limits.{ranges, InRange}
use Rattle.logic.specs.Witness.{Breaks, nothing, nodes, pairs, unnamed, breaks, lowest_below}
use Rattle.logic.proofs.Below.{any-one}
use Rattle.logic.proofs.WitnessLaws.{lowest-found}
use Rattle.witness.specs.Witnessed.{witness}
use Rattle.witness.specs.Told.{breaking_part, breaking_nodes, breaking_pairs, Told}
use Rattle.witness.proofs.PairLaws.{outside, inside-none, pairs-some}
use Rattle.witness.proofs.NamedParts.{only-lowest, first-lowest}

module _ (g : Graph) where
  abbrev n : ℕ
  n = g.n

  -- what a witness says about nodes that break a broken part
  of-nodes : (P : Expr rule) → value g P ≡ false → (v : Nodes) → v ≡ breaking_nodes g P → any_below n v ≡ true → Told g P (witness n (nodes v))
  unfolding witness
  of-nodes P b v e some = record {
    broken = b;
    named = rw (← e) (lowest-found n v some, refl);
  }

  of-pairs : (P : Expr rule) → value g P ≡ false → (v : Pairs) → v ≡ breaking_pairs g P → any_below n (λ i. any_below n (v i)) ≡ true → Told g P (witness n (pairs v))
  unfolding witness
  of-pairs P b v e some =
      let first = lowest-found n (λ i. any_below n (v i)) some in
      record {
        broken = b;
        named = rw (← e) (first, lowest-found n (v (lowest_below n (λ i. any_below n (v i)))) first.is_in);
      }

  of_none : (P : Expr rule) → value g P ≡ false → Told g P (witness n unnamed)
  of_none P b = unfold witness in record { broken = b; named = tt }

  -- what a witness says about a part that breaks, it says about the whole
  held : (P : Expr rule) (x : Bool) (b : Breaks) → x ≡ false → Told g P (witness n b) → Told g P (witness n (cond x nothing b))
  held P true b e t = let z : ◌≡◌ {A = ℕ} 0 1 = cc in absurd (omega arith)
  held P false b e t = t

  pub told : (K : Expr rule) → InRange (ranges n) K → value g K ≡ false → Told g (breaking_part g K) (witness n (breaks g K))
  unfolding breaks breaking_part breaking_nodes breaking_pairs value InRange
  told (sub_nodes E F) r b = held (sub_nodes E F) (value g (sub_nodes E F)) _ b (of-nodes (sub_nodes E F) b (outside (value g E) (value g F)) refl (inside-none n (value g E) (value g F) false b))
  told (sub_arrows R S) r b = held (sub_arrows R S) (value g (sub_arrows R S)) _ b (of-pairs (sub_arrows R S) b (λ i j. value g R i j && not (value g S i j)) refl (pairs-some n (value g R) (value g S) b))
  told (node_in i E) r b = held (node_in i E) (value g E i) _ b (of-nodes (node_in i E) b (λ k. eqb k i) refl (let l = only-lowest n i (ltb→lt i n r.0) in any-one n (λ k. eqb k i) i l.below l.is_in))
  told (pair_in i j R) r b = held (pair_in i j R) (value g R i j) _ b (of-pairs (pair_in i j R) b (λ k l. eqb k i && eqb l j) refl (let l = first-lowest n i j (ltb→lt i n r.0) (ltb→lt j n r.1) in any-one n (λ k. any_below n (λ h. eqb k i && eqb h j)) i l.below l.is_in))
  told (both K L) r b = go (value g K) refl b (told K r.0) (told L r.1) where
    go : (x : Bool) → value g K ≡ x → (x && value g L) ≡ false → (value g K ≡ false → Told g (breaking_part g K) (witness n (breaks g K))) → (value g L ≡ false → Told g (breaking_part g L) (witness n (breaks g L)))
        → Told g (cond x (breaking_part g L) (breaking_part g K)) (witness n (cond x (breaks g L) (breaks g K)))
    go true e h p q = q h
    go false e h p q = p e
  told (either K L) r b = go (value g K) b (told L r.1) where
    go : (x : Bool) → (x || value g L) ≡ false → (value g L ≡ false → Told g (breaking_part g L) (witness n (breaks g L))) → Told g (breaking_part g L) (witness n (cond x nothing (breaks g L)))
    go true h q = let z : ◌≡◌ {A = ℕ} 0 1 = cc in absurd (omega arith)
    go false h q = q h
  told (not_rule K) r b = go (value g K) b where
    go : (x : Bool) → not x ≡ false → Told g (not_rule K) (witness n (cond x unnamed nothing))
    go true h = of_none (not_rule K) b
    go false h = let z : ◌≡◌ {A = ℕ} 0 1 = cc in absurd (omega arith)
