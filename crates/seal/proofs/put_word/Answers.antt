use mathlib.Core.Path.{◌≡◌, ap, ap₂, ◌∙◌}
use mathlib.Core.Bool.{true}
use mathlib.Core.List.{List, ◌++◌}
use Prim.Native.Nat.{ℕ, ◌+◌, ◌-◌, ◌*◌, ◌≤◌}
use native.Mathlib.Nat.{le_trans, le-add_left}
use borrow.Author.Rules.{rules}
use lib.ListN.{length, get_or, take}
use Rattle.bitset.specs.Words.{Bytes, put_word_def}
use Rattle.seal.specs.Seal.{block_bytes, modulo257, stored, reseal, seal_right_def}
use Rattle.seal.specs.Lanes.{pairs_at, odds_at, lane_sum_def, lane_places}
use Rattle.seal.proofs.CodeLaws.{check-bytes}
use Rattle.seal.proofs.PutLaws.{Leaves, leaves-sealed, leaves-put, places-there}
use Rattle.seal.proofs.put_word.Goals as goal

-- Putting x into the eight bytes of k from `at` on gives r: the places can be subtracted, and the numbers have the sums of r as remainders.
record Changed (r : List ℕ) (at s t d q : ℕ) : Type 0 where
  pub there : q ≤ (508 - at) * d
  pub leaves : Leaves modulo257 r (s + d) (t + (508 - at) * d - q)

module _ (k r : List ℕ) (at x : ℕ) (h : length k ≡ block_bytes) (i : at + 8 ≤ 508) (right : seal_right_def modulo257 k ≡ true) (put : r ≡ put_word_def k at x) (small : Bytes k) (small' : Bytes r) where
  changed : (s t : ℕ) → s ≡ get_or k 508 0 + get_or k 509 0 * 256 → t ≡ get_or k 510 0 + get_or k 511 0 * 256
      → (p o p' o' : ℕ) → (p ≡ pairs_at k at) × (o ≡ odds_at k at) → (p' ≡ pairs_at r at) × (o' ≡ odds_at r at)
      → (d q : ℕ) → d ≡ lane_sum_def (p' + 0x0202020202020202 - p) → q ≡ lane_places (p' + 0x0202020202020202 - p) (o' + 0x0101010101010101 - o)
      → Changed r at s t d q
  changed s t es et p o p' o' was is d q ed eq =
      let says = check-bytes k h small right in
      let pairs_is = ap₂ (λ y z. y + 0x0202020202020202 - z) is.0 was.0 in
      let odds-is = ap₂ (λ y z. y + 0x0101010101010101 - z) is.1 was.1 in
      let d-is = ed ∙ ap lane_sum_def pairs_is in
      let q-is = eq ∙ ap₂ lane_places pairs_is odds-is in
      record {
        there = places-there k r at x h i put small small' _ _ d-is q-is;
        leaves = leaves-put k r at x h i put small small' _ _ _ _ (es ∙ says.0) (et ∙ says.1) d-is q-is;
      }

pub overflow_sub-moved-2 : goal.overflow_sub-moved-2
overflow_sub-moved-2 c =
    let k = c.args.block.now in
    let r = c.store.new.s in
    let small : Bytes k = λ p. search rules in
    let small' : Bytes r = λ p. search rules in
    let v = changed k r c.args.at c.args.x c.requires.0 c.requires.1 c.requires.2 c.store.ensures small small' _ _ (c.from-s.ensures ∙ c.pair.ensures) (c.from-t.ensures ∙ c.pair-2.ensures)
    _ _ _ _ c.lanes-before.ensures.pairs_value c.lanes-after.ensures.pairs_value _ _ c.lane_sum-d.ensures.0 c.places.ensures.0 in
    le_trans v.there (le-add_left _ _)

pub returns : goal.returns
returns c =
    let k = c.args.block.now in
    let r = c.store.new.s in
    let small : Bytes k = λ p. search rules in
    let small' : Bytes r = λ p. search rules in
    let v = changed k r c.args.at c.args.x c.requires.0 c.requires.1 c.requires.2 c.store.ensures small small' _ _ (c.from-s.ensures ∙ c.pair.ensures) (c.from-t.ensures ∙ c.pair-2.ensures)
    _ _ _ _ c.lanes-before.ensures.pairs_value c.lanes-after.ensures.pairs_value _ _ c.lane_sum-d.ensures.0 c.places.ensures.0 in
    c.put_sums.ensures
    ∙ ap₂ (λ y z. take 508 r ++ stored modulo257 (record { s = y; t = z })) c.left.ensures.0 c.left-2.ensures.0
    ∙ leaves-sealed modulo257 r _ _ v.leaves ∙ ap (reseal modulo257) c.store.ensures
