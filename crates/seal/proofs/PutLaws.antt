-- Putting a word into a block's body: the new sums, from the old ones and the lanes of the old and the new word.
use mathlib.Core.Path.{◌≡◌, refl, sym, ap, ap₂, ◌∙◌}
use mathlib.Core.List.{List, ◌++◌}
use mathlib.Core.Logic.{inr}
use Prim.Native.Nat.{ℕ, zero, suc, ◌+◌, ◌-◌, ◌*◌, ◌%◌, ◌≤◌}
use native.Mathlib.Nat.{mod-add-mod, le_trans, mul-le-mul_right}
use native.Mathlib.Omega.{arith}
use lib.ListN.{length, get_or, take, drop, length-append}
use lib.Seq.{take_at, take-append-le, length-take-le}
use Rattle.bitset.specs.Words.{Bytes, bytes, put_word_def}
use Rattle.bitset.proofs.WordLaws.{length-put_word, put_word-other}
use Rattle.seal.specs.Seal.{block_bytes, modulo257, Form, sums, stored, sealed, reseal}
use Rattle.seal.specs.Lanes.{odds_at, pairs_at, lane_sum_def, lane_places, total, weighed}
use Rattle.seal.proofs.TotalLaws.{sums-total, sums-weighed, alike}
use Rattle.seal.proofs.WordSums.{S, T, eight, steps, placed, next-byte, eight-more}
use Rattle.seal.proofs.LaneTotals.{Lanes, lanes-sum, lanes-places, lanes_low, lanes-less, pairs-lanes, odds-lanes}

-- Two lists that differ only in the eight bytes from `at` on: the totals of all bytes up to those eight and j bytes after them.
module _ (k r : List ℕ) (at : ℕ) (before : take at r ≡ take at k) (behind : (i : ℕ) → at + 8 ≤ i → get_or r i 0 ≡ get_or k i 0) (same : length r ≡ length k) where
  word-moves : (j : ℕ) → at + (8 + j) ≤ length k → (S r (at + (8 + j)) + eight k at ≡ S k (at + (8 + j)) + eight r at)
      × (T r (at + (8 + j)) + (8 + j) * eight k at + placed r at ≡ T k (at + (8 + j)) + (8 + j) * eight r at + placed k at)
  word-moves zero h =
      let a = eight-more k at (at + 8) refl (omega arith) in
      let b = eight-more r at (at + 8) refl (omega arith) in
      let s : S r at ≡ S k at = ap total before in
      let t : T r at ≡ T k at = ap weighed before in
      (omega (arith, a.0, b.0), omega (arith, a.1, b.1))
  word-moves (suc j) h =
      let n : ℕ = at + (8 + j) in
      let e : at + (8 + suc j) ≡ suc n = omega arith in
      let ih = word-moves j (omega arith) in
      let c = behind n (omega arith) in
      let nk = next-byte k n (at + (8 + suc j)) e (omega arith) in
      let nr = next-byte r n (at + (8 + suc j)) e (omega arith) in
      (omega (arith, ih.0, c, nk.0, nr.0), omega (arith, ih.0, ih.1, c, nk.1, nr.1))

-- The remainder s of a total when bytes in it change from e to e' together: d is e' - e plus n times m.
moved-s : (m a b e e' s d n : ℕ) → b + e ≡ a + e' → d + e ≡ e' + n * m → s ≡ a % m → (s + d) % m ≡ b % m
moved-s m a b e e' s d n f o g =
    let c : a + d + 0 * m ≡ b + n * m = omega arith in
    ap (λ y. (y + d) % m) g ∙ mod-add-mod a m d ∙ alike m (a + d) b 0 n c

-- The same when they count w times, less their places, which change from p to p': q is p' - p plus i times m.
moved-t : (m a b w e e' p p' t d q n i : ℕ) → b + w * e + p' ≡ a + w * e' + p → d + e ≡ e' + n * m → q + p ≡ p' + i * m → t ≡ a % m → q ≤ w * d → (t + w * d - q) % m ≡ b % m
moved-t m a b w e e' p p' t d q n i f o v g l =
    let y : ℕ = w * d - q in
    let j : t + w * d - q ≡ t + y = omega arith in
    let c : a + y + i * m ≡ b + w * n * m = omega (arith, ap (w *◌) o) in
    ap (◌% m) j ∙ ap (λ u. (u + y) % m) g ∙ mod-add-mod a m y ∙ alike m (a + y) b i (w * n) c

-- The lanes of the eight bytes from `at` on, those of r minus those of k, with 514 and 257 added to each: their sum, and their sum weighted by place.
module _ (k r : List ℕ) where
  abbrev pub pairs : ℕ → ℕ
  pairs at = pairs_at r at + 0x0202020202020202 - pairs_at k at

  abbrev pub odds : ℕ → ℕ
  odds at = odds_at r at + 0x0101010101010101 - odds_at k at

module _ (k r : List ℕ) (at : ℕ) (small : Bytes k) (small' : Bytes r) where
  changed-pairs : Lanes 1024 (pairs k r at) (eight r at + 2056 - eight k at) (steps r at + 3084 - steps k at)
  changed-pairs = lanes-less (pairs-lanes r small' at) (pairs-lanes k small at) 514 (omega arith)

  weight-over : lane_sum_def (pairs k r at) + eight k at ≡ eight r at + 8 * 257
  weight-over = omega (arith, lanes-sum changed-pairs (omega arith), lanes_low (pairs-lanes k small at))

  places-over : lane_places (pairs k r at) (odds k r at) + placed k at ≡ placed r at + 28 * 257
  places-over =
      let odd_is = lanes-sum (lanes-less (odds-lanes r small' at) (odds-lanes k small at) 257 (omega arith)) (omega arith) in
      omega (arith, lanes-places changed-pairs (omega arith) _ _ odd_is, lanes_low (pairs-lanes k small at), lanes_low (odds-lanes k small at))

  -- a place in a word is at most 7
  pub places-low : lane_places (pairs k r at) (odds k r at) ≤ 8 * lane_sum_def (pairs k r at)
  places-low =
      let few : 8 * eight k at ≤ placed k at + 9252 =
      omega (arith, small at, small (at + 1), small (at + 2), small (at + 3), small (at + 4), small (at + 5), small (at + 6), small (at + 7)) in
      enough _ _ (eight k at) (placed k at) (eight r at) (placed r at) weight-over places-over few (omega arith) where
        enough : (d q e p e' p' : ℕ) → d + e ≡ e' + 8 * 257 → q + p ≡ p' + 28 * 257 → 8 * e ≤ p + 9252 → p' ≤ 8 * e' → q ≤ 8 * d
        enough d q e p e' p' f g h i = omega arith

-- Numbers whose remainders are the sums of a block's body.
pub record Leaves (f : Form) (k : List ℕ) (s t : ℕ) : Type 0 where
  pub s-is : s % f.modulus ≡ (sums f (take f.body_bytes k)).s
  pub t-is : t % f.modulus ≡ (sums f (take f.body_bytes k)).t

-- the body followed by those remainders is the sealed block
pub leaves-sealed : (f : Form) (k : List ℕ) (s t : ℕ) → Leaves f k s t → take f.body_bytes k ++ stored f (record { s = s % f.modulus; t = t % f.modulus }) ≡ reseal f k
leaves-sealed f k s t v = unfold reseal sealed in ap₂ (λ y z. take f.body_bytes k ++ stored f (record { s = y; t = z })) v.s-is v.t-is

-- Putting x into the eight bytes of block k's body from `at` on gives r: numbers whose remainders are the sums of r, from the sums of k.
module _ (k r : List ℕ) (at x : ℕ) (h : length k ≡ block_bytes) (i : at + 8 ≤ 508) (put : r ≡ put_word_def k at x) where
  begins : take at r ≡ take at k
  unfolding put_word_def
  begins =
      let n : length (take at k) ≡ at = length-take-le at k (omega arith) in
      ap (take at) put ∙ take-append-le at (take at k ++ bytes 8 x) (drop (at + 8) k) (simp length-append (omega arith)) ∙ take_at (take at k) (bytes 8 x) at n

  ends : (p : ℕ) → at + 8 ≤ p → get_or r p 0 ≡ get_or k p 0
  ends p l = ap (λ y. get_or y p 0) put ∙ put_word-other k at x (omega arith) p (inr l)

  body-moves : (S r 508 + eight k at ≡ S k 508 + eight r at) × (T r 508 + (508 - at) * eight k at + placed r at ≡ T k 508 + (508 - at) * eight r at + placed k at)
  body-moves =
      let e : at + (8 + (500 - at)) ≡ 508 = omega arith in
      let f : 8 + (500 - at) ≡ 508 - at = omega arith in
      rw (e, f) at (word-moves k r at begins ends (ap length put ∙ length-put_word k at x (omega arith)) (500 - at) (omega arith))

  module _ (small : Bytes k) (small' : Bytes r) where
    pub places-there : (d q : ℕ) → d ≡ lane_sum_def (pairs k r at) → q ≡ lane_places (pairs k r at) (odds k r at) → q ≤ (508 - at) * d
    places-there d q ed eq = rw (eq, ed) (le_trans (places-low k r at small small') (mul-le-mul_right {m = 8} {n = 508 - at} (lane_sum_def (pairs k r at)) (omega arith)))

    pub leaves-put : (s t d q : ℕ) → s ≡ (sums modulo257 (take 508 k)).s → t ≡ (sums modulo257 (take 508 k)).t → d ≡ lane_sum_def (pairs k r at) → q ≡ lane_places (pairs k r at) (odds k r at)
        → Leaves modulo257 r (s + d) (t + (508 - at) * d - q)
    leaves-put s t d q es et ed eq =
        let o : d + eight k at ≡ eight r at + 8 * 257 = rw ed (weight-over k r at small small') in
        let v : q + placed k at ≡ placed r at + 28 * 257 = rw eq (places-over k r at small small') in
        let l : q ≤ (508 - at) * d = places-there d q ed eq in
        record {
          s-is = moved-s 257 (S k 508) (S r 508) (eight k at) (eight r at) s d 8 body-moves.0 o (es ∙ sums-total modulo257 (take 508 k)) ∙ sym (sums-total modulo257 (take 508 r));
          t-is = moved-t 257 (T k 508) (T r 508) (508 - at) (eight k at) (eight r at) (placed k at) (placed r at) t d q 8 28 body-moves.1 o v (et ∙ sums-weighed modulo257 (take 508 k)) l ∙ sym (sums-weighed modulo257 (take 508 r));
        }
