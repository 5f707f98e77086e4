-- The totals of a block's 512 bytes from the lanes of eight parts of 8 words.
use mathlib.Core.Path.{◌≡◌, refl, sym, ap, ap₂, ◌∙◌}
use mathlib.Core.List.{List, [], ◌∷◌}
use Prim.Native.Nat.{ℕ, suc, ◌+◌, ◌-◌, ◌*◌, ◌/◌, ◌%◌, ◌≤◌, ◌<◌}
use native.Mathlib.Nat.{add-mul-div_right, div-eq_of_lt}
use native.Mathlib.Omega.{arith}
use lib.ListN.{length, get_or}
use lib.Seq.{take_all}
use Rattle.bitset.specs.Words.{Bytes}
use Rattle.seal.specs.Seal.{block_bytes}
use Rattle.seal.specs.Lanes.{pack, odds_at, pairs_at, four_at, before_at, lane_sum_def, lane_places, total, weighed}
use Rattle.seal.proofs.WordSums.{S, T, eight, steps, odd, eight-more}

-- a number of two parts: what is above the lowest bits, and those bits
above : (d y r : ℕ) → r < d → (r + y * d) / d ≡ y
above d y r h = add-mul-div_right r y (omega arith) ∙ ap (◌+ y) (div-eq_of_lt h) ∙ omega arith

lowest : (y r : ℕ) → r < 65536 → (r + y * 65536) % 0x10000 ≡ r
lowest y r h = omega arith

-- four lanes: each of them, their sum, and their sum weighted by place
module _ (a b c d : ℕ) (h : a < 65536) (k : b < 65536) (j : c < 65536) where
  lane-0 : pack a b c d % 0x10000 ≡ a
  lane-0 = unfold pack in let e : pack a b c d ≡ a + (b + c * 65536 + d * 4294967296) * 65536 = omega arith in ap (◌% 0x10000) e ∙ lowest _ a h

  lane-1 : pack a b c d / 0x10000 % 0x10000 ≡ b
  unfolding pack
  lane-1 =
      let e : pack a b c d ≡ a + (b + (c + d * 65536) * 65536) * 65536 = omega arith in
      ap (λ y. y / 0x10000 % 0x10000) e ∙ ap (◌% 0x10000) (above 65536 _ a h) ∙ lowest _ b k

  halved : pack a b c d / 0x100000000 ≡ c + d * 65536
  unfolding pack
  halved = let e : pack a b c d ≡ a + b * 65536 + (c + d * 65536) * 4294967296 = omega arith in ap (◌/ 0x100000000) e ∙ above 4294967296 _ (a + b * 65536) (omega arith)

  lane-3 : pack a b c d / 0x1000000000000 ≡ d
  unfolding pack
  lane-3 = let e : pack a b c d ≡ a + b * 65536 + c * 4294967296 + d * 281474976710656 = omega arith in ap (◌/ 0x1000000000000) e ∙ above 281474976710656 d (a + b * 65536 + c * 4294967296) (omega arith)

  lane-2 : pack a b c d / 0x100000000 % 0x10000 ≡ c
  lane-2 = ap (◌% 0x10000) halved ∙ lowest d c j

  lane-sum : lane_sum_def (pack a b c d) ≡ a + b + c + d
  lane-sum = ap₂ ◌+◌ (ap₂ ◌+◌ (ap₂ ◌+◌ lane-0 lane-1) lane-2) lane-3

  lane-places : (odds o : ℕ) → lane_sum_def odds ≡ o → lane_places (pack a b c d) odds ≡ o + 2 * (b + 2 * c + 3 * d)
  lane-places odds o e = ap₂ (λ x y. x + 2 * y) e (ap₂ ◌+◌ (ap₂ (λ x y. x + 2 * y) lane-1 lane-2) (ap (3 *◌) lane-3))

  -- the sum of a word's lanes as one number, in the lowest 16 bits
  four-added : a + c < 65536 → a + b + c + d < 65536 → (x : ℕ) → x ≡ pack a b c d → (x + x / 0x100000000 + (x + x / 0x100000000) / 0x10000) % 0x10000 ≡ a + b + c + d
  unfolding pack
  four-added low few x x-is =
      let e : x / 0x100000000 ≡ c + d * 65536 = ap (◌/ 0x100000000) x-is ∙ halved in
      let halves : x + x / 0x100000000 ≡ a + c + (b + d + c * 65536 + d * 4294967296) * 65536 = ap₂ ◌+◌ x-is e ∙ omega arith in
      let f : (x + x / 0x100000000) / 0x10000 ≡ b + d + c * 65536 + d * 4294967296 = ap (◌/ 0x10000) halves ∙ above 65536 _ (a + c) low in
      let g : a + c + (b + d + c * 65536 + d * 4294967296) * 65536 + (b + d + c * 65536 + d * 4294967296) ≡ a + b + c + d + (b + d + c * 65537 + d * 4295032832) * 65536 = omega arith in
      ap (◌% 0x10000) (ap₂ ◌+◌ halves f ∙ g) ∙ lowest _ (a + b + c + d) few

-- x is four lanes of at most m each: their sum is s, and the second plus twice the third plus three times the fourth is t
pub record Lanes (m x s t : ℕ) : Type 0 where
  lane : ℕ → ℕ
  is : x ≡ pack (lane 0) (lane 1) (lane 2) (lane 3)
  low : (lane 0 ≤ m) × (lane 1 ≤ m) × (lane 2 ≤ m) × (lane 3 ≤ m)
  sums : (s ≡ lane 0 + lane 1 + lane 2 + lane 3) × (t ≡ lane 1 + 2 * lane 2 + 3 * lane 3)

module _ {m x s t : ℕ} (v : Lanes m x s t) where
  pub lanes-sum : m < 65536 → lane_sum_def x ≡ s
  lanes-sum h = ap lane_sum_def v.is ∙ lane-sum (v.lane 0) (v.lane 1) (v.lane 2) (v.lane 3) (omega arith) (omega arith) (omega arith) ∙ sym v.sums.0

  pub lanes-places : m < 65536 → (y u : ℕ) → lane_sum_def y ≡ u → lane_places x y ≡ u + 2 * t
  lanes-places h y u e =
      ap (λ z. lane_places z y) v.is ∙ lane-places (v.lane 0) (v.lane 1) (v.lane 2) (v.lane 3) (omega arith) (omega arith) (omega arith) y u e
      ∙ ap (λ z. u + 2 * z) (sym v.sums.1)

  lanes-one : 4 * m < 65536 → (x + x / 0x100000000 + (x + x / 0x100000000) / 0x10000) % 0x10000 ≡ s
  lanes-one h =
      four-added (v.lane 0) (v.lane 1) (v.lane 2) (v.lane 3) (omega arith) (omega arith) (omega arith) (omega arith) (omega arith) x v.is ∙ sym v.sums.0

  pub lanes_low : (s ≤ 4 * m) × (t ≤ 6 * m)
  lanes_low = omega (arith, v.sums)

  module _ {n y u w : ℕ} (o : Lanes n y u w) where
    pub lanes-add : (k : ℕ) → m + n ≤ k → Lanes k (x + y) (s + u) (t + w)
    unfolding pack
    lanes-add k h = record { lane = λ i. v.lane i + o.lane i; is = omega arith; low = omega arith; sums = omega arith }

    -- with k added to each lane, so that none is below 0
    pub lanes-less : (k : ℕ) → n ≤ k → Lanes (m + k) (x + k * 0x0001000100010001 - y) (s + 4 * k - u) (t + 6 * k - w)
    unfolding pack
    lanes-less k h = record { lane = λ i. v.lane i + k - o.lane i; is = omega arith; low = omega arith; sums = omega arith }

    -- three times one, twice another, and a third
    lanes-ahead : {z q r : ℕ} → Lanes n z q r → (k : ℕ) → 3 * m + 3 * n ≤ k → Lanes k (3 * x + 2 * y + z) (3 * s + 2 * u + q) (3 * t + 2 * w + r)
    unfolding pack
    lanes-ahead p k h = record { lane = λ i. 3 * v.lane i + 2 * o.lane i + p.lane i; is = omega arith; low = omega arith; sums = omega arith }

-- whatever the sums
abbrev Laned : ℕ → ℕ → Type 0
Laned m x = (s : ℕ) × (t : ℕ) × Lanes m x s t

no-lanes : Lanes 0 0 0 0
no-lanes = unfold pack in record { lane = λ i. 0; is = refl; low = omega arith; sums = omega arith }

abbrev lanes_of : ℕ → ℕ → ℕ → ℕ → ℕ → ℕ
lanes_of a b c d i = get_or (a ∷ b ∷ c ∷ d ∷ []) i 0

abbrev odd_steps : List ℕ → ℕ → ℕ
odd_steps l at = get_or l (at + 3) 0 + 2 * get_or l (at + 5) 0 + 3 * get_or l (at + 7) 0

-- a quantity of words, each counted as often as words of the four follow it
abbrev ahead : (List ℕ → ℕ → ℕ) → List ℕ → ℕ → ℕ
ahead f l at = 3 * f l at + 2 * f l (at + 64) + f l (at + 128)

module _ (l : List ℕ) (small : Bytes l) where
  -- the lanes of one word, of four and of eight
  pub pairs-lanes : (at : ℕ) → Lanes 510 (pairs_at l at) (eight l at) (steps l at)
  unfolding pairs_at
  pairs-lanes at =
      let two : (p q : ℕ) → get_or l p 0 + get_or l q 0 ≤ 510 = λ p q. omega (arith, small p, small q) in
      record {
        lane = lanes_of (get_or l at 0 + get_or l (at + 1) 0) (get_or l (at + 2) 0 + get_or l (at + 3) 0) (get_or l (at + 4) 0 + get_or l (at + 5) 0) (get_or l (at + 6) 0 + get_or l (at + 7) 0);
        is = refl;
        low = (two at (at + 1), two (at + 2) (at + 3), two (at + 4) (at + 5), two (at + 6) (at + 7));
        sums = (refl, refl);
      }

  pub odds-lanes : (at : ℕ) → Lanes 255 (odds_at l at) (odd l at) (odd_steps l at)
  unfolding odds_at
  odds-lanes at =
      let one : (p : ℕ) → get_or l p 0 ≤ 255 = λ p. omega (arith, small p) in
      let lane = lanes_of (get_or l (at + 1) 0) (get_or l (at + 3) 0) (get_or l (at + 5) 0) (get_or l (at + 7) 0) in
      record { lane = lane; is = refl; low = (one (at + 1), one (at + 3), one (at + 5), one (at + 7)); sums = (refl, refl) }

  module _ (m : ℕ) (f g h : List ℕ → ℕ → ℕ) (v : (at : ℕ) → Lanes m (f l at) (g l at) (h l at)) where
    lanes-four : (at : ℕ) → Lanes (4 * m) (four_at f l at) (four_at g l at) (four_at h l at)
    lanes-four at = lanes-add (lanes-add (lanes-add (v at) (v (at + 64)) (2 * m) (omega arith)) (v (at + 128)) (3 * m) (omega arith)) (v (at + 192)) (4 * m) (omega arith)

  -- the words of all eight parts, as the code adds them
  pub across-is : (i x : ℕ) → x ≡ four_at pairs_at l (8 * i) + four_at pairs_at l (8 * i + 256)
      → (x + x / 0x100000000 + (x + x / 0x100000000) / 0x10000) % 0x10000 ≡ four_at eight l (8 * i) + four_at eight l (8 * i + 256)
  across-is i x e = let word = lanes-four 510 pairs_at eight steps pairs-lanes in rw e (lanes-one (lanes-add (word (8 * i)) (word (8 * i + 256)) 4080 (omega arith)) (omega arith))

  -- four words further on, from `at` to q
  four-more : (at q : ℕ) → q ≡ at + 8 → at + 200 ≤ length l → (four_at S l q ≡ four_at S l at + four_at eight l at) × (ahead S l q ≡ ahead S l at + ahead eight l at)
      × (four_at T l q + (four_at odd l at + 2 * four_at steps l at) ≡ four_at T l at + 8 * four_at S l at + 8 * four_at eight l at)
  four-more at q e h =
      let w0 = eight-more l at q e (omega arith) in
      let w1 = eight-more l (at + 64) (q + 64) (omega arith) (omega arith) in
      let w2 = eight-more l (at + 128) (q + 128) (omega arith) (omega arith) in
      let w3 = eight-more l (at + 192) (q + 192) (omega arith) (omega arith) in
      (omega (arith, w0.0, w1.0, w2.0, w3.0), omega (arith, w0.0, w1.0, w2.0), omega (arith, w0.1, w1.1, w2.1, w3.1))

-- one more word of each part: what it adds to the totals, and to those in which word j of 8 counts 8 - j times
onward : (q q' p p' x x' p0 s : ℕ) → q ≡ p + x → q' ≡ p' + x' → p + p' ≡ p0 + s → q + q' ≡ p0 + (s + (x + x'))
onward q q' p p' x x' p0 s e f g = omega arith

weigh : (q q' b b' r r' e e' o k o' k' a a' x s u t v w j c d z : ℕ) → q + (o + 2 * k) ≡ b + 8 * r + 8 * e → q' + (o' + 2 * k') ≡ b' + 8 * r' + 8 * e' → r ≡ a + s → r' ≡ a' + u
    → b + b' + (x + 2 * (t + v)) + 8 * (suc w * (s + u)) ≡ c + d + 8 * (j * (a + a')) + 8 * z
    → q + q' + (x + (o + o') + 2 * (t + k + (v + k'))) + 8 * (w * (s + e + (u + e'))) ≡ c + d + 8 * (suc j * (a + a')) + 8 * (z + (e + e') * suc w)
weigh q q' b b' r r' e e' o k o' k' a a' x s u t v w j c d z f g h i l = omega arith

-- What the code holds after j words of each part: four lanes each, and what they say about the totals so far.
pub record Counted (l : List ℕ) (a b before odds z j : ℕ) : Type 0 where
  low : Laned (2040 * j) a
  high : Laned (2040 * j) b
  front : Laned (6120 * j) before
  odd-bytes : Laned (2040 * j) odds
  low-is : four_at S l (8 * j) ≡ four_at S l 0 + low.0
  high_is : four_at S l (8 * j + 256) ≡ four_at S l 256 + high.0
  front-is : ahead S l (8 * j) + ahead S l (8 * j + 256) ≡ ahead S l 0 + ahead S l 256 + front.0
  weighed-is : four_at T l (8 * j) + four_at T l (8 * j + 256) + (odd-bytes.0 + 2 * (low.1 + high.1)) + 8 * ((8 - j) * (low.0 + high.0))
      ≡ four_at T l 0 + four_at T l 256 + 8 * (j * (four_at S l 0 + four_at S l 256)) + 8 * z

pub counted_none : (l : List ℕ) → Counted l 0 0 0 0 0 0
counted_none l =
    let none : Laned 0 0 = (0, 0, no-lanes) in
    record { low = none; high = none; front = none; odd-bytes = none; low-is = omega arith; high_is = omega arith; front-is = omega arith; weighed-is = omega arith }

module _ (l : List ℕ) (small : Bytes l) (long : length l ≡ block_bytes) {a b before odds z j : ℕ} (c : Counted l a b before odds z j) where
  pub counted-more : j < 8 → (x x' y y' r r' e : ℕ) → x ≡ four_at pairs_at l (8 * j) → x' ≡ four_at pairs_at l (8 * j + 256) → y ≡ before_at l (8 * j) → y' ≡ before_at l (8 * j + 256)
      → r ≡ four_at odds_at l (8 * j) → r' ≡ four_at odds_at l (8 * j + 256) → e ≡ four_at eight l (8 * j) + four_at eight l (8 * j + 256)
      → Counted l (a + x) (b + x') (before + (y + y')) (odds + (r + r')) (z + e * (8 - j)) (suc j)
  counted-more h x x' y y' r r' e i i' k k' q q' d =
      let word = lanes-four l small 510 pairs_at eight steps (pairs-lanes l small) in
      let odd-word = lanes-four l small 255 odds_at odd odd_steps (odds-lanes l small) in
      let g = four-more l small (8 * j) (8 * suc j) (omega arith) (omega arith) in
      let f = four-more l small (8 * j + 256) (8 * suc j + 256) (omega arith) (omega arith) in
      rw (i, i', k, k', q, q', d)
      (record {
        low = (_, _, lanes-add c.low.2 (word (8 * j)) _ (omega arith));
        high = (_, _, lanes-add c.high.2 (word (8 * j + 256)) _ (omega arith));
        front = (_, _, lanes-add c.front.2 (lanes-add (front-lanes (8 * j)) (front-lanes (8 * j + 256)) 6120 (omega arith)) _ (omega arith));
        odd-bytes = (_, _, lanes-add c.odd-bytes.2 (lanes-add (odd-word (8 * j)) (odd-word (8 * j + 256)) 2040 (omega arith)) _ (omega arith));
        low-is = omega (arith, g.0, c.low-is);
        high_is = omega (arith, f.0, c.high_is);
        front-is = onward _ _ _ _ _ _ _ _ g.1 f.1 c.front-is;
        weighed-is = rw (counts.0, counts.1) (weigh _ _ _ _ _ _ _ _ _ _ _ _ _ _ _ _ _ _ _ (7 - j) j _ _ z g.2 f.2 c.low-is c.high_is (rw counts.0 at c.weighed-is));
      }) where
        front-lanes : (at : ℕ) → Lanes 3060 (before_at l at) (ahead eight l at) (ahead steps l at)
        front-lanes at = lanes-ahead (pairs-lanes l small at) (pairs-lanes l small (at + 64)) (pairs-lanes l small (at + 128)) 3060 (omega arith)

        counts : (8 - j ≡ suc (7 - j)) × (8 - suc j ≡ 7 - j)
        counts = omega arith

-- and after all eight
pub counted-all : (l : List ℕ) → length l ≡ block_bytes → {a b before odds z : ℕ} → Counted l a b before odds z 8
    → (lane_sum_def (a + b) ≡ total l) × (8 * (z + 8 * (lane_sum_def before + 4 * lane_sum_def a)) ≡ weighed l + lane_places (a + b) odds)
unfolding total weighed
counted-all l long {z = z} c =
    let all = lanes-add c.low.2 c.high.2 32640 (omega arith) in
    let whole = take_all 512 l (omega arith) in
    let places = lanes-places all (omega arith) _ _ (lanes-sum c.odd-bytes.2 (omega arith)) in (
      omega (arith, lanes-sum all (omega arith), c.low-is, c.high_is, ap total whole),
      ap₂ (λ x y. 8 * (z + 8 * (x + 4 * y))) (lanes-sum c.front.2 (omega arith)) (lanes-sum c.low.2 (omega arith))
          ∙ settle _ _ _ _ _ _ _ _ _ _ _ _ _ _ _ _ _ _ _ z c.low-is c.front-is c.weighed-is ∙ ap₂ ◌+◌ (ap weighed whole) (sym places),
    ) where
      settle : (b c d e f g h p q r t u v w x y i j k z : ℕ) → b + c + d + e ≡ 0 + b + c + d + i → 3 * b + 2 * c + d + (3 * f + 2 * g + h) ≡ 3 * 0 + 2 * b + c + (3 * e + 2 * f + g) + j
          → p + q + r + t + (u + v + w + x) + k + 8 * (0 * y) ≡ 0 + p + q + r + (t + u + v + w) + 8 * (8 * (0 + b + c + d + (e + f + g + h))) + 8 * z → 8 * (z + 8 * (j + 4 * i)) ≡ x + k
      settle b c d e f g h p q r t u v w x y i j k z l m n = omega arith
