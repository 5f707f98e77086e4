-- The bytes of a word as lanes: what the mask leaves.
use mathlib.Core.Path.{◌≡◌, refl, sym, ap, ◌∙◌}
use mathlib.Core.List.{List}
use Prim.Native.Nat.{ℕ, ◌+◌, ◌*◌, ◌/◌, ◌%◌, ◌≤◌, ◌<◌}
use native.Mathlib.Omega.{arith}
use lib.Bits.{bit_and, and_block, and_mask}
use lib.Dec.{lit<}
use lib.ListN.{length, get_or}
use Rattle.bitset.specs.Words.{Bytes, word_at}
use Rattle.bitset.proofs.WordLaws.{sum_of_bytes, loaded}
use Rattle.seal.specs.Lanes.{pack, odds_at, pairs_at}

-- a mask of 00FF for each two bytes leaves the first of the two
step : (a c r : ℕ) → r < 65536 → bit_and (a * 65536 + r) (c * 65536 + 255) ≡ bit_and a c * 65536 + r % 256
step a c r h = and_block 16 a c r 255 h (lit< tt) ∙ ap (λ (y : ℕ). bit_and a c * 65536 + y) (and_mask r 8)

masked : (u0 u1 u2 u3 : ℕ) → u0 < 65536 → u1 < 65536 → u2 < 65536
    → bit_and (((u3 * 65536 + u2) * 65536 + u1) * 65536 + u0) 0x00FF00FF00FF00FF ≡ ((u3 % 256 * 65536 + u2 % 256) * 65536 + u1 % 256) * 65536 + u0 % 256
masked u0 u1 u2 u3 h0 h1 h2 =
    step ((u3 * 65536 + u2) * 65536 + u1) 0x00FF00FF00FF u0 h0
    ∙ ap (λ (y : ℕ). y * 65536 + u0 % 256)
    (step (u3 * 65536 + u2) 0x00FF00FF u1 h1
    ∙ ap (λ (y : ℕ). y * 65536 + u1 % 256) (step u3 0x00FF u2 h2 ∙ ap (λ (y : ℕ). y * 65536 + u2 % 256) (and_mask u3 8)))

-- eight bytes as one number
abbrev word : ℕ → ℕ → ℕ → ℕ → ℕ → ℕ → ℕ → ℕ → ℕ
word b0 b1 b2 b3 b4 b5 b6 b7 = b0 + b1 * 0x100 + b2 * 0x10000 + b3 * 0x1000000 + (b4 + b5 * 0x100 + b6 * 0x10000 + b7 * 0x1000000) * 0x100000000

module _ (b0 b1 b2 b3 b4 b5 b6 b7 : ℕ) (h0 : b0 < 256) (h1 : b1 < 256) (h2 : b2 < 256) (h3 : b3 < 256) (h4 : b4 < 256) (h5 : b5 < 256) (h6 : b6 < 256) (h7 : b7 < 256) where
  even_lanes : bit_and (word b0 b1 b2 b3 b4 b5 b6 b7) 0x00FF00FF00FF00FF ≡ pack b0 b2 b4 b6
  unfolding pack
  even_lanes =
      let e : word b0 b1 b2 b3 b4 b5 b6 b7 ≡ (((b6 + b7 * 256) * 65536 + (b4 + b5 * 256)) * 65536 + (b2 + b3 * 256)) * 65536 + (b0 + b1 * 256) = omega arith in
      let low : ((b0 + b1 * 256) % 256 ≡ b0) × ((b2 + b3 * 256) % 256 ≡ b2) × ((b4 + b5 * 256) % 256 ≡ b4) × ((b6 + b7 * 256) % 256 ≡ b6) = omega arith in
      ap (λ (y : ℕ). bit_and y 0x00FF00FF00FF00FF) e ∙ masked (b0 + b1 * 256) (b2 + b3 * 256) (b4 + b5 * 256) (b6 + b7 * 256) (omega arith) (omega arith) (omega arith)
      ∙ omega (arith, low)

  odd_lanes : bit_and (word b0 b1 b2 b3 b4 b5 b6 b7 / 0x100) 0x00FF00FF00FF00FF ≡ pack b1 b3 b5 b7
  unfolding pack
  odd_lanes =
      let e : word b0 b1 b2 b3 b4 b5 b6 b7 / 0x100 ≡ ((b7 * 65536 + (b5 + b6 * 256)) * 65536 + (b3 + b4 * 256)) * 65536 + (b1 + b2 * 256) = omega arith in
      let low : ((b1 + b2 * 256) % 256 ≡ b1) × ((b3 + b4 * 256) % 256 ≡ b3) × ((b5 + b6 * 256) % 256 ≡ b5) × (b7 % 256 ≡ b7) = omega arith in
      ap (λ (y : ℕ). bit_and y 0x00FF00FF00FF00FF) e ∙ masked (b1 + b2 * 256) (b3 + b4 * 256) (b5 + b6 * 256) b7 (omega arith) (omega arith) (omega arith)
      ∙ omega (arith, low)

-- the word w at a place of a list
module _ (l : List ℕ) (small : Bytes l) (at : ℕ) (h : at + 8 ≤ length l) (w : ℕ) (e : w ≡ word_at l at) where
  word-is : w ≡ word (get_or l at 0) (get_or l (at + 1) 0) (get_or l (at + 2) 0) (get_or l (at + 3) 0) (get_or l (at + 4) 0) (get_or l (at + 5) 0) (get_or l (at + 6) 0) (get_or l (at + 7) 0)
  word-is = unfold sum_of_bytes in e ∙ sym (loaded l at _ h refl) ∙ omega arith

  pub odds-are : bit_and (w / 0x100) 0x00FF00FF00FF00FF ≡ odds_at l at
  unfolding odds_at
  odds-are = ap (λ (y : ℕ). bit_and (y / 0x100) 0x00FF00FF00FF00FF) word-is ∙ odd_lanes _ _ _ _ _ _ _ _ (small at) (small (at + 1)) (small (at + 2)) (small (at + 3)) (small (at + 4)) (small (at + 5)) (small (at + 6)) (small (at + 7))

  pub pairs-are : bit_and w 0x00FF00FF00FF00FF + bit_and (w / 0x100) 0x00FF00FF00FF00FF ≡ pairs_at l at
  unfolding odds_at pairs_at pack
  pairs-are = omega (arith, odds-are, ap (λ (y : ℕ). bit_and y 0x00FF00FF00FF00FF) word-is, even_lanes _ _ _ _ _ _ _ _ (small at) (small (at + 1)) (small (at + 2)) (small (at + 3)) (small (at + 4)) (small (at + 5)) (small (at + 6)) (small (at + 7)))
