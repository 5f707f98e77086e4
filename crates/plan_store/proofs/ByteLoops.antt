-- Bytes that are all zero, word by word.
use mathlib.Core.Path.{◌≡◌, refl, ap, ◌∙◌}
use mathlib.Core.Bool.{true, false}
use mathlib.Core.List.{List}
use Prim.Native.Nat.{ℕ, ◌+◌, ◌-◌, ◌*◌, ◌/◌, ◌^◌, ◌≤◌, ◌<◌}
use native.Mathlib.Omega.{arith}
use native.Mathlib.Decide.{dec_lt}
use borrow.Author.Tests.{eq-eqb, ne_eqb, eqb-true}
use lib.Bits.{bit_or}
use lib.Dec.{eqb}
use lib.ListN.{length, get_or}
use Rattle.logic.proofs.Below.{all-each, all-next, all-stop}
use Rattle.bitset.specs.Words.{Bytes, word_at}
use Rattle.bitset.proofs.ZeroBytes.{high_zero, zero_high}
use Rattle.sheet.specs.Masks.{zeros_at}
use Rattle.sheet.proofs.MaskLaws.{or-zero, zero_or}
use Rattle.sheet.proofs.ZeroLaws.{same_test, zeros-are}

-- bytes that are zero, one by one
pub zeros-each : (s : List ℕ) (at m : ℕ) → zeros_at s at m ≡ true → (j : ℕ) → j < m → get_or s (at + j) 0 ≡ 0
zeros-each s at m e j l = unfold zeros_at in eqb-true _ _ (all-each m (λ j. eqb (get_or s (at + j) 0) 0) e j l)

pub zeros-next : (s : List ℕ) (at m : ℕ) → zeros_at s at m ≡ true → get_or s (at + m) 0 ≡ 0 → zeros_at s at (m + 1) ≡ true
zeros-next s at m e z = unfold zeros_at in all-next _ m e (eq-eqb _ _ z)

-- one that is not
pub zeros-not : (s : List ℕ) (at m j : ℕ) → j < m → (get_or s (at + j) 0 ≡ 0 → ⊥) → zeros_at s at m ≡ false
zeros-not s at m j l h = unfold zeros_at in all-stop (λ j. eqb (get_or s (at + j) 0) 0) m j l (ne_eqb _ _ h)

-- the words so far, all together
pub record Zero (s : List ℕ) (at j all : ℕ) : Type 0 where
  pub none : all ≡ 0 → zeros_at s at (8 * j) ≡ true
  pub some : zeros_at s at (8 * j) ≡ true → all ≡ 0

module _ (s : List ℕ) (at : ℕ) where
  pub zero-none : Zero s at 0 0
  zero-none = unfold zeros_at in record { none = λ e. zeros-are s at (8 * 0) (λ j l. absurd (omega arith)); some = λ e. refl }

  pub zero_more : Bytes s → (j all : ℕ) → at + 8 * (j + 1) ≤ length s → Zero s at j all → Zero s at (j + 1) (bit_or all (word_at s (at + 8 * j)))
  zero_more small j all fits z =
      record {
        none = λ e. zeros-are s at (8 * (j + 1)) (λ i l. by e i l (dec_lt i (8 * j)));
        some = λ e. zero_or all (word_at s (at + 8 * j))
            (z.some (zeros-are s at (8 * j) (λ i l. zeros-each s at (8 * (j + 1)) e i (omega arith))))
            (omega (arith, zero_high s small (at + 8 * j) (omega arith) 0 (λ i k l. word e i l)));
      } where
        word : zeros_at s at (8 * (j + 1)) ≡ true → (i : ℕ) → i < 8 → get_or s (at + 8 * j + i) 0 ≡ 0
        word e i l = let q : at + 8 * j + i ≡ at + (8 * j + i) = omega arith in ap (λ p. get_or s p 0) q ∙ zeros-each s at (8 * (j + 1)) e (8 * j + i) (omega arith)

        by : bit_or all (word_at s (at + 8 * j)) ≡ 0 → (i : ℕ) → i < 8 * (j + 1) → Dec (i < 8 * j) → get_or s (at + i) 0 ≡ 0
        by e i l (yes k) = zeros-each s at (8 * j) (z.none (or-zero all (word_at s (at + 8 * j)) e).0) i k
        by e i l (no k) =
            let q : at + i ≡ at + 8 * j + (i - 8 * j) = omega arith in
            ap (λ p. get_or s p 0) q
            ∙ high_zero s small (at + 8 * j) (omega arith) 0 (ap (λ x. x / 256 ^ 0) (or-zero all (word_at s (at + 8 * j)) e).1) (i - 8 * j) (omega arith) (omega arith)

  pub zero_test : (j all : ℕ) → Zero s at j all → eqb all 0 ≡ zeros_at s at (8 * j)
  zero_test j all z = same_test (eqb all 0) (zeros_at s at (8 * j)) (λ e. z.none (eqb-true all 0 e)) (λ e. eq-eqb all 0 (z.some e))
