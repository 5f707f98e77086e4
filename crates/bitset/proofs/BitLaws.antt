-- Bit j of the results of the machine's operations.
use mathlib.Core.Path.{◌≡◌, refl, sym, ap, ap₂, ◌∙◌}
use mathlib.Core.Bool.{Bool, true, false, not, ◌&&◌, ◌||◌}
use mathlib.Core.Logic.{◌⊎◌, inl, inr}
use Prim.Native.Nat.{ℕ, suc, ◌+◌, ◌-◌, ◌*◌, ◌/◌, ◌%◌, ◌^◌, ◌≤◌, ◌<◌}
use native.Mathlib.Nat.{mod-lt, mul_assoc, add_comm}
use native.Mathlib.Omega.{arith}
use lib.Dec.{eqb, leb, ltb, lit<}
use lib.Pow.{pow-add, shr-shr, shl-shr}
use lib.Bits.{bit_and, bit_or, bit_xor, and_shr, or_shr, xor_shr, and_mod, or_mod, xor_mod, and_lt, or_lt, xor_lt, shifted_even}
use borrow.Author.Tests.{leb-true, leb-false, ltb-true, ltb-false}
use Rattle.bitset.specs.Words.{digit, member, combined}
use Rattle.bitset.proofs.SetLaws.{digit-bit, is-set_of, member-low}

pub below_or_not : (i n : ℕ) → (i < n) ⊎ (n ≤ i)
below_or_not i n = go (ltb i n) refl where
  go : (b : Bool) → ltb i n ≡ b → (i < n) ⊎ (n ≤ i)
  go true e = inl (ltb-true i n e)
  go false e = inr (ltb-false i n e)

bit-digit : (b : Bool) → eqb (digit b) 1 ≡ b
bit-digit true = refl
bit-digit false = refl

-- an operation that commutes with a shift and with the lowest digit works bit by bit, and so on words of 64 bits
module _ (op : ℕ → ℕ → ℕ) (f : Bool → Bool → Bool)
    (shifted : (a b k : ℕ) → op a b / 2 ^ k ≡ op (a / 2 ^ k) (b / 2 ^ k)) (lowest : (a b k : ℕ) → op a b % 2 ^ k ≡ op (a % 2 ^ k) (b % 2 ^ k))
    (small : (k a b : ℕ) → a < 2 ^ k → b < 2 ^ k → op a b < 2 ^ k) (one : (a b : Bool) → op (digit a) (digit b) ≡ digit (f a b)) where
  member-op : (x y j : ℕ) → member (op x y) j ≡ f (member x j) (member y j)
  unfolding member
  member-op x y j =
      let bit : (z : ℕ) → z / 2 ^ j % 2 ≡ digit (member z j) = λ z. sym (digit-bit (z / 2 ^ j % 2) (mod-lt (z / 2 ^ j) (lit< tt))) in
      ap (λ (z : ℕ). eqb z 1) (ap (◌% 2) (shifted x y j) ∙ lowest (x / 2 ^ j) (y / 2 ^ j) 1 ∙ ap₂ op (bit x) (bit y) ∙ one (member x j) (member y j)) ∙ bit-digit _

  words-op : (x y : ℕ) → x < 2 ^ 64 → y < 2 ^ 64 → op x y ≡ combined f x y
  words-op x y h l = is-set_of 64 (op x y) _ (small 64 x y h l) (λ i k. member-op x y i)

-- on two digits, by their four cases
digits : (op : ℕ → ℕ → ℕ) (f : Bool → Bool → Bool) → op 0 0 ≡ digit (f false false) → op 0 1 ≡ digit (f false true)
    → op 1 0 ≡ digit (f true false) → op 1 1 ≡ digit (f true true) → (a b : Bool) → op (digit a) (digit b) ≡ digit (f a b)
digits op f x y z w false false = x
digits op f x y z w false true = y
digits op f x y z w true false = z
digits op f x y z w true true = w

-- exclusive or
abbrev differ : Bool → Bool → Bool
differ false b = b
differ true b = not b

pub member-and : (x y j : ℕ) → member (bit_and x y) j ≡ (member x j && member y j)
member-and = member-op bit_and ◌&&◌ and_shr and_mod and_lt (digits bit_and ◌&&◌ refl refl refl refl)

pub member-or : (x y j : ℕ) → member (bit_or x y) j ≡ (member x j || member y j)
member-or = member-op bit_or ◌||◌ or_shr or_mod or_lt (digits bit_or ◌||◌ refl refl refl refl)

pub words-and : (x y : ℕ) → x < 2 ^ 64 → y < 2 ^ 64 → bit_and x y ≡ combined ◌&&◌ x y
words-and = words-op bit_and ◌&&◌ and_shr and_mod and_lt (digits bit_and ◌&&◌ refl refl refl refl)

pub words-or : (x y : ℕ) → x < 2 ^ 64 → y < 2 ^ 64 → bit_or x y ≡ combined ◌||◌ x y
words-or = words-op bit_or ◌||◌ or_shr or_mod or_lt (digits bit_or ◌||◌ refl refl refl refl)

pub words-minus : (x y : ℕ) → x < 2 ^ 64 → y < 2 ^ 64 → bit_and x (bit_xor x y) ≡ combined (λ a b. a && not b) x y
words-minus x y h l =
    let xor-bit = member-op bit_xor differ xor_shr xor_mod xor_lt (digits bit_xor differ refl refl refl refl) x y in
    is-set_of 64 _ _ (and_lt 64 x _ h (xor_lt 64 x y h l))
    (λ i k. member-and x (bit_xor x y) i ∙ ap (member x i &&◌) (xor-bit i) ∙ and-differ (member x i) (member y i)) where
      and-differ : (a b : Bool) → (a && differ a b) ≡ (a && not b)
      and-differ false b = refl
      and-differ true b = refl

pub member-shr : (x s j : ℕ) → member (x / 2 ^ s) j ≡ member x (j + s)
member-shr x s j = unfold member in ap (λ (z : ℕ). eqb (z % 2) 1) (shr-shr x s j) ∙ ap (λ (k : ℕ). eqb (x / 2 ^ k % 2) 1) (add_comm s j)

moved_up : (x s k : ℕ) → member (x * 2 ^ s) (s + k) ≡ member x k
moved_up x s k = unfold member in ap (λ (z : ℕ). eqb (z % 2) 1) (sym (shr-shr (x * 2 ^ s) s k)) ∙ ap (λ (z : ℕ). eqb (z / 2 ^ k % 2) 1) (shl-shr x s)

none_below : (x k j : ℕ) → member (x * 2 ^ (suc k + j)) j ≡ false
unfolding member
none_below x k j =
    ap (λ (z : ℕ). eqb (x * z / 2 ^ j % 2) 1) (pow-add 2 (suc k) j)
    ∙ ap (λ (z : ℕ). eqb (z / 2 ^ j % 2) 1) (sym (mul_assoc x (2 ^ suc k) (2 ^ j)))
    ∙ ap (λ (z : ℕ). eqb (z % 2) 1) (shl-shr (x * 2 ^ suc k) j)
    ∙ ap (λ (z : ℕ). eqb z 1) (shifted_even x k)

pub member-shl : (x s j : ℕ) → j < 64 → member (x * 2 ^ s % 2 ^ 64) j ≡ (leb s j && member x (j - s))
member-shl x s j h = member-low 64 j (x * 2 ^ s) h ∙ go (leb s j) refl where
  go : (b : Bool) → leb s j ≡ b → member (x * 2 ^ s) j ≡ (b && member x (j - s))
  go true e = let l : s ≤ j = leb-true s j e in let f : j ≡ s + (j - s) = omega arith in ap (member (x * 2 ^ s)) f ∙ moved_up x s (j - s)
  go false e = let l : j < s = leb-false s j e in let f : s ≡ suc (s - suc j) + j = omega arith in ap (λ (k : ℕ). member (x * 2 ^ k) j) f ∙ none_below x (s - suc j) j
