-- Some bytes of a word are zero exactly when its remainder or quotient by a power of 256 is.
use mathlib.Core.Path.{◌≡◌, refl, sym, ap, ap₂, ◌∙◌}
use mathlib.Core.List.{List, [], ◌∷◌}
use Prim.Native.Nat.{ℕ, zero, suc, ◌+◌, ◌-◌, ◌*◌, ◌/◌, ◌%◌, ◌^◌, ◌≤◌, ◌<◌}
use native.Mathlib.Nat.{pow-suc, pow-succ', mod-one, mod-eq_of_lt, div-eq_of_lt, div-div-eq-div-mul}
use native.Mathlib.Omega.{arith}
use lib.Arith.{mod-mul}
use lib.Dec.{lit<}
use lib.ListN.{length, get_or, take, drop, length-drop}
use lib.Seq.{get_or-take, get_or-drop, length-take-le}
use Rattle.bitset.specs.Words.{Bytes, number_of, word_at}
use Rattle.bitset.proofs.WordLaws.{positive, get_d-eight, part_small}

number-zero : (l : List ℕ) → number_of l ≡ 0 → (j : ℕ) → get_or l j 0 ≡ 0
unfolding number_of
number-zero [] e j = refl
number-zero (b ∷ l) e zero = omega arith
number-zero (b ∷ l) e (suc j) = number-zero l (omega arith) j

zero_number : (l : List ℕ) → ((j : ℕ) → j < length l → get_or l j 0 ≡ 0) → number_of l ≡ 0
unfolding number_of
zero_number [] z = refl
zero_number (b ∷ l) z = omega (arith, z 0 (omega arith), zero_number l (λ j h. z (suc j) (omega arith)))

low : (l : List ℕ) → Bytes l → (m : ℕ) → number_of l % 256 ^ m ≡ number_of (take m l)
unfolding number_of
low l small zero = mod-one (number_of l)
low [] small (suc m) = mod-eq_of_lt (positive (suc m))
low (b ∷ l) small (suc m) =
    let byte : b < 256 = small 0 in
    let front : (b + 256 * number_of l) / 256 ≡ number_of l = omega arith in
    let back : (b + 256 * number_of l) % 256 ≡ b = omega arith in
    ap ((b + 256 * number_of l) %◌) (pow-suc 256 m) ∙ mod-mul (b + 256 * number_of l) {m = 256 ^ m} {c = 256} (positive m) (lit< tt)
    ∙ ap₂ (λ (x y : ℕ). x % 256 ^ m * 256 + y) front back ∙ omega (arith, low l (λ j. small (suc j)) m)

high : (l : List ℕ) → Bytes l → (m : ℕ) → number_of l / 256 ^ m ≡ number_of (drop m l)
unfolding number_of
high l small zero = omega arith
high [] small (suc m) = div-eq_of_lt (positive (suc m))
high (b ∷ l) small (suc m) =
    let byte : b < 256 = small 0 in
    let front : (b + 256 * number_of l) / 256 ≡ number_of l = omega arith in
    ap ((b + 256 * number_of l) /◌) (pow-succ' 256 m) ∙ sym (div-div-eq-div-mul (b + 256 * number_of l) 256 (256 ^ m)) ∙ ap (◌/ 256 ^ m) front ∙ high l (λ j. small (suc j)) m

-- the 8 bytes of a word
module _ (l : List ℕ) (small : Bytes l) (at : ℕ) (h : at + 8 ≤ length l) where
  abbrev eight : List ℕ
  eight = take 8 (drop at l)

  length-eight : length eight ≡ 8
  length-eight = length-take-le 8 (drop at l) (omega (arith, length-drop at l))

  -- those from the m-th on,
  pub high_zero : (m : ℕ) → word_at l at / 256 ^ m ≡ 0 → (j : ℕ) → m ≤ j → j < 8 → get_or l (at + j) 0 ≡ 0
  unfolding word_at
  high_zero m e j k u =
      let i : m + (j - m) ≡ j = omega arith in
      sym (get_d-eight l at j u) ∙ ap (λ x. get_or eight x 0) (sym i) ∙ sym (get_or-drop m eight (j - m) 0) ∙ number-zero (drop m eight) (sym (high eight (part_small l 8 at small) m) ∙ e) (j - m)

  pub zero_high : (m : ℕ) → ((j : ℕ) → m ≤ j → j < 8 → get_or l (at + j) 0 ≡ 0) → word_at l at / 256 ^ m ≡ 0
  unfolding word_at
  zero_high m z =
      high eight (part_small l 8 at small) m
      ∙ zero_number (drop m eight) (λ j k.
      let u : m + j < 8 = omega (arith, length-drop m eight, length-eight) in
      get_or-drop m eight j 0 ∙ get_d-eight l at (m + j) u ∙ z (m + j) (omega arith) u)

  -- and those before it
  pub low-zero : (m : ℕ) → word_at l at % 256 ^ m ≡ 0 → (j : ℕ) → j < m → j < 8 → get_or l (at + j) 0 ≡ 0
  low-zero m e j k u = unfold word_at in sym (get_d-eight l at j u) ∙ sym (get_or-take m eight j 0 k) ∙ number-zero (take m eight) (sym (low eight (part_small l 8 at small) m) ∙ e) j

  pub zero-low : (m : ℕ) → m ≤ 8 → ((j : ℕ) → j < m → get_or l (at + j) 0 ≡ 0) → word_at l at % 256 ^ m ≡ 0
  unfolding word_at
  zero-low m few z =
      low eight (part_small l 8 at small) m
      ∙ zero_number (take m eight) (λ j k.
      let u : j < m = omega (arith, length-take-le m eight (omega (arith, length-eight))) in
      get_or-take m eight j 0 u ∙ get_d-eight l at j (omega arith) ∙ z j u)
