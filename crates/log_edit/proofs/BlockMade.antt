-- A wiped block with its fields, the part and the check bytes put into it is the block of that part.
use mathlib.Core.Path.{◌≡◌, sym, ◌∙◌, ap, ap₂}
use mathlib.Core.List.{List, [], ◌∷◌, ◌++◌, append_assoc}
use Prim.Native.Nat.{ℕ, ◌+◌, ◌-◌, ◌/◌, ◌%◌, ◌≤◌}
use native.Mathlib.Omega.{arith}
use lib.ListN.{length, set, take, drop, replicate, length-append, length-replicate, replicate-append-replicate}
use lib.Seq.{take_at, drop_at}
use Rattle.seal.specs.Seal.{modulo257, sealed, reseal}
use Rattle.std.specs.Int.{w16, byte_at, to_le_bytes}
use Rattle.log_blocks.specs.Making.{block}
use Rattle.log_blocks.proofs.MakeLaws.{body, block-is}

abbrev zeros : ℕ → List ℕ
zeros n = replicate n 0

-- zeros with n fewer
zeros-left : (n : ℕ) → n ≤ 504 → drop n (zeros 508) ≡ zeros (504 - n) ++ zeros 4
zeros-left n h =
    let all : 508 ≡ n + (504 - n + 4) = omega arith in
    ap (λ (m : ℕ). drop n (zeros m)) all ∙ ap (drop n) (sym (replicate-append-replicate {A = ℕ} n (504 - n + 4) 0))
    ∙ drop_at (zeros n) (zeros (504 - n + 4)) n (length-replicate {A = ℕ} n 0) ∙ sym (replicate-append-replicate {A = ℕ} (504 - n) 4 0)

-- a block in the making: bytes 0 and 1, then bytes 2 and 3, then the part
abbrev begun : (mark : ℕ) (b x : List ℕ) → List ℕ
begun mark b x = take 2 (set (set b 0 3) 1 mark) ++ (x ++ drop 2 (drop 2 (set (set b 0 3) 1 mark)))

-- the two bytes of a number
two_bytes : (n : ℕ) → to_le_bytes w16 n ≡ (n % 256) ∷ (n / 256 % 256) ∷ []
two_bytes n = let e : byte_at 0 n ≡ n % 256 = omega arith in let f : byte_at 1 n ≡ n / 256 % 256 = omega arith in ap₂ (λ x y. x ∷ y ∷ []) e f

headed : (mark n m : ℕ) {b x : List ℕ} → b ≡ zeros m → m ≡ 512 → x ≡ to_le_bytes w16 n → begun mark b x ≡ 3 ∷ mark ∷ (n % 256) ∷ (n / 256 % 256) ∷ zeros 508
headed mark n m e q f = ap₂ (λ k y. begun mark k y) (e ∙ ap zeros q) (f ∙ two_bytes n)

module _ (mark : ℕ) (part : List ℕ) (few : length part ≤ 504) where
  body-length : length (body mark part) ≡ 508
  body-length = unfold body in omega (arith, length-append part (zeros (504 - length part)), length-replicate {A = ℕ} (504 - length part) 0)

  pub made : {b x y : List ℕ} {m : ℕ} → b ≡ zeros m → m ≡ 512 → x ≡ to_le_bytes w16 (length part) → y ≡ part
      → reseal modulo257 (take 4 (begun mark b x) ++ (y ++ drop (4 + length part - 4) (drop 4 (begun mark b x)))) ≡ block mark part
  unfolding body reseal
  made {b} {x} {y} {m} e q f g =
      let n : ℕ = length part in
      let same : 4 + n - 4 ≡ n = omega arith in
      let out-is : take 4 (begun mark b x) ++ (y ++ drop (4 + n - 4) (drop 4 (begun mark b x))) ≡ body mark part ++ zeros 4 =
      ap₂ (λ k p. take 4 k ++ (p ++ drop (4 + n - 4) (drop 4 k))) (headed mark n m e q f) g
      ∙ ap (λ z. 3 ∷ mark ∷ (n % 256) ∷ (n / 256 % 256) ∷ (part ++ z)) (ap (λ k. drop k (zeros 508)) same ∙ zeros-left n few)
      ∙ ap (λ z. 3 ∷ mark ∷ (n % 256) ∷ (n / 256 % 256) ∷ z) (sym (append_assoc part (zeros (504 - n)) (zeros 4))) in
      ap (sealed modulo257) (ap (take 508) out-is ∙ take_at (body mark part) (zeros 4) 508 body-length) ∙ sym (block-is mark part)
