-- The check bytes as the code tests and stores them.
use mathlib.Core.Path.{◌≡◌, refl, sym, ap, ap₂, ◌∙◌}
use mathlib.Core.Bool.{Bool, true, false, ◌&&◌, and-true, and_assoc, and-eq-true_iff}
use mathlib.Core.List.{List, [], ◌∷◌, ◌++◌, append-nil, append_assoc}
use Prim.Native.Nat.{ℕ, zero, suc, ◌+◌, ◌-◌, ◌*◌, ◌/◌, ◌%◌, ◌≤◌, ◌<◌}
use native.Mathlib.Nat.{mod-eq_of_lt, add-mul-mod_self_right}
use native.Mathlib.Omega.{arith}
use borrow.Author.Tests.{eqb-true, eqb-false, eq-eqb, ne_eqb}
use lib.Dec.{eqb}
use lib.ListN.{length, get_or, take, drop, drop_of_length-le, replicate, length-replicate}
use lib.Seq.{drop-cons, drop-drop}
use borrow.Rule.Slice.PartMut.{put_mid}
use Rattle.std.specs.Int.{w16, to_le_bytes}
use Rattle.std.proofs.lemmas.Slice.{take-put_mid, drop-put_mid}
use Rattle.bitset.specs.Words.{Bytes, bytes}
use Rattle.seal.specs.Seal.{block_bytes, modulo255, modulo257, sums, stored, same_bytes, seal_of, seal_right_def}
use Rattle.seal.specs.Lanes.{total, weighed}
use Rattle.seal.proofs.TotalLaws.{sums-total, sums-weighed}
use Rattle.seal.proofs.SealLaws.{s-low, t-low}

-- two tests in one
both-eqb : (x y s t a b : ℕ) → (x ≡ s → y ≡ t → a ≡ b) → (a ≡ b → (x ≡ s) × (y ≡ t)) → eqb a b ≡ (eqb x s && eqb y t)
both-eqb x y s t a b to from = go (eqb x s) (eqb y t) refl refl where
  go : (u v : Bool) → eqb x s ≡ u → eqb y t ≡ v → eqb a b ≡ (u && v)
  go true true e f = eq-eqb a b (to (eqb-true x s e) (eqb-true y t f))
  go true false e f = ne_eqb a b (λ g. eqb-false y t f (from g).1)
  go false v e f = ne_eqb a b (λ g. eqb-false x s e (from g).0)

-- the second test, where the first holds; the first, where it does not
pub and-then : {r : Bool} (x s y t : ℕ) → r ≡ (eqb x s && eqb y t) → x ≡ s → eqb y t ≡ r
and-then x s y t e h = sym (e ∙ ap (◌&& eqb y t) (eq-eqb x s h))

pub and-else : {r : Bool} (x s y t : ℕ) → r ≡ (eqb x s && eqb y t) → (x ≡ s → ⊥) → eqb x s ≡ r
and-else x s y t e h = ne_eqb x s h ∙ sym (e ∙ ap (◌&& eqb y t) (ne_eqb x s h))

-- a number in two bytes
two_bytes : (a b s : ℕ) (r : Bool) → a < 256 → b < 256 → s < 65536 → (eqb a (s % 256) && (eqb b (s / 256 % 256) && r)) ≡ (eqb (a + b * 256) s && r)
two_bytes a b s r h k l =
    sym (and_assoc (eqb a (s % 256)) (eqb b (s / 256 % 256)) r)
    ∙ ap (◌&& r) (sym (both-eqb a b (s % 256) (s / 256 % 256) (a + b * 256) s (λ e f. omega arith) (λ e. (omega arith, omega arith))))

last-four : (k : List ℕ) → length k ≡ block_bytes → drop 508 k ≡ get_or k 508 0 ∷ get_or k 509 0 ∷ get_or k 510 0 ∷ get_or k 511 0 ∷ []
last-four k h =
    drop-cons k 508 0 (omega arith)
    ∙ ap (get_or k 508 0 ∷◌) (drop-cons k 509 0 (omega arith)
    ∙ ap (get_or k 509 0 ∷◌) (drop-cons k 510 0 (omega arith)
    ∙ ap (get_or k 510 0 ∷◌) (drop-cons k 511 0 (omega arith) ∙ ap (get_or k 511 0 ∷◌) (drop_of_length-le k {i = 512} (omega arith)))))

module _ (k : List ℕ) (h : length k ≡ block_bytes) where
  seal-of : (body : List ℕ) → Bytes k → (s t : ℕ) → s < 257 → t < 257 → s ≡ (sums modulo257 body).s → t ≡ (sums modulo257 body).t
      → seal_of modulo257 body k ≡ (eqb (get_or k 508 0 + get_or k 509 0 * 256) s && eqb (get_or k 510 0 + get_or k 511 0 * 256) t)
  unfolding seal_of same_bytes stored bytes
  seal-of body small s t l m e f =
      ap₂ same_bytes (last-four k h) (ap₂ (λ x y. stored modulo257 (record { s = x; t = y })) (sym e) (sym f))
      ∙ ap (λ (r : Bool). eqb (get_or k 508 0) (s % 256) && (eqb (get_or k 509 0) (s / 256 % 256) && r)) (two_bytes (get_or k 510 0) (get_or k 511 0) t true (small 510) (small 511) (omega arith) ∙ and-true _)
      ∙ two_bytes (get_or k 508 0) (get_or k 509 0) s _ (small 508) (small 509) (omega arith)

  pub right-257 : Bytes k → (s t : ℕ) → s < 257 → t < 257 → s ≡ (sums modulo257 (take 508 k)).s → t ≡ (sums modulo257 (take 508 k)).t
      → (x y : ℕ) → x ≡ get_or k 508 0 + get_or k 509 0 * 256 → y ≡ get_or k 510 0 + get_or k 511 0 * 256 → seal_right_def modulo257 k ≡ (eqb x s && eqb y t)
  right-257 small s t l m e f x y g h = unfold seal_right_def in rw (g, h) (seal-of (take 508 k) small s t l m e f)

  pub right-255 : (s t : ℕ) → s < modulo255.modulus → t < modulo255.modulus → s ≡ (sums modulo255 (take 510 k)).s → t ≡ (sums modulo255 (take 510 k)).t → seal_right_def modulo255 k ≡ (eqb (get_or k 510 0) s && eqb (get_or k 511 0) t)
  unfolding seal_right_def seal_of same_bytes stored bytes
  right-255 s t l m e f =
      let a : s % 256 ≡ s = omega arith in
      let b : t % 256 ≡ t = omega arith in
      ap₂ same_bytes
      (drop-cons k 510 0 (omega arith) ∙ ap (get_or k 510 0 ∷◌) (drop-cons k 511 0 (omega arith) ∙ ap (get_or k 511 0 ∷◌) (drop_of_length-le k {i = 512} (omega arith))))
      (ap₂ (λ x y. stored modulo255 (record { s = x; t = y })) (sym e) (sym f) ∙ ap₂ (λ x y. x ∷ y ∷ []) a b)
      ∙ ap (eqb (get_or k 510 0) s &&◌) (and-true (eqb (get_or k 511 0) t))

  pub put-257 : (s t : ℕ) (xs ys : List ℕ) → xs ≡ to_le_bytes w16 s → ys ≡ to_le_bytes w16 t → put_mid 510 2 (put_mid 508 2 k xs) ys ≡ take 508 k ++ stored modulo257 (record { s = s; t = t })
  unfolding stored bytes
  put-257 s t xs ys e f =
      let n : length xs ≡ 2 = ap length e in
      let front : take 510 (put_mid 508 2 k xs) ≡ take 508 k ++ bytes 2 s = take-put_mid 508 2 k xs 510 (omega arith) (omega arith) ∙ ap (take 508 k ++◌) e in
      let back : drop 2 (drop 510 (put_mid 508 2 k xs)) ≡ [] =
      drop-drop 2 510 (put_mid 508 2 k xs) ∙ drop-put_mid 508 2 k xs 512 (omega arith) (omega arith) n ∙ drop_of_length-le k {i = 512} (omega arith) in
      ap₂ (λ x y. x ++ (ys ++ y)) front back ∙ ap (λ y. take 508 k ++ bytes 2 s ++ y) (append-nil ys ∙ f) ∙ append_assoc (take 508 k) (bytes 2 s) (bytes 2 t)

  -- the check bytes of a right block are its sums
  pub check-bytes : Bytes k → seal_right_def modulo257 k ≡ true → (get_or k 508 0 + get_or k 509 0 * 256 ≡ (sums modulo257 (take 508 k)).s) × (get_or k 510 0 + get_or k 511 0 * 256 ≡ (sums modulo257 (take 508 k)).t)
  check-bytes small right =
      let s : ℕ = (sums modulo257 (take 508 k)).s in
      let t : ℕ = (sums modulo257 (take 508 k)).t in
      let both = (and-eq-true_iff _ _).0 (sym (right-257 small s t (s-low modulo257 (take 508 k)) (t-low modulo257 (take 508 k)) refl refl _ _ refl refl) ∙ right) in
      (eqb-true _ _ both.0, eqb-true _ _ both.1)

-- the sums of the body 2, the number of an arrow block, zeros
total-zeros : (n : ℕ) → (total (replicate n 0) ≡ 0) × (weighed (replicate n 0) ≡ 0)
unfolding total weighed
total-zeros zero = (refl, refl)
total-zeros (suc n) = let t = total-zeros n in (omega (arith, t.0), omega (arith, t.1))

module _ (b : ℕ) (few : b ≤ 16) where
  abbrev body : List ℕ
  body = 2 ∷ b ∷ replicate 506 0

  bare-s : 2 + b ≡ (sums modulo257 body).s
  unfolding total
  bare-s =
      let e : 2 + b ≡ total body % 257 = omega (arith, (total-zeros 506).0) in
      e ∙ sym (sums-total modulo257 body)

  bare-t : 245 - 7 * b ≡ (sums modulo257 body).t
  unfolding weighed
  bare-t =
      let n : length (replicate {A = ℕ} 506 0) ≡ 506 = length-replicate {A = ℕ} 506 0 in
      let w : weighed body ≡ 508 * 2 + (507 * b + 0) = ap₂ (λ x y. suc (suc x) * 2 + (suc x * b + y)) n (total-zeros 506).1 in
      let low : 245 - 7 * b < 257 = omega arith in
      let e : 245 - 7 * b + (3 + 2 * b) * 257 ≡ weighed body = omega (arith, few, w) in
      sym (mod-eq_of_lt low) ∙ sym (add-mul-mod_self_right (245 - 7 * b) (3 + 2 * b) 257) ∙ ap (◌% 257) e ∙ sym (sums-weighed modulo257 body)

  -- the check bytes as one number
  pub bare-right : (k : List ℕ) → length k ≡ block_bytes → Bytes k → (r : ℕ) → r ≡ get_or k 508 0 + get_or k 509 0 * 0x100 + get_or k 510 0 * 0x10000 + get_or k 511 0 * 0x1000000 → eqb r (2 + b + 0x10000 * (245 - 7 * b)) ≡ seal_of modulo257 body k
  bare-right k h small r e =
      let x : ℕ = get_or k 508 0 + get_or k 509 0 * 256 in
      let y : ℕ = get_or k 510 0 + get_or k 511 0 * 256 in
      let n : r ≡ x + 0x10000 * y = omega (arith, e) in
      let low : x < 0x10000 = omega (arith, small 508, small 509) in
      ap (λ (v : ℕ). eqb v (2 + b + 0x10000 * (245 - 7 * b))) n
      ∙ both-eqb x y (2 + b) (245 - 7 * b) (x + 0x10000 * y) (2 + b + 0x10000 * (245 - 7 * b)) (λ e f. omega arith) (λ e. (omega arith, omega arith))
      ∙ sym (seal-of k h body small (2 + b) (245 - 7 * b) (omega arith) (omega arith) bare-s bare-t)
