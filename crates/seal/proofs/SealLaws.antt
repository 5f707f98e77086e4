-- The check bytes after a body, in any form.
use mathlib.Core.Path.{◌≡◌, refl, sym, ap, ap₂, ◌∙◌}
use mathlib.Core.Bool.{Bool, true, ◌&&◌, and-eq-true_iff}
use mathlib.Core.List.{List, [], ◌∷◌, ◌++◌}
use Prim.Native.Nat.{ℕ, zero, suc, ◌+◌, ◌≤◌, ◌<◌}
use native.Mathlib.Nat.{mod-lt, mod-eq_of_lt, lt_of_lt_of_le}
use native.Mathlib.Omega.{arith}
use lib.Dec.{T, eqb, eqb_refl, eqb→eq}
use lib.ListN.{length, get_or, take, drop, replicate, get_or-replicate, take-append-drop, length-append, get_or-append}
use lib.Seq.{length-take-le, get_or-take, ext_get_or, take_at, drop_at}
use Rattle.bitset.specs.Words.{bytes, number_of}
use Rattle.bitset.proofs.WordLaws.{length-bytes, number_of-bytes}
use Rattle.seal.specs.Seal.{block_bytes, modulo257, Form, Sums, sums, stored, seal, sealed, same_bytes, seal_of, seal_right_def}
use Rattle.seal.specs.Lanes.{total, weighed}
use Rattle.seal.proofs.TotalLaws.{sums-total, sums-weighed}

so : (b : Bool) → T b → b ≡ true
so true h = refl
so mathlib.Core.Bool.false h = elim h [ ]

pub same_refl : (k : List ℕ) → same_bytes k k ≡ true
unfolding same_bytes
same_refl [] = refl
same_refl (x ∷ k) = ap₂ ◌&&◌ (so (eqb x x) (eqb_refl x)) (same_refl k)

pub same-is : (a b : List ℕ) → same_bytes a b ≡ true → a ≡ b
unfolding same_bytes
same-is [] [] e = refl
same-is [] (y ∷ b) e = let z : ◌≡◌ {A = ℕ} 0 1 = cc in absurd (omega arith)
same-is (x ∷ a) [] e = let z : ◌≡◌ {A = ℕ} 0 1 = cc in absurd (omega arith)
same-is (x ∷ a) (y ∷ b) e = ap₂ ◌∷◌ (eqb→eq x y (rw ((and-eq-true_iff (eqb x y) (same_bytes a b)).0 e).0 tt)) (same-is a b ((and-eq-true_iff (eqb x y) (same_bytes a b)).0 e).1)

module _ (f : Form) where
  pub length-stored : (u : Sums) → length (stored f u) ≡ f.sum_bytes + f.sum_bytes
  unfolding stored
  length-stored u = length-append (bytes f.sum_bytes u.s) (bytes f.sum_bytes u.t) ∙ ap₂ ◌+◌ (length-bytes f.sum_bytes u.s) (length-bytes f.sum_bytes u.t)

  -- A right block is its body followed by the body's check bytes, and no other bytes after that body are right.
  pub right-check : (k : List ℕ) → seal_right_def f k ≡ true → drop f.body_bytes k ≡ seal f (take f.body_bytes k)
  right-check k e = unfold seal_right_def seal_of in same-is (drop f.body_bytes k) (seal f (take f.body_bytes k)) e

  pub right-sealed : (k : List ℕ) → seal_right_def f k ≡ true → k ≡ sealed f (take f.body_bytes k)
  right-sealed k e = unfold sealed in sym (take-append-drop f.body_bytes k) ∙ ap (take f.body_bytes k ++◌) (right-check k e)

  -- A body followed by its check bytes begins with the body and passes question 2.
  pub get_d-sealed : (body : List ℕ) (p : ℕ) → p < length body → get_or (sealed f body) p 0 ≡ get_or body p 0
  get_d-sealed body p h = unfold sealed in get_or-append body (seal f body) 0 p h

  pub sealed-right : (body : List ℕ) → length body ≡ f.body_bytes → seal_right_def f (sealed f body) ≡ true
  unfolding seal_right_def seal_of sealed
  sealed-right body h = ap₂ (λ a b. same_bytes a (seal f b)) (drop_at body (seal f body) f.body_bytes h) (take_at body (seal f body) f.body_bytes h) ∙ same_refl (seal f body)

module _ (f : Form) where
  pub length-sealed : (body : List ℕ) → length body ≡ f.body_bytes → length (sealed f body) ≡ block_bytes
  length-sealed body h = unfold sealed in length-append body (seal f body) ∙ omega (arith, f.whole, length-stored f (sums f body))

  pub length-body : (k : List ℕ) → length k ≡ block_bytes → length (take f.body_bytes k) ≡ f.body_bytes
  length-body k h = length-take-le f.body_bytes k (omega (arith, f.whole))

  -- check bytes determine the sums
  pub stored-told : (u v : Sums) → u.s < f.modulus → u.t < f.modulus → v.s < f.modulus → v.t < f.modulus → stored f u ≡ stored f v → (u.s ≡ v.s) × (u.t ≡ v.t)
  unfolding stored
  stored-told u v hs ht ks kt e =
      let n : ℕ = f.sum_bytes in
      let a : bytes n u.s ≡ bytes n v.s =
      sym (take_at (bytes n u.s) (bytes n u.t) n (length-bytes n u.s)) ∙ ap (take n) e ∙ take_at (bytes n v.s) (bytes n v.t) n (length-bytes n v.s) in
      let b : bytes n u.t ≡ bytes n v.t =
      sym (drop_at (bytes n u.s) (bytes n u.t) n (length-bytes n u.s)) ∙ ap (drop n) e ∙ drop_at (bytes n v.s) (bytes n v.t) n (length-bytes n v.s) in
      (told u.s v.s hs ks a, told u.t v.t ht kt b) where
        told : (x y : ℕ) → x < f.modulus → y < f.modulus → bytes f.sum_bytes x ≡ bytes f.sum_bytes y → x ≡ y
        told x y h k e =
            sym (number_of-bytes f.sum_bytes x ∙ mod-eq_of_lt (lt_of_lt_of_le h f.stores)) ∙ ap number_of e ∙ number_of-bytes f.sum_bytes y ∙ mod-eq_of_lt (lt_of_lt_of_le k f.stores)

  pub s-low : (l : List ℕ) → (sums f l).s < f.modulus
  s-low l = rw (sums-total f l) (mod-lt (total l) f.nonzero)

  pub t-low : (l : List ℕ) → (sums f l).t < f.modulus
  t-low l = rw (sums-weighed f l) (mod-lt (weighed l) f.nonzero)

-- The body of a block with only zeros after its first two bytes.
pub two-and-zeros : (k : List ℕ) → length k ≡ block_bytes → ((p : ℕ) → 2 ≤ p → p < modulo257.body_bytes → get_or k p 0 ≡ 0) → take modulo257.body_bytes k ≡ get_or k 0 0 ∷ get_or k 1 0 ∷ replicate 506 0
two-and-zeros k h z = ext_get_or 0 (take 508 k) _ (length-take-le 508 k (omega arith)) (λ i l. let u : i < 508 = omega (arith, length-take-le 508 k (omega arith)) in get_or-take 508 k i 0 u ∙ at i u)
  where
    at : (i : ℕ) → i < 508 → get_or k i 0 ≡ get_or (get_or k 0 0 ∷ get_or k 1 0 ∷ replicate 506 0) i 0
    at zero l = refl
    at (suc zero) l = refl
    at (suc (suc j)) l = z (suc (suc j)) (omega arith) l ∙ sym (get_or-replicate 506 j 0 0 (omega arith))
