-- What a block's check bytes notice if the modulus is above 255: every change of a single byte, and every exchange of two unequal neighbours in the body.
use mathlib.Core.Path.{◌≡◌, refl, sym, ap, ap₂, ◌∙◌}
use mathlib.Core.Bool.{Bool, true, false}
use mathlib.Core.List.{List, ◌∷◌}
use Prim.Native.Nat.{ℕ, suc, ◌+◌, ◌-◌, ◌*◌, ◌/◌, ◌%◌, ◌≤◌, ◌<◌}
use native.Mathlib.Nat.{div-add-mod, mul-add-mod_self_left, mod-eq_of_lt, lt_of_lt_of_le}
use native.Mathlib.Omega.{arith}
use borrow.Author.Tests.{ltb-true, ltb-false}
use lib.Dec.{ltb}
use lib.ListN.{length, get_or, take, drop, set, replicate, length-set}
use lib.Seq.{get_or-take, get_or-drop, get_or-set_same, get_or-set_other, take-set-lt, take-set-le, drop-set-lt}
use Rattle.bitset.specs.Words.{Bytes}
use Rattle.seal.specs.Seal.{block_bytes, Form, modulo257, modulo255, sums, sums_from, seal, seal_right_def, exchanged}
use Rattle.seal.specs.Lanes.{total, weighed}
use Rattle.seal.proofs.TotalLaws.{sums-total, sums-weighed, total-set, weighed-set}
use Rattle.seal.proofs.SealLaws.{right-check, stored-told, s-low, t-low, length-body}

-- if totals with the same remainder differ by two numbers below m, those numbers are equal
byte-told : (m a b x y : ℕ) → a + y ≡ b + x → a % m ≡ b % m → x < m → y < m → x ≡ y
byte-told m a b x y e r h k =
    let f : m * (b / m) + x ≡ m * (a / m) + y = omega (arith, div-add-mod a m, div-add-mod b m) in
    sym (mod-eq_of_lt h) ∙ sym (mul-add-mod_self_left m (b / m) x) ∙ ap (◌% m) f ∙ mul-add-mod_self_left m (a / m) y ∙ mod-eq_of_lt k

refused : (b : Bool) → (b ≡ true → ⊥) → b ≡ false
refused true h = absurd (h refl)
refused false h = refl

-- when neighbours x and y of a body change places, t changes as if one of them became the other
moved : (a : List ℕ) (p x y : ℕ) → suc p < length a → get_or a p 0 ≡ x → get_or a (suc p) 0 ≡ y → weighed (set (set a p y) (suc p) x) + x ≡ weighed a + y
moved a p x y h e g =
    let v : ℕ = length a - suc p in
    let d : length a - p ≡ suc v = omega arith in
    let one : weighed (set a p y) + suc v * x ≡ weighed a + suc v * y = ap₂ (λ u w. weighed (set a p y) + u * w) (sym d) (sym e) ∙ weighed-set a p y (omega arith) ∙ ap (λ u. weighed a + u * y) d in
    let q : get_or (set a p y) (suc p) 0 ≡ y = get_or-set_other a p (suc p) y 0 (λ w. omega arith) ∙ g in
    let z : length (set a p y) - suc p ≡ v = ap (◌- suc p) (length-set a p y) in
    let two : weighed (set (set a p y) (suc p) x) + v * y ≡ weighed (set a p y) + v * x =
    ap₂ (λ u w. weighed (set (set a p y) (suc p) x) + u * w) (sym z) (sym q) ∙ weighed-set (set a p y) (suc p) x (omega (arith, length-set a p y)) ∙ ap (λ u. weighed (set a p y) + u * x) z in
    sums-up (weighed (set (set a p y) (suc p) x)) (weighed (set a p y)) (weighed a) v x y one two where
      sums-up : (c b a v x y : ℕ) → b + suc v * x ≡ a + suc v * y → c + v * y ≡ b + v * x → c + x ≡ a + y
      sums-up c b a v x y e f = omega arith

module _ (f : Form) (above : 256 ≤ f.modulus) where
  -- right blocks with the same check bytes have the same sums
  same-sums : (k j : List ℕ) → seal_right_def f k ≡ true → seal_right_def f j ≡ true → drop f.body_bytes k ≡ drop f.body_bytes j
      → (total (take f.body_bytes k) % f.modulus ≡ total (take f.body_bytes j) % f.modulus) × (weighed (take f.body_bytes k) % f.modulus ≡ weighed (take f.body_bytes j) % f.modulus)
  same-sums k j e g d =
      let a : List ℕ = take f.body_bytes k in
      let b : List ℕ = take f.body_bytes j in
      let both = stored-told f (sums f a) (sums f b) (s-low f a) (t-low f a) (s-low f b) (t-low f b) (sym (right-check f k e) ∙ d ∙ right-check f j g) in
      (sym (sums-total f a) ∙ both.0 ∙ sums-total f b, sym (sums-weighed f a) ∙ both.1 ∙ sums-weighed f b)

  module _ (k : List ℕ) (h : length k ≡ block_bytes) (small : Bytes k) (right : seal_right_def f k ≡ true) where
    -- a byte of the body
    body-told : (p x : ℕ) → p < f.body_bytes → x < 256 → seal_right_def f (set k p x) ≡ true → x ≡ get_or k p 0
    body-told p x l b g =
        let a : List ℕ = take f.body_bytes k in
        let i : p < length a = omega (arith, length-body f k h) in
        let e : total (take f.body_bytes (set k p x)) + get_or k p 0 ≡ total a + x =
        ap₂ (λ u v. total u + v) (take-set-lt f.body_bytes k p x l) (sym (get_or-take f.body_bytes k p 0 l)) ∙ total-set a p x i in
        byte-told f.modulus _ _ x (get_or k p 0) e (sym (same-sums k (set k p x) right g (sym (drop-set-lt f.body_bytes k p x l))).0) (lt_of_lt_of_le b above) (lt_of_lt_of_le (small p) above)

    -- a check byte
    check-told : (p x : ℕ) → f.body_bytes ≤ p → p < block_bytes → seal_right_def f (set k p x) ≡ true → x ≡ get_or k p 0
    check-told p x l b g =
        let i : f.body_bytes + (p - f.body_bytes) ≡ p = omega arith in
        let same : drop f.body_bytes (set k p x) ≡ drop f.body_bytes k =
        right-check f (set k p x) g ∙ ap (seal f) (take-set-le f.body_bytes k p x l) ∙ sym (right-check f k right) in
        sym (get_or-set_same k p x 0 (omega arith)) ∙ ap (λ n. get_or (set k p x) n 0) (sym i) ∙ sym (get_or-drop f.body_bytes (set k p x) (p - f.body_bytes) 0)
        ∙ ap (λ y. get_or y (p - f.body_bytes) 0) same ∙ get_or-drop f.body_bytes k (p - f.body_bytes) 0 ∙ ap (λ n. get_or k n 0) i

    pub change_noticed : (p x : ℕ) → p < block_bytes → x < 256 → (x ≡ get_or k p 0 → ⊥) → seal_right_def f (set k p x) ≡ false
    change_noticed p x b y other = refused (seal_right_def f (set k p x)) (λ g. other (go (ltb p f.body_bytes) refl g)) where
      go : (c : Bool) → ltb p f.body_bytes ≡ c → seal_right_def f (set k p x) ≡ true → x ≡ get_or k p 0
      go true e g = body-told p x (ltb-true p f.body_bytes e) y g
      go false e g = check-told p x (ltb-false p f.body_bytes e) b g

    -- neighbours
    neighbours-told : (p : ℕ) → suc p < f.body_bytes → seal_right_def f (exchanged k p) ≡ true → get_or k (suc p) 0 ≡ get_or k p 0
    unfolding exchanged
    neighbours-told p l g =
        let x : ℕ = get_or k p 0 in
        let y : ℕ = get_or k (suc p) 0 in
        let m : ℕ = f.body_bytes in
        let n = length-body f k h in
        let d : drop m k ≡ drop m (exchanged k p) = sym (drop-set-lt m (set k p y) (suc p) x l ∙ drop-set-lt m k p y (omega arith)) in
        byte-told f.modulus (weighed (take m (exchanged k p))) (weighed (take m k)) y x
        (ap (λ u. weighed u + x) (take-set-lt m (set k p y) (suc p) x l ∙ ap (λ u. set u (suc p) x) (take-set-lt m k p y (omega arith)))
        ∙ moved (take m k) p x y (omega arith) (get_or-take m k p 0 (omega arith)) (get_or-take m k (suc p) 0 l))
        (sym (same-sums k (exchanged k p) right g d).1) (lt_of_lt_of_le (small (suc p)) above) (lt_of_lt_of_le (small p) above)

    pub exchange_noticed : (p : ℕ) → suc p < f.body_bytes → (get_or k p 0 ≡ get_or k (suc p) 0 → ⊥) → seal_right_def f (exchanged k p) ≡ false
    exchange_noticed p l other = refused (seal_right_def f (exchanged k p)) (λ g. other (sym (neighbours-told p l g)))

-- Block 1 without arrows; in the old form, where document 01 has 3 and 254.
pub block_1 : sums modulo257 (2 ∷ 1 ∷ replicate 506 0) ≡ record { s = 3; t = 238 }
block_1 = unfold sums_from in refl

pub old_block_1 : sums modulo255 (2 ∷ 1 ∷ replicate 508 0) ≡ record { s = 3; t = 254 }
old_block_1 = unfold sums_from in refl
