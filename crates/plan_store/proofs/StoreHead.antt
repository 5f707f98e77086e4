-- The head block: when it is right, and its bytes.
use mathlib.Core.Path.{◌≡◌, sym, ap, ap₂, ◌∙◌}
use mathlib.Core.Bool.{true, false, ◌&&◌, and-true, and-false, and-eq-true_iff}
use mathlib.Core.List.{List, ◌∷◌}
use Prim.Native.Nat.{ℕ, suc, ◌+◌, ◌-◌, ◌≤◌, ◌<◌}
use native.Mathlib.Omega.{arith}
use borrow.Author.Tests.{eq-eqb, ne_eqb, eqb-true, lt-ltb, le-ltb, ltb-true}
use lib.Dec.{eqb, ltb}
use lib.ListN.{length, get_or, take, replicate, set, length-replicate, get_or-replicate}
use lib.Seq.{take-set-lt}
use Rattle.seal.specs.Seal.{block_bytes, modulo257, seal_right_def, sealed, reseal}
use Rattle.seal.proofs.SealLaws.{two-and-zeros, right-sealed, sealed-right, length-sealed, get_d-sealed}
use Rattle.sheet.specs.Masks.{zeros_at}
use Rattle.sheet.proofs.ZeroLaws.{same_test, zeros-are}
use Rattle.plan_store.specs.Store.{head_block}
use Rattle.plan_store.specs.Questions.{head_right_def}
use Rattle.plan_store.proofs.ByteLoops.{zeros-each, zeros-next, zeros-not}

-- the four questions of a head
pub record HeadIs (k : List ℕ) : Type 0 where
  pub sums : seal_right_def modulo257 k ≡ true
  pub four : get_or k 0 0 ≡ 4
  pub low : get_or k 1 0 < 128
  pub zeros : (j : ℕ) → j < 506 → get_or k (2 + j) 0 ≡ 0

module _ (k : List ℕ) where
  pub head-told : head_right_def k ≡ true → HeadIs k
  unfolding head_right_def
  head-told e =
      let a = (and-eq-true_iff (seal_right_def modulo257 k) (eqb (get_or k 0 0) 4 && (ltb (get_or k 1 0) 128 && zeros_at k 2 506))).0 e in
      let b = (and-eq-true_iff (eqb (get_or k 0 0) 4) (ltb (get_or k 1 0) 128 && zeros_at k 2 506)).0 a.1 in
      let d = (and-eq-true_iff (ltb (get_or k 1 0) 128) (zeros_at k 2 506)).0 b.1 in
      record { sums = a.0; four = eqb-true _ _ b.0; low = ltb-true _ _ d.0; zeros = zeros-each k 2 506 d.1 }

  pub head-holds : HeadIs k → head_right_def k ≡ true
  head-holds h = unfold head_right_def in ap₂ ◌&&◌ h.sums (ap₂ ◌&&◌ (eq-eqb _ _ h.four) (ap₂ ◌&&◌ (lt-ltb _ _ h.low) (zeros-are k 2 506 h.zeros)))

  -- by the first that fails
  pub not-four : (get_or k 0 0 ≡ 4 → ⊥) → false ≡ head_right_def k
  not-four h = unfold head_right_def in rw (ne_eqb (get_or k 0 0) 4 h, and-false)

  pub bit-7 : 128 ≤ get_or k 1 0 → false ≡ head_right_def k
  bit-7 h = unfold head_right_def in rw (le-ltb (get_or k 1 0) 128 h, and-false, and-false)

  unzeroed : zeros_at k 2 506 ≡ false → false ≡ head_right_def k
  unzeroed h = unfold head_right_def in rw (h, and-false, and-false, and-false)

  pub not-zero : (j : ℕ) → j < 506 → (get_or k (2 + j) 0 ≡ 0 → ⊥) → false ≡ head_right_def k
  not-zero j l h = unzeroed (zeros-not k 2 506 j l h)

  -- the bytes outside the words, then the words
  module _ (x : get_or k 506 0 ≡ 0) (y : get_or k 507 0 ≡ 0) where
    words-zeros : zeros_at k 2 504 ≡ zeros_at k 2 506
    words-zeros =
        same_test (zeros_at k 2 504) (zeros_at k 2 506) (λ e. zeros-next k 2 505 (zeros-next k 2 504 e x) y)
        (λ e. zeros-are k 2 504 (λ j l. zeros-each k 2 506 e j (omega arith)))

    pub words-not-zero : zeros_at k 2 504 ≡ false → false ≡ head_right_def k
    words-not-zero e = unzeroed (sym words-zeros ∙ e)

    pub only-sums : get_or k 0 0 ≡ 4 → get_or k 1 0 < 128 → zeros_at k 2 504 ≡ true → seal_right_def modulo257 k ≡ head_right_def k
    only-sums a b e = unfold head_right_def in rw (eq-eqb (get_or k 0 0) 4 a, lt-ltb (get_or k 1 0) 128 b, ← words-zeros, e, and-true)

  module _ (h : length k ≡ block_bytes) (right : HeadIs k) where
    -- its body
    head-body : take 508 k ≡ 4 ∷ get_or k 1 0 ∷ replicate 506 0
    head-body =
        two-and-zeros k h (λ p l u. let e : p ≡ 2 + (p - 2) = omega arith in ap (λ i. get_or k i 0) e ∙ right.zeros (p - 2) (omega arith))
        ∙ ap (λ x. x ∷ get_or k 1 0 ∷ replicate 506 0) right.four

    pub head-is : k ≡ head_block (get_or k 1 0)
    head-is = unfold head_block in right-sealed modulo257 k right.sums ∙ ap (sealed modulo257) head-body

    -- with other names, sealed
    pub renamed : (names : ℕ) → reseal modulo257 (set k 1 names) ≡ head_block names
    renamed names = unfold head_block reseal in ap (sealed modulo257) (take-set-lt 508 k 1 names (omega arith) ∙ ap (λ l. set l 1 names) head-body)

-- The head block of some names.
module _ (names : ℕ) where
  abbrev body : List ℕ
  body = 4 ∷ names ∷ replicate 506 0

  length-body : length body ≡ 508
  length-body = ap (λ n. 2 + n) (length-replicate {A = ℕ} 506 0)

  pub length-head : length (head_block names) ≡ block_bytes
  length-head = unfold head_block in length-sealed modulo257 body length-body

  pub head_byte : (p : ℕ) → p < 508 → get_or (head_block names) p 0 ≡ get_or body p 0
  head_byte p l = unfold head_block in get_d-sealed modulo257 body p (omega (arith, length-body))

  pub head-made : names < 128 → HeadIs (head_block names)
  unfolding head_block
  head-made l =
      record {
        sums = sealed-right modulo257 body length-body;
        four = head_byte 0 (omega arith);
        low = omega (arith, head_byte 1 (omega arith));
        zeros = λ j k. let e : 2 + j ≡ suc (suc j) = omega arith in head_byte (2 + j) (omega arith) ∙ ap (λ p. get_or body p 0) e ∙ get_or-replicate 506 j 0 0 k;
      }
