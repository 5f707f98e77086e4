-- Bytes written one part after the other, as far as there is room.
use mathlib.Core.Path.{◌≡◌, refl, sym, ap, ap₂, ◌∙◌}
use mathlib.Core.List.{List, [], ◌∷◌, ◌++◌, append_assoc}
use Prim.Native.Nat.{ℕ, suc, ◌+◌, ◌-◌, ◌≤◌, ◌<◌, min}
use native.Mathlib.Omega.{arith}
use native.Mathlib.Nat.{add-zero}
use native.Mathlib.Numerals.{add-one}
use native.Mathlib.Decide.{dec_lt}
use borrow.Rule.Slice.PartMut.{put_mid}
use lib.ListN.{length, get_or, set, take, drop, length-set, length-take, take-append-drop}
use lib.Seq.{sets, sets-eq, length-sets, set_out, length-take-le, take-suc, take_all, drop-drop}
use Rattle.answer.specs.Outputs.{written_at_start}
use Rattle.buffers.specs.Filled.{filled_from}

pub filled_none : (at : ℕ) (b : List ℕ) → filled_from at [] b ≡ b
filled_none at b = unfold filled_from in refl

pub filled-length : (at : ℕ) (bytes b : List ℕ) → length (filled_from at bytes b) ≡ length b
filled-length at bytes b = unfold filled_from in length-sets b at bytes

pub filled_more : (at : ℕ) (u v b : List ℕ) → filled_from (at + length u) v (filled_from at u b) ≡ filled_from at (u ++ v) b
unfolding filled_from
filled_more at [] v b = ap (λ (n : ℕ). sets b n v) (add-zero at)
filled_more at (x ∷ u) v b = ap (λ (n : ℕ). sets (sets (set b at x) (suc at) u) n v) (let e : at + suc (length u) ≡ suc at + length u = omega arith in e) ∙ filled_more (suc at) u v (set b at x)

-- outside the buffer nothing is stored
pub filled-out : (at : ℕ) (bytes b : List ℕ) → length b ≤ at → filled_from at bytes b ≡ b
unfolding filled_from
filled-out at [] b h = refl
filled-out at (x ∷ bytes) b h = filled-out (suc at) bytes (set b at x) (omega (arith, length-set b at x)) ∙ set_out b at x h

-- if the bytes fit, the rest of the buffer is unchanged
pub filled-at-start : (bytes b : List ℕ) → length bytes ≤ length b → filled_from 0 bytes b ≡ written_at_start bytes b
filled-at-start bytes b h = unfold filled_from in sets-eq bytes b 0 (omega arith) ∙ ap (λ (n : ℕ). bytes ++ drop n b) (let e : 0 + length bytes ≡ length bytes = omega arith in e)

module _ (at : ℕ) (bytes b : List ℕ) (i : ℕ) (h : i < length bytes) where
  -- one more of the bytes is written
  pub filled_next : {o : List ℕ} → o ≡ filled_from at (take i bytes) b → set o (at + i) (get_or bytes i 0) ≡ filled_from at (take (i + 1) bytes) b
  unfolding filled_from
  filled_next {o} e =
      let n : length (take i bytes) ≡ i = length-take i bytes ∙ (omega arith) in
      ap₂ (λ z (k : ℕ). filled_from (at + k) (get_or bytes i 0 ∷ []) z) e (sym n)
      ∙ filled_more at (take i bytes) (get_or bytes i 0 ∷ []) b
      ∙ ap (λ l. filled_from at l b) (sym (take-suc bytes i 0 h) ∙ ap (λ k. take k bytes) (sym (add-one i)))

  -- the first i of the bytes, if the rest does not fit
  pub filled-rest : {o : List ℕ} → o ≡ filled_from at (take i bytes) b → length o ≤ at + i → o ≡ filled_from at bytes b
  filled-rest {o} e k =
      let n : length (take i bytes) ≡ i = length-take i bytes ∙ (omega arith) in
      e
      ∙ sym (filled-out (at + length (take i bytes)) (drop i bytes) (filled_from at (take i bytes) b) (omega (arith, n, k, ap length e)))
      ∙ filled_more at (take i bytes) (drop i bytes) b
      ∙ ap (λ l. filled_from at l b) (take-append-drop i bytes)

pub filled-whole : (at : ℕ) (bytes b : List ℕ) (i : ℕ) → length bytes ≤ i → filled_from at (take i bytes) b ≡ filled_from at bytes b
filled-whole at bytes b i h = ap (λ l. filled_from at l b) (take_all i bytes h)

-- the part of the buffer that the bytes reach is overwritten
module _ (at : ℕ) (bytes b : List ℕ) where
  part-filled : (n : ℕ) → n ≤ length bytes → at + n ≤ length b → put_mid at n b (take n bytes) ≡ filled_from at (take n bytes) b
  unfolding filled_from
  part-filled n h k =
      let l : length (take n bytes) ≡ n = length-take-le n bytes h in
      ap (λ z. take at b ++ (take n bytes ++ z)) (drop-drop n at b ∙ ap (λ m. drop (at + m) b) (sym l)) ∙ sym (sets-eq (take n bytes) b at (omega arith) ∙ append_assoc (take at b) (take n bytes) _)

  pub filled-part : {from to : ℕ} {ys : List ℕ} → from ≡ min at (length b) → to ≡ min (at + length bytes) (length b) → ys ≡ take (to - from) bytes → put_mid from (to - from) b ys ≡ filled_from at bytes b
  filled-part {from} {to} {ys} e f q =
      elim (dec_lt at (length b)) [
        | yes l ↦
            let g : from ≡ at = omega arith in
            ap₂ (λ i z. put_mid i (to - from) b z) g q ∙ part-filled (to - from) (omega arith) (omega arith)
            ∙ elim (dec_lt (to - from) (length bytes)) [
              | yes k ↦ filled-rest at bytes b (to - from) k refl (omega (arith, filled-length at (take (to - from) bytes) b))
              | no k ↦ filled-whole at bytes b (to - from) (omega arith)
            ]
        | no l ↦
            let n : to - from ≡ 0 = omega arith in
            ap₂ (λ k z. put_mid from k b z) n (q ∙ ap (λ k. take k bytes) n) ∙ take-append-drop from b ∙ sym (filled-out at bytes b (omega arith))
      ]
