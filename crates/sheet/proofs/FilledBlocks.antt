-- A block with right check bytes, head and zeros is the stored block of the sets that its words hold.
use mathlib.Core.Path.{◌≡◌, sym, ◌∙◌, ap, subst}
use mathlib.Core.Bool.{true, false, ◌&&◌}
use mathlib.Core.List.{List}
use mathlib.Core.Logic.{◌⊎◌, inl, inr}
use Prim.Native.Nat.{ℕ, ◌+◌, ◌-◌, ◌*◌, ◌/◌, ◌%◌, ◌≤◌, ◌<◌}
use native.Mathlib.Nat.{mod-lt}
use native.Mathlib.Omega.{arith}
use native.Mathlib.Decide.{dec_lt}
use borrow.Author.Tests.{lt-ltb}
use lib.ListN.{length, get_or, take, length-take}
use lib.Seq.{get_or-take, ext_get_or}
use lib.Pow.{pow_pos}
use Rattle.logic.specs.Graph.{Nodes}
use Rattle.bitset.specs.Words.{Bytes, set_of, member}
use Rattle.bitset.proofs.SetLaws.{member-set_of, member-beyond}
use Rattle.seal.specs.Seal.{block_bytes, sealed, seal_right_def}
use Rattle.seal.proofs.SealLaws.{right-sealed}
use Rattle.sheet.specs.Sheet.{block, SheetForm, bit_in}
use Rattle.sheet.specs.Questions.{free, zero_right_def}
use Rattle.sheet.proofs.BlockLaws.{body_of, length-body, body_at, head_at, front-zero, pad-zero, word-bit, word_byte}
use Rattle.sheet.proofs.FreeBits.{byte-ext, bit-of-word, bit-clear, byte-clear}

-- block b of a sheet with n nodes, with words for the m sets v
module _ (φ : SheetForm) (n : ℕ) (nodes : Nodes) (b : ℕ) (k : List ℕ) (len : length k ≡ block_bytes) (small : Bytes k)
    (check : seal_right_def φ.sums k ≡ true) (zeros : zero_right_def φ n nodes b k ≡ true)
    (head : List ℕ) (m : ℕ) (v : ℕ → Nodes) (h : length head ≡ 3) (fits : 16 + 8 * m ≤ φ.sums.body_bytes)
    (heads : (p : ℕ) → p < 3 → get_or k p 0 ≡ get_or head p 0)
    (gap : (p i : ℕ) → 3 ≤ p → (p < 16) ⊎ (16 + 8 * m ≤ p) → free φ n nodes b p i ≡ false)
    (beyond : (p i : ℕ) → 3 ≤ p → n ≤ p % 8 * 8 + i → free φ n nodes b p i ≡ false)
    (bits : (j i : ℕ) → j < m → v j i ≡ bit_in k (16 + 8 * j) i) where
  abbrev word : ℕ → ℕ
  word j = set_of n (v j)

  abbrev stored : List ℕ
  stored = block φ.sums head m word

  gap-zero : (p : ℕ) → 3 ≤ p → p < φ.sums.body_bytes → (p < 16) ⊎ (16 + 8 * m ≤ p) → get_or k p 0 ≡ 0
  gap-zero p l u w = byte-clear φ n nodes b k zeros p u (small p) (λ i. gap p i l w)

  bit_is : (p i : ℕ) → 16 ≤ p → p < 16 + 8 * m → i < 8 → member (get_or k p 0) i ≡ member (word ((p - 16) / 8)) (p % 8 * 8 + i)
  bit_is p i l u s = go (dec_lt (p % 8 * 8 + i) n) where
    go : Dec (p % 8 * 8 + i < n) → member (get_or k p 0) i ≡ member (word ((p - 16) / 8)) (p % 8 * 8 + i)
    go (yes d) =
        let j : ℕ = (p - 16) / 8 in
        let r : ℕ = p % 8 * 8 + i in
        bit-of-word k p i l s ∙ ap (◌&& member (get_or k (16 + 8 * j + r / 8) 0) (r % 8)) (sym (lt-ltb r 64 (omega arith)))
        ∙ sym (bits j r (omega arith)) ∙ sym (member-set_of n (v j) r d)
    go (no d) = bit-clear φ n nodes b k zeros p i (omega arith) s (beyond p i (omega arith) (omega arith)) ∙ sym (member-beyond n (v ((p - 16) / 8)) (p % 8 * 8 + i) (omega arith))

  stored-lt : (p : ℕ) → 16 ≤ p → p < 16 + 8 * m → get_or stored p 0 < 256
  stored-lt p l u =
      let at : 16 + (8 * ((p - 16) / 8) + p % 8) ≡ p = omega arith in
      subst (λ q. get_or stored q 0 < 256) at
      (rw (word_byte φ.sums head m word h fits ((p - 16) / 8) (p % 8) (omega arith) (omega arith)) (mod-lt _ (pow_pos 8)))

  byte_is : (p : ℕ) → p < φ.sums.body_bytes → Dec (p < 3) → Dec (p < 16) → Dec (p < 16 + 8 * m) → get_or k p 0 ≡ get_or stored p 0
  byte_is p l (yes a) d e = heads p a ∙ sym (head_at φ.sums head m word h fits p a)
  byte_is p l (no a) (yes c) e = gap-zero p (omega arith) l (inl c) ∙ sym (front-zero φ.sums head m word h fits p (omega arith) c)
  byte_is p l (no a) (no c) (yes d) = byte-ext _ _ (small p) (stored-lt p (omega arith) d) (λ i s. bit_is p i (omega arith) d s ∙ sym (word-bit φ.sums head m word h fits p i (omega arith) d s))
  byte_is p l (no a) (no c) (no d) = gap-zero p (omega arith) l (inr (omega arith)) ∙ sym (pad-zero φ.sums head m word h fits p (omega arith) l)

  front : take φ.sums.body_bytes k ≡ body_of φ.sums head m word
  front =
      ext_get_or 0 (take φ.sums.body_bytes k) (body_of φ.sums head m word) (length-take φ.sums.body_bytes k ∙ omega (arith, length-body φ.sums head m word h fits, φ.sums.whole))
      (λ p l. let l' : p < φ.sums.body_bytes = omega (arith, length-take φ.sums.body_bytes k) in
      get_or-take φ.sums.body_bytes k p 0 l' ∙ byte_is p l' (dec_lt p 3) (dec_lt p 16) (dec_lt p (16 + 8 * m)) ∙ body_at φ.sums head m word h fits p l')

  pub block-is : k ≡ stored
  block-is = unfold block in right-sealed φ.sums k check ∙ ap (sealed φ.sums) front
