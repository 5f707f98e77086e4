-- Slots of one width: a word put into a slot is there, and the other slots keep theirs.
use mathlib.Core.Path.{◌≡◌, sym, ◌∙◌, ap, subst}
use mathlib.Core.List.{List, ◌∷◌, ◌++◌}
use Prim.Native.Nat.{ℕ, suc, ◌+◌, ◌*◌, ◌-◌, ◌≤◌, ◌<◌, min}
use native.Mathlib.Nat.{mul-le-mul, mul-suc, le_trans}
use native.Mathlib.Omega.{arith}
use native.Mathlib.Decide.{dec_lt}
use lib.ListN.{length, get_or, take, drop, length-append, length-take, length-drop, get_or-append}
use lib.Seq.{length-take-le, take-append_seam, drop-append-add, get_or-append-add, get_or_at, get_or-take, get_or-drop, ext_get_or}
use Rattle.names.specs.Token.{Token}
use Rattle.buffers.specs.Slots.{Slots, slot_at, put_slot_def}

-- No slot ends after the last one.
pub slot-end : (width count i : ℕ) → i < count → width * i + width ≤ width * count
slot-end width count i h = subst (λ x. x ≤ width * count) (mul-suc width i) (mul-le-mul {n₂ = width} (omega arith) h)

pub slot-inside : {width count : ℕ} {table : List ℕ} → Slots width count table → (i : ℕ) → i < count → width * i + 1 + get_or table (width * i) 0 ≤ length table
slot-inside {width} {count} {table} s i h = omega (arith, s.room, s.short i h, slot-end width count i h)

-- The first of them are slots too.
pub fewer-slots : {width count fewer : ℕ} {table : List ℕ} → Slots width count table → fewer ≤ count → Slots width fewer table
fewer-slots {width} {count} {fewer} s h = record { room = le_trans (mul-le-mul {n₂ = width} (omega arith) h) s.room; short = λ i l. s.short i (omega arith) }

-- How long the word of a slot is.
pub slot-length : (width : ℕ) (t : List ℕ) (j : ℕ) → width * j + width ≤ length t → get_or t (width * j) 0 < width → length (slot_at width t j) ≡ get_or t (width * j) 0
unfolding slot_at
slot-length width t j r h = length-take-le _ (drop (width * j + 1) t) (omega (arith, length-drop (width * j + 1) t))

-- Two tables that have the same bytes in a slot have the same word there.
pub slot_same : (width : ℕ) (s t : List ℕ) (j : ℕ) → length s ≡ length t → get_or t (width * j) 0 < width
    → ((p : ℕ) → width * j ≤ p → p < width * j + width → get_or s p 0 ≡ get_or t p 0) → slot_at width s j ≡ slot_at width t j
unfolding slot_at
slot_same width s t j e h f =
    ap (λ n. take n (drop (width * j + 1) s)) (f (width * j) (omega arith) (omega arith))
    ∙ ext_get_or 0 (take (get_or t (width * j) 0) (drop (width * j + 1) s)) (take (get_or t (width * j) 0) (drop (width * j + 1) t))
    (length-take (get_or t (width * j) 0) (drop (width * j + 1) s)
    ∙ ap (min (get_or t (width * j) 0)) (length-drop (width * j + 1) s ∙ ap (λ n. n - (width * j + 1)) e ∙ sym (length-drop (width * j + 1) t))
    ∙ sym (length-take (get_or t (width * j) 0) (drop (width * j + 1) t)))
    (λ x l. each x (below x l))
  where
    below : (x : ℕ) → x < length (take (get_or t (width * j) 0) (drop (width * j + 1) s)) → x < get_or t (width * j) 0
    below x l = omega (arith, length-take (get_or t (width * j) 0) (drop (width * j + 1) s))

    each : (x : ℕ) → x < get_or t (width * j) 0 → get_or (take (get_or t (width * j) 0) (drop (width * j + 1) s)) x 0 ≡ get_or (take (get_or t (width * j) 0) (drop (width * j + 1) t)) x 0
    each x l =
        get_or-take (get_or t (width * j) 0) (drop (width * j + 1) s) x 0 l ∙ get_or-drop (width * j + 1) s x 0
        ∙ f (width * j + 1 + x) (omega arith) (omega arith)
        ∙ sym (get_or-take (get_or t (width * j) 0) (drop (width * j + 1) t) x 0 l ∙ get_or-drop (width * j + 1) t x 0)

-- A word put into a slot that exists and that it fits into.
module _ (width : ℕ) (table : List ℕ) (i : ℕ) (word : Token) (room : width * i + width ≤ length table) (small : length word < width) where
  front : length (take (width * i) table) ≡ width * i
  front = length-take-le (width * i) table (omega arith)

  pub put-length : length (put_slot_def width table i word) ≡ length table
  unfolding put_slot_def
  put-length =
      length-append (take (width * i) table) _
      ∙ omega (arith, front, length-append word (drop (width * i + 1 + length word) table), length-drop (width * i + 1 + length word) table)

  put-head : get_or (put_slot_def width table i word) (width * i) 0 ≡ length word
  unfolding put_slot_def
  put-head = get_or_at (take (width * i) table) (length word) _ 0 (width * i) front

  word_first : drop (width * i + 1) (put_slot_def width table i word) ≡ word ++ drop (width * i + 1 + length word) table
  unfolding put_slot_def
  word_first =
      ap (λ n. drop (n + 1) (take (width * i) table ++ (length word ∷ (word ++ drop (width * i + 1 + length word) table)))) (sym front)
      ∙ drop-append-add (take (width * i) table) (length word ∷ (word ++ drop (width * i + 1 + length word) table)) 1

  pub put-there : slot_at width (put_slot_def width table i word) i ≡ word
  unfolding slot_at
  put-there = ap (λ n. take n (drop (width * i + 1) (put_slot_def width table i word))) put-head ∙ ap (take (length word)) word_first ∙ take-append_seam word _

  put-before : (p : ℕ) → p < width * i → get_or (put_slot_def width table i word) p 0 ≡ get_or table p 0
  unfolding put_slot_def
  put-before p h = get_or-append (take (width * i) table) _ 0 p (omega (arith, front)) ∙ get_or-take (width * i) table p 0 h

  put-after : (p : ℕ) → width * i + width ≤ p → get_or (put_slot_def width table i word) p 0 ≡ get_or table p 0
  unfolding put_slot_def
  put-after p h =
      let rest = drop (width * i + 1 + length word) table in
      let q = p - (width * i + 1 + length word) in
      let e : p ≡ length (take (width * i) table) + (suc (length word) + q) = omega (arith, front) in
      let f : width * i + 1 + length word + q ≡ p = omega arith in
      ap (λ n. get_or (take (width * i) table ++ (length word ∷ (word ++ rest))) n 0) e
      ∙ get_or-append-add (take (width * i) table) (length word ∷ (word ++ rest)) (suc (length word) + q) 0
      ∙ get_or-append-add (length word ∷ word) rest q 0
      ∙ get_or-drop (width * i + 1 + length word) table q 0
      ∙ ap (λ n. get_or table n 0) f

  pub put-elsewhere : (j : ℕ) → (j ≡ i → ⊥) → get_or table (width * j) 0 < width → slot_at width (put_slot_def width table i word) j ≡ slot_at width table j
  put-elsewhere j n h =
      elim (dec_lt j i) [
        | yes l ↦ let b = slot-end width i j l in slot_same width (put_slot_def width table i word) table j put-length h (λ p f t. put-before p (omega arith))
        | no l ↦ let k : i < j = omega arith in let b = slot-end width j i k in slot_same width (put_slot_def width table i word) table j put-length h (λ p f t. put-after p (omega arith))
      ]

  pub put-slots : (count : ℕ) → Slots width count table → Slots width count (put_slot_def width table i word)
  put-slots count s = record { room = let r = s.room in omega (arith, put-length); short = short }
    where
      short : (j : ℕ) → j < count → get_or (put_slot_def width table i word) (width * j) 0 < width
      short j h =
          elim (dec_lt j i) [
            | yes l ↦ let b = slot-end width i j l in subst (λ n. n < width) (sym (put-before (width * j) (omega arith))) (s.short j h)
            | no l ↦ elim (dec_lt i j) [
              | yes k ↦ let b = slot-end width j i k in subst (λ n. n < width) (sym (put-after (width * j) (omega arith))) (s.short j h)
              | no k ↦ let e : i ≡ j = omega arith in subst (λ n. get_or (put_slot_def width table i word) (width * n) 0 < width) e (subst (λ n. n < width) (sym put-head) small)
            ]
          ]
