-- The laws of words in bytes.
use mathlib.Core.Path.{◌≡◌, refl, sym, ap, ap₂, ◌∙◌}
use mathlib.Core.List.{List, [], ◌∷◌, ◌++◌, append_assoc}
use mathlib.Core.Logic.{◌⊎◌, inl, inr, ⊎_elim}
use Prim.Native.Nat.{ℕ, zero, suc, ◌+◌, ◌-◌, ◌*◌, ◌/◌, ◌%◌, ◌^◌, ◌≤◌, ◌<◌}
use native.Mathlib.Nat.{pow-suc, mod-one, mod-eq_of_lt}
use native.Mathlib.Omega.{arith}
use lib.Arith.{mod-mul}
use lib.Dec.{lit<}
use lib.ListN.{length, get_or, take, drop, length-append, length-take, length-drop, get_or-append, get_or-eq_default}
use lib.Pow.{shr-shr}
use lib.Seq.{drop-drop, drop-cons, length-take-le, get_or-take, get_or-drop, get_or-append-add, ext_get_or}
use Rattle.std.specs.Int.{w64, to_le_bytes}
use borrow.Rule.Slice.PartMut.{put_mid}
use Rattle.bitset.specs.Words.{Bytes, member, bytes, number_of, word_at, put_word_def}
use Rattle.bitset.proofs.SetLaws.{member-low, member-zero}
use Rattle.bitset.proofs.BitLaws.{below_or_not, member-shr}

-- the bytes of a number, and the number of bytes

pub length-bytes : (k x : ℕ) → length (bytes k x) ≡ k
unfolding bytes
length-bytes zero x = refl
length-bytes (suc k) x = ap suc (length-bytes k (x / 256))

pub get_d-bytes : (k x j : ℕ) → j < k → get_or (bytes k x) j 0 ≡ x / 2 ^ (8 * j) % 2 ^ 8
unfolding bytes
get_d-bytes zero x j h = absurd (omega arith)
get_d-bytes (suc k) x zero h = let e : x ≡ x / 1 = omega arith in ap (λ (y : ℕ). y % 256) e
get_d-bytes (suc k) x (suc j) h =
    let e : 8 + 8 * j ≡ 8 * suc j = omega arith in
    get_d-bytes k (x / 256) j (omega arith)
    ∙ ap (λ (y : ℕ). y % 2 ^ 8) (shr-shr x 8 (8 * j) ∙ ap (λ (i : ℕ). x / 2 ^ i) e)

pub positive : (k : ℕ) → 0 < 256 ^ k
positive zero = lit< tt
positive (suc k) = omega (arith, positive k, pow-suc 256 k)

pub number_of-bytes : (k x : ℕ) → number_of (bytes k x) ≡ x % 256 ^ k
unfolding number_of bytes
number_of-bytes zero x = sym (mod-one x)
number_of-bytes (suc k) x = rw (number_of-bytes k (x / 256), pow-suc 256 k) (omega (arith, mod-mul x {m = 256 ^ k} {c = 256} (positive k) (lit< tt)))

-- bit i of the number is bit i % 8 of byte i / 8
member-number_of : (l : List ℕ) → Bytes l → (i : ℕ) → member (number_of l) i ≡ member (get_or l (i / 8) 0) (i % 8)
unfolding number_of
member-number_of [] small i = member-zero i ∙ sym (member-zero (i % 8))
member-number_of (b ∷ bs) small i = ⊎_elim first (later (member-number_of bs (λ j. small (suc j)) (i - 8))) (below_or_not i 8) where
  first : i < 8 → member (b + 256 * number_of bs) i ≡ member (get_or (b ∷ bs) (i / 8) 0) (i % 8)
  first h =
      let e : (b + 256 * number_of bs) % 2 ^ 8 ≡ b = omega (arith, small 0) in
      let p : 0 ≡ i / 8 = omega arith in
      let q : i ≡ i % 8 = omega arith in
      sym (member-low 8 i (b + 256 * number_of bs) h) ∙ ap (λ (x : ℕ). member x i) e
      ∙ ap₂ (λ (k r : ℕ). member (get_or (b ∷ bs) k 0) r) p q

  later : member (number_of bs) (i - 8) ≡ member (get_or bs ((i - 8) / 8) 0) ((i - 8) % 8) → 8 ≤ i → member (b + 256 * number_of bs) i ≡ member (get_or (b ∷ bs) (i / 8) 0) (i % 8)
  later rest h =
      let e : (b + 256 * number_of bs) / 2 ^ 8 ≡ number_of bs = omega (arith, small 0) in
      let f : i ≡ (i - 8) + 8 = omega arith in
      let p : suc ((i - 8) / 8) ≡ i / 8 = omega arith in
      let q : (i - 8) % 8 ≡ i % 8 = omega arith in
      ap (member (b + 256 * number_of bs)) f ∙ sym (member-shr (b + 256 * number_of bs) 8 (i - 8)) ∙ ap (λ (x : ℕ). member x (i - 8)) e
      ∙ rest
      ∙ ap₂ (λ (k r : ℕ). member (get_or (b ∷ bs) k 0) r) p q

-- a word among the bytes of a list

pub get_d-eight : (l : List ℕ) (at j : ℕ) → j < 8 → get_or (take 8 (drop at l)) j 0 ≡ get_or l (at + j) 0
get_d-eight l at j h = get_or-take 8 (drop at l) j 0 h ∙ get_or-drop at l j 0

-- part of a list of bytes is a list of bytes
pub part_small : (l : List ℕ) (size at : ℕ) → Bytes l → Bytes (take size (drop at l))
part_small l size at small j = ⊎_elim
    (λ (b : j < size). omega (arith, get_or-take size (drop at l) j 0 b, get_or-drop at l j 0, small (at + j)))
    (λ (b : size ≤ j). omega (arith, get_or-eq_default (take size (drop at l)) 0 {n = j} (simp length-take (omega arith))))
    (below_or_not j size)

pub member-word_at : (l : List ℕ) (at i : ℕ) → Bytes l → i < 64 → member (word_at l at) i ≡ member (get_or l (at + i / 8) 0) (i % 8)
unfolding word_at
member-word_at l at i small h =
    member-number_of (take 8 (drop at l)) (part_small l 8 at small) i ∙ ap (λ (b : ℕ). member b (i % 8)) (get_d-eight l at (i / 8) (omega arith))

-- the word is x when its bytes are those of x
pub word_at-of : (l : List ℕ) (at x : ℕ) → at + 8 ≤ length l → x < 2 ^ 64 → ((j : ℕ) → j < 8 → get_or l (at + j) 0 ≡ x / 2 ^ (8 * j) % 2 ^ 8) → word_at l at ≡ x
unfolding word_at
word_at-of l at x h b e =
    let n : length (take 8 (drop at l)) ≡ 8 = simp (length-take, length-drop) (omega arith) in
    ap number_of (ext_get_or 0 (take 8 (drop at l)) (bytes 8 x) (n ∙ sym (length-bytes 8 x))
    (λ j i. let k : j < 8 = omega arith in get_d-eight l at j k ∙ e j k ∙ sym (get_d-bytes 8 x j k)))
    ∙ number_of-bytes 8 x ∙ mod-eq_of_lt b

module _ (l : List ℕ) (at x : ℕ) (h : at + 8 ≤ length l) where
  taken : length (take at l) ≡ at
  taken = length-take-le at l (omega arith)

  pub length-put_word : length (put_word_def l at x) ≡ length l
  length-put_word = unfold put_word_def in simp (length-append, length-drop) (omega (arith, taken, length-bytes 8 x))

  -- no other byte changes
  pub put_word-other : (i : ℕ) → (i < at) ⊎ (at + 8 ≤ i) → get_or (put_word_def l at x) i 0 ≡ get_or l i 0
  unfolding put_word_def
  put_word-other i = ⊎_elim before behind where
    before : i < at → get_or (take at l ++ bytes 8 x ++ drop (at + 8) l) i 0 ≡ get_or l i 0
    before b =
        get_or-append (take at l ++ bytes 8 x) (drop (at + 8) l) 0 i (simp length-append (omega (arith, taken)))
        ∙ get_or-append (take at l) (bytes 8 x) 0 i (omega (arith, taken)) ∙ get_or-take at l i 0 b

    behind : at + 8 ≤ i → get_or (take at l ++ bytes 8 x ++ drop (at + 8) l) i 0 ≡ get_or l i 0
    behind b =
        let n : length (take at l ++ bytes 8 x) ≡ at + 8 = simp length-append (omega (arith, taken, length-bytes 8 x)) in
        let e : i ≡ length (take at l ++ bytes 8 x) + (i - (at + 8)) = omega arith in
        let f : at + 8 + (i - (at + 8)) ≡ i = omega arith in
        ap (λ (k : ℕ). get_or (take at l ++ bytes 8 x ++ drop (at + 8) l) k 0) e
        ∙ get_or-append-add (take at l ++ bytes 8 x) (drop (at + 8) l) (i - (at + 8)) 0
        ∙ get_or-drop (at + 8) l (i - (at + 8)) 0 ∙ ap (λ (k : ℕ). get_or l k 0) f

  -- a word next to it is unchanged
  pub word_at-other : (p : ℕ) → (p + 8 ≤ at) ⊎ (at + 8 ≤ p) → word_at (put_word_def l at x) p ≡ word_at l p
  unfolding word_at
  word_at-other p o =
      ap number_of (ext_get_or 0 (take 8 (drop p (put_word_def l at x))) (take 8 (drop p l)) (simp (length-take, length-drop, length-put_word))
      (λ j i. let k : j < 8 = omega (arith, length-take 8 (drop p (put_word_def l at x))) in
      get_d-eight (put_word_def l at x) p j k ∙ put_word-other (p + j) (⊎_elim (λ a. inl (omega arith)) (λ a. inr (omega arith)) o) ∙ sym (get_d-eight l p j k)))

-- the forms of the code: a word as a sum of eight bytes, and eight stores

unfoldable pub sum_of_bytes : List ℕ → ℕ → ℕ
sum_of_bytes l at =
    get_or l at 0 + get_or l (at + 1) 0 * 0x100 + get_or l (at + 2) 0 * 0x10000 + get_or l (at + 3) 0 * 0x1000000
    + get_or l (at + 4) 0 * 0x100000000 + get_or l (at + 5) 0 * 0x10000000000 + get_or l (at + 6) 0 * 0x1000000000000 + get_or l (at + 7) 0 * 0x100000000000000

-- k bytes of a list from i + j on
bytes_from : ℕ → List ℕ → ℕ → ℕ → List ℕ
bytes_from zero l i j = []
bytes_from (suc k) l i j = get_or l (i + j) 0 ∷ bytes_from k l i (suc j)

bytes-from : (k : ℕ) (l : List ℕ) (i j : ℕ) → i + j + k ≤ length l → take k (drop (i + j) l) ≡ bytes_from k l i j
unfolding bytes_from
bytes-from zero l i j h = refl
bytes-from (suc k) l i j h =
    let e : suc (i + j) ≡ i + suc j = omega arith in
    rw (drop-cons l (i + j) 0 (omega arith), e) (ap (get_or l (i + j) 0 ∷◌) (bytes-from k l i (suc j) (omega arith)))

pub loaded : (l : List ℕ) (at r : ℕ) → at + 8 ≤ length l → r ≡ sum_of_bytes l at → r ≡ word_at l at
unfolding word_at number_of sum_of_bytes bytes_from
loaded l at r h e =
    let z : at + 0 ≡ at = omega arith in
    let b = bytes-from 8 l at 0 (omega arith) in
    e ∙ rw (rw z at b) (omega arith)

pub stored : (l : List ℕ) (at x : ℕ) (b : List ℕ) → b ≡ to_le_bytes w64 x → put_mid at (at + 8 - at) l b ≡ put_word_def l at x
unfolding put_word_def bytes
stored l at x b e =
    let q : (x / 0x10000 ≡ x / 256 / 256) × (x / 0x1000000 ≡ x / 256 / 256 / 256) × (x / 0x100000000 ≡ x / 256 / 256 / 256 / 256)
    × (x / 0x10000000000 ≡ x / 256 / 256 / 256 / 256 / 256) × (x / 0x1000000000000 ≡ x / 256 / 256 / 256 / 256 / 256 / 256)
    × (x / 0x100000000000000 ≡ x / 256 / 256 / 256 / 256 / 256 / 256 / 256) = omega arith in
    let n : at + 8 - at ≡ 8 = omega arith in
    let d : drop (at + 8 - at) (drop at l) ≡ drop (at + 8) l = ap (λ k. drop k (drop at l)) n ∙ drop-drop 8 at l in
    let f : b ≡ bytes 8 x = e ∙ cc in
    ap₂ (λ y z. take at l ++ (y ++ z)) f d ∙ sym (append_assoc (take at l) (bytes 8 x) (drop (at + 8) l))
