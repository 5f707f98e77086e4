-- The bytes of a stored block: where its head, its words and its zeros are; and the blocks of a stored sheet.
use mathlib.Core.Path.{◌≡◌, refl, sym, ◌∙◌, ap, ap₂}
use mathlib.Core.Bool.{Bool, true, false, cond}
use mathlib.Core.List.{List, [], ◌∷◌, ◌++◌}
use Prim.Native.Nat.{ℕ, suc, ◌+◌, ◌-◌, ◌*◌, ◌/◌, ◌%◌, ◌^◌, ◌≤◌, ◌<◌}
use native.Mathlib.Nat.{zero-add}
use native.Mathlib.Omega.{arith}
use borrow.Author.Tests.{lt-ltb, le-ltb}
use lib.ListN.{get_or, length, take, drop, replicate, length-append, length-replicate, get_or-replicate, get_or-append}
use lib.Seq.{get_or-append-add, take_at, drop-append-add}
use Rattle.logic.specs.Graph.{Graph}
use Rattle.logic.specs.Limits.{max_nodes, label_count, arrow_count}
use Rattle.bitset.specs.Words.{set_of, member, bytes}
use Rattle.bitset.proofs.SetLaws.{member-low}
use Rattle.bitset.proofs.BitLaws.{member-shr}
use Rattle.bitset.proofs.WordLaws.{length-bytes, get_d-bytes}
use Rattle.seal.specs.Seal.{block_bytes, Form}
use Rattle.seal.proofs.SealLaws.{length-sealed, get_d-sealed}
use Rattle.sheet.specs.Sheet.{sheet_bytes, chunks, block, SheetForm, line_of, line_count, label_block, arrow_block, store_in, padding}
use Rattle.sheet.specs.Questions.{block_of}
use Rattle.sheet.proofs.ChunkLaws.{length-chunks, take_chunk, get_d-chunks}
use Rattle.sheet.proofs.BlockParts.{block-byte, byte-2}

-- words one after the other, and a block's body
abbrev pub words_of : ℕ → (ℕ → ℕ) → List ℕ
words_of m f = chunks m 0 (λ k. bytes 8 (f k))

-- byte j of a word
abbrev pub byte_of : ℕ → ℕ → ℕ
byte_of x j = x / 2 ^ (8 * j) % 2 ^ 8

-- bit i of a word is bit i % 8 of its byte i / 8
pub bit-of-byte : (x i : ℕ) → member (byte_of x (i / 8)) (i % 8) ≡ member x i
bit-of-byte x i = member-low 8 (i % 8) (x / 2 ^ (8 * (i / 8))) (omega arith) ∙ member-shr x (8 * (i / 8)) (i % 8) ∙ ap (member x) (omega arith)

pub length-words : (m : ℕ) (f : ℕ → ℕ) → length (words_of m f) ≡ 8 * m
length-words m f = length-chunks 8 (λ k. bytes 8 (f k)) (λ k. length-bytes 8 (f k)) m 0

abbrev pub label_head : Graph → List ℕ
label_head g = 1 ∷ 0 ∷ g.n ∷ []

abbrev pub label_word : Graph → ℕ → ℕ
label_word g k = set_of g.n (line_of g k)

pub line-label : (g : Graph) (k : ℕ) → k < label_count → line_of g k ≡ g.labelled k
line-label g k l = ap (λ b. cond b (g.labelled k) g.in_use) (lt-ltb k label_count l)

pub line-use : (g : Graph) (k : ℕ) → label_count ≤ k → line_of g k ≡ g.in_use
line-use g k l = ap (λ b. cond b (g.labelled k) g.in_use) (le-ltb k label_count l)

abbrev pub arrow_head : ℕ → List ℕ
arrow_head a = 2 ∷ suc a ∷ 0 ∷ []

abbrev pub row_word_def : Graph → ℕ → ℕ → ℕ
row_word_def g a i = set_of g.n (g.joined a i)

module _ (φ : Form) where
  abbrev pub body_of : List ℕ → (m : ℕ) → (ℕ → ℕ) → List ℕ
  body_of head m f = head ++ replicate 13 0 ++ words_of m f ++ replicate (padding φ m) 0

  -- A block whose head has 3 bytes and whose m words and zeros fill the body.
  module _ (head : List ℕ) (m : ℕ) (f : ℕ → ℕ) (h : length head ≡ 3) (fits : 16 + 8 * m ≤ φ.body_bytes) where
    pub length-body : length (body_of head m f) ≡ φ.body_bytes
    length-body = simp (length-append, length-replicate) (omega (arith, length-words m f))

    length-block : length (block φ head m f) ≡ block_bytes
    length-block = unfold block in length-sealed φ (body_of head m f) length-body

    pub body_at : (p : ℕ) → p < φ.body_bytes → get_or (block φ head m f) p 0 ≡ get_or (body_of head m f) p 0
    body_at p l = unfold block in get_d-sealed φ (body_of head m f) p (omega (arith, length-body))

    -- a byte before the zeros that fill the body
    before-pad : (p : ℕ) → p < 16 + 8 * m → get_or (block φ head m f) p 0 ≡ get_or (head ++ replicate 13 0 ++ words_of m f) p 0
    before-pad p l =
        body_at p (omega arith)
        ∙ get_or-append (head ++ replicate 13 0 ++ words_of m f) (replicate (padding φ m) 0) 0 p (simp (length-append, length-replicate) (omega (arith, length-words m f)))

    -- a byte before the words
    before-words : (p : ℕ) → p < 16 → get_or (block φ head m f) p 0 ≡ get_or (head ++ replicate 13 0) p 0
    before-words p l = before-pad p (omega arith) ∙ get_or-append (head ++ replicate 13 0) (words_of m f) 0 p (simp (length-append, length-replicate) (omega arith))

    pub head_at : (p : ℕ) → p < 3 → get_or (block φ head m f) p 0 ≡ get_or head p 0
    head_at p l = before-words p (omega arith) ∙ get_or-append head (replicate 13 0) 0 p (omega arith)

    pub front-zero : (p : ℕ) → 3 ≤ p → p < 16 → get_or (block φ head m f) p 0 ≡ 0
    front-zero p l u =
        before-words p u ∙ ap (λ q. get_or (head ++ replicate 13 0) q 0) (omega arith)
        ∙ get_or-append-add head (replicate 13 0) (p - 3) 0 ∙ get_or-replicate 13 (p - 3) 0 0 (omega arith)

    pub pad-zero : (p : ℕ) → 16 + 8 * m ≤ p → p < φ.body_bytes → get_or (block φ head m f) p 0 ≡ 0
    pad-zero p l u =
        let front : List ℕ = head ++ replicate 13 0 ++ words_of m f in
        let len : length front ≡ 16 + 8 * m = simp (length-append, length-replicate) (omega (arith, length-words m f)) in
        body_at p u ∙ ap (λ q. get_or (front ++ replicate (padding φ m) 0) q 0) (omega arith)
        ∙ get_or-append-add front (replicate (padding φ m) 0) (p - length front) 0 ∙ get_or-replicate (padding φ m) (p - length front) 0 0 (omega arith)

    -- byte j of word k
    pub word_byte : (k j : ℕ) → k < m → j < 8 → get_or (block φ head m f) (16 + (8 * k + j)) 0 ≡ byte_of (f k) j
    word_byte k j l b =
        before-pad (16 + (8 * k + j)) (omega arith)
        ∙ ap (λ q. get_or (head ++ replicate 13 0 ++ words_of m f) q 0) (sym (simp (length-append, length-replicate) (omega arith)))
        ∙ get_or-append-add (head ++ replicate 13 0) (words_of m f) (8 * k + j) 0
        ∙ get_d-chunks 8 (λ k. bytes 8 (f k)) (λ k. length-bytes 8 (f k)) m 0 k j l b ∙ get_d-bytes 8 (f (0 + k)) j b ∙ ap (λ a. byte_of (f a) j) (zero-add k)

    -- a bit of a byte of a word
    pub word-bit : (p i : ℕ) → 16 ≤ p → p < 16 + 8 * m → i < 8 → member (get_or (block φ head m f) p 0) i ≡ member (f ((p - 16) / 8)) (p % 8 * 8 + i)
    word-bit p i l u b =
        ap (λ x. member x i)
        (ap (λ q. get_or (block φ head m f) q 0) (omega arith) ∙ word_byte ((p - 16) / 8) (p % 8) (omega arith) (omega arith))
        ∙ ap₂ (λ j r. member (byte_of (f ((p - 16) / 8)) j) r) (omega arith) (omega arith) ∙ bit-of-byte (f ((p - 16) / 8)) (p % 8 * 8 + i)

-- A block 0 without the nodes in use has one line less.
pub lines-range : (b : Bool) → (label_count ≤ cond b (label_count + 1) label_count) × (cond b (label_count + 1) label_count ≤ label_count + 1)
lines-range true = (omega arith, omega arith)
lines-range false = (omega arith, omega arith)

module _ (φ : SheetForm) where
  pub label-lines : label_count ≤ line_count φ
  label-lines = (lines-range φ.holds_use).0

  pub lines-held : (b : Bool) → φ.holds_use ≡ b → line_count φ ≡ cond b (label_count + 1) label_count
  lines-held b e = rw e

  pub few-lines : line_count φ ≤ label_count + 1
  few-lines = (lines-range φ.holds_use).1

  -- The blocks of a graph: their words fit, their heads, their words.
  pub labels-fit : 16 + 8 * line_count φ ≤ φ.sums.body_bytes
  labels-fit = omega (arith, few-lines, φ.sums.whole, φ.sums.few)

  pub rows_fit : 16 + 8 * max_nodes ≤ φ.sums.body_bytes
  rows_fit = omega (arith, φ.sums.whole, φ.sums.few)

  pub length-label_block : (g : Graph) → length (label_block φ g) ≡ block_bytes
  length-label_block g = unfold label_block in length-block φ.sums (label_head g) (line_count φ) (label_word g) refl labels-fit

  pub length-arrow_block : (g : Graph) (a : ℕ) → length (arrow_block φ g a) ≡ block_bytes
  length-arrow_block g a = unfold arrow_block in length-block φ.sums (arrow_head a) max_nodes (row_word_def g a) refl rows_fit

  pub length-store : (g : Graph) → length (store_in φ g) ≡ sheet_bytes
  unfolding store_in
  length-store g = length-append (label_block φ g) _ ∙ omega (arith, length-label_block g, length-chunks block_bytes (arrow_block φ g) (length-arrow_block g) arrow_count 0)

  -- the blocks of the stored sheet
  pub first_block : (g : Graph) → block_of (store_in φ g) 0 ≡ label_block φ g
  first_block g = unfold store_in in take_at (label_block φ g) (chunks arrow_count 0 (arrow_block φ g)) block_bytes (length-label_block g)

  pub later-block : (g : Graph) (a : ℕ) → a < arrow_count → block_of (store_in φ g) (suc a) ≡ arrow_block φ g a
  unfolding store_in
  later-block g a h =
      let e : block_bytes * suc a ≡ length (label_block φ g) + block_bytes * a = omega (arith, length-label_block g) in
      ap (λ p. take block_bytes (drop p (label_block φ g ++ chunks arrow_count 0 (arrow_block φ g)))) e
      ∙ ap (take block_bytes) (drop-append-add (label_block φ g) (chunks arrow_count 0 (arrow_block φ g)) (block_bytes * a))
      ∙ take_chunk block_bytes (arrow_block φ g) (length-arrow_block g) arrow_count 0 a h ∙ ap (arrow_block φ g) (zero-add a)

  pub n-is : (g : Graph) → get_or (store_in φ g) 2 0 ≡ g.n
  unfolding label_block
  n-is g = sym (byte-2 (store_in φ g)) ∙ ap (λ k. get_or k 2 0) (first_block g) ∙ head_at φ.sums (label_head g) (line_count φ) (label_word g) refl labels-fit 2 (omega arith)

  -- byte j of line k, and of row i of arrow a
  pub label-byte : (g : Graph) (k j : ℕ) → k < line_count φ → j < 8 → get_or (store_in φ g) (16 + 8 * k + j) 0 ≡ byte_of (label_word g k) j
  unfolding label_block
  label-byte g k j h l =
      let at : 16 + 8 * k + j ≡ block_bytes * 0 + (16 + (8 * k + j)) = omega arith in
      ap (λ p. get_or (store_in φ g) p 0) at ∙ sym (block-byte (store_in φ g) 0 (16 + (8 * k + j)) (omega (arith, few-lines)))
      ∙ ap (λ b. get_or b (16 + (8 * k + j)) 0) (first_block g) ∙ word_byte φ.sums (label_head g) (line_count φ) (label_word g) refl labels-fit k j h l

  pub arrow-byte : (g : Graph) (a i j : ℕ) → a < arrow_count → i < max_nodes → j < 8 → get_or (store_in φ g) (block_bytes * (a + 1) + (16 + 8 * i) + j) 0 ≡ byte_of (row_word_def g a i) j
  unfolding arrow_block
  arrow-byte g a i j h h' l =
      let at : block_bytes * (a + 1) + (16 + 8 * i) + j ≡ block_bytes * suc a + (16 + (8 * i + j)) = omega arith in
      ap (λ p. get_or (store_in φ g) p 0) at ∙ sym (block-byte (store_in φ g) (suc a) (16 + (8 * i + j)) (omega arith))
      ∙ ap (λ b. get_or b (16 + (8 * i + j)) 0) (later-block g a h) ∙ word_byte φ.sums (arrow_head a) max_nodes (row_word_def g a) refl rows_fit i j h' l
