-- Block b of a sheet: its length, its bytes and its bits; and what block 0 says about the sheet.
use mathlib.Core.Path.{◌≡◌, sym, ap, ap₂, ◌∙◌, fun_ext}
use mathlib.Core.Bool.{Bool, true, false, ◌&&◌, cond}
use mathlib.Core.List.{List}
use Prim.Native.Nat.{ℕ, ◌+◌, ◌-◌, ◌*◌, ◌/◌, ◌%◌, ◌≤◌, ◌<◌}
use native.Mathlib.Decide.{dec_lt}
use native.Mathlib.Omega.{arith}
use borrow.Author.Tests.{le-ltb}
use lib.Dec.{ltb}
use lib.ListN.{length, get_or, take, drop, length-drop}
use lib.Seq.{get_or-take, get_or-drop, ext_get_or, length-take-le}
use Rattle.logic.specs.Graph.{is_node}
use Rattle.logic.specs.Limits.{label_count}
use Rattle.bitset.specs.Words.{Bytes, member}
use Rattle.bitset.proofs.WordLaws.{part_small}
use Rattle.seal.specs.Seal.{block_bytes}
use Rattle.sheet.specs.Sheet.{SheetForm, sheet_bytes, block_count, bit_in, used_in, graph_in}
use Rattle.sheet.specs.Questions.{block_of}

module _ (t : List ℕ) where
  pub length-block : length t ≡ sheet_bytes → (b : ℕ) → b < block_count → length (block_of t b) ≡ block_bytes
  length-block n b h = length-take-le block_bytes (drop (block_bytes * b) t) (omega (arith, length-drop (block_bytes * b) t))

  -- block b as the code cuts it
  pub part-is : (b : ℕ) → take (block_bytes * b + block_bytes - block_bytes * b) (drop (block_bytes * b) t) ≡ block_of t b
  part-is b = let e : block_bytes * b + block_bytes - block_bytes * b ≡ block_bytes = omega arith in ap (λ (x : ℕ). take x (drop (block_bytes * b) t)) e

  pub block-byte : (b q : ℕ) → q < block_bytes → get_or (block_of t b) q 0 ≡ get_or t (block_bytes * b + q) 0
  block-byte b q l = get_or-take block_bytes (drop (block_bytes * b) t) q 0 l ∙ get_or-drop (block_bytes * b) t q 0

  pub block-small : Bytes t → (b : ℕ) → Bytes (block_of t b)
  block-small small b = part_small t block_bytes (block_bytes * b) small

  -- a bit of the 8 bytes at p of block b, which are at q of the sheet
  pub block-bit : (b p q i : ℕ) → q ≡ block_bytes * b + p → p + 8 ≤ block_bytes → bit_in (block_of t b) p i ≡ bit_in t q i
  block-bit b p q i e h = go (dec_lt i 64) where
    go : Dec (i < 64) → bit_in (block_of t b) p i ≡ bit_in t q i
    go (yes l) =
        let at : block_bytes * b + (p + i / 8) ≡ q + i / 8 = omega arith in
        ap (λ x. ltb i 64 && member x (i % 8)) (block-byte b (p + i / 8) (omega arith) ∙ ap (λ x. get_or t x 0) at)
    go (no l) = rw (le-ltb i 64 (omega arith))

  -- block 0 says n and the nodes in use
  pub byte-2 : get_or (block_of t 0) 2 0 ≡ get_or t 2 0
  byte-2 = block-byte 0 2 (omega arith)

  module _ (φ : SheetForm) where
    pub used-0 : (i : ℕ) → used_in φ t i ≡ used_in φ (block_of t 0) i
    used-0 i = go φ.holds_use where
      go : (c : Bool) → cond c (bit_in t (16 + 8 * label_count)) (λ j. ltb j (get_or t 2 0)) i ≡ cond c (bit_in (block_of t 0) (16 + 8 * label_count)) (λ j. ltb j (get_or (block_of t 0) 2 0)) i
      go true = sym (block-bit 0 (16 + 8 * label_count) (16 + 8 * label_count) i (omega arith) (omega arith))
      go false = ap (ltb i) (sym byte-2)

    pub nodes-0 : is_node (graph_in φ t) ≡ (λ i. ltb i (get_or (block_of t 0) 2 0) && used_in φ (block_of t 0) i)
    nodes-0 = unfold is_node graph_in in fun_ext (λ i. ap₂ (λ m c. ltb i m && c) (sym byte-2) (used-0 i))

-- sheets with the same blocks are the same
pub blocks-ext : (u v : List ℕ) → length u ≡ sheet_bytes → length v ≡ sheet_bytes → ((b : ℕ) → b < block_count → block_of u b ≡ block_of v b) → u ≡ v
blocks-ext u v m n e =
    ext_get_or 0 u v (m ∙ sym n) (λ p l.
    let at : p ≡ block_bytes * (p / block_bytes) + p % block_bytes = omega arith in
    ap (λ i. get_or u i 0) at ∙ sym (block-byte u (p / block_bytes) (p % block_bytes) (omega arith))
    ∙ ap (λ k. get_or k (p % block_bytes) 0) (e (p / block_bytes) (omega (arith, m)))
    ∙ block-byte v (p / block_bytes) (p % block_bytes) (omega arith) ∙ ap (λ i. get_or v i 0) (sym at))
