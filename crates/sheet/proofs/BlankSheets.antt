-- A blank sheet, block by block.
use mathlib.Core.Path.{◌≡◌, refl, sym, ap, ◌∙◌, fun_ext}
use mathlib.Core.Bool.{true, false}
use mathlib.Core.List.{List, [], ◌∷◌}
use Prim.Native.Nat.{ℕ, zero, suc, ◌-◌, ◌≤◌, ◌<◌}
use native.Mathlib.Omega.{arith}
use borrow.Author.Tests.{eq-eqb, le-leb, lt-ltb}
use lib.Dec.{ltb}
use lib.ListN.{length, set, replicate}
use Rattle.answer.specs.Asked.{passed, ◌>>◌, is}
use Rattle.logic.specs.Limits.{max_nodes, label_count}
use Rattle.bitset.specs.Words.{Bytes, set_of, bytes}
use Rattle.bitset.proofs.SetLaws.{set_of-none, set_of-cong, set_of-lowest}
use Rattle.seal.specs.Seal.{reseal, block_bytes}
use Rattle.sheet.specs.Sheet.{SheetForm, present, sheet_bytes, block_count, chunks, block, line_count, label_block, arrow_block, store, graph_in, blank}
use Rattle.sheet.specs.Questions.{block_of, SoundIn, ask_blank}
use Rattle.sheet.specs.Writes.{bare_block, blank_block_def}
use Rattle.sheet.proofs.BlockParts.{length-block}
use Rattle.sheet.proofs.BlockLaws.{label_head, label_word, line-label, arrow_head, length-store, labels-fit, rows_fit, first_block, later-block}
use Rattle.sheet.proofs.SoundSheets.{sound-is-stored}
use Rattle.sheet.proofs.WriteLaws.{put-raw, seal-raw}

pub heads : (l : List ℕ) (m x y z : ℕ) → l ≡ replicate m 0 → m ≡ block_bytes → set (set (set l 0 x) 1 y) 2 z ≡ bare_block x y z
heads l m x y z e q = unfold bare_block in ap (λ k. set (set (set k 0 x) 1 y) 2 z) (e ∙ ap (λ k. replicate k 0) q)

-- the nodes below n are all n
pub all-used : (n : ℕ) → n ≤ max_nodes → set_of 64 (λ i. ltb i n) ≡ set_of n (λ i. ltb i n)
all-used n h = set_of-lowest n 64 (omega arith) ∙ set_of-cong n (λ i. true) (λ i. ltb i n) (λ i l. sym (lt-ltb i n l))

-- an empty block is a bare one, whose check bytes are zero
abbrev unsealed : List ℕ
unsealed = replicate (block_bytes - present.sums.body_bytes) 0

-- block j of the blank sheet, as the code makes it
abbrev pub blank_of : ℕ → ℕ → List ℕ
blank_of n j = block_of (store (blank n)) j

pub blank_of-length : (n j : ℕ) → j < block_count → length (blank_of n j) ≡ block_bytes
blank_of-length n j l = length-block (store (blank n)) (length-store present (blank n)) j l

pub first_made : (n used : ℕ) → used ≡ set_of n (λ i. ltb i n) → reseal present.sums (blank_block_def 1 0 n used) ≡ blank_of n 0
unfolding label_block chunks bytes bare_block blank_block_def
first_made n used e =
    ap (reseal present.sums)
    (put-raw present.sums (label_head (blank n)) refl (line_count present) unsealed (λ k. 0) (label_word (blank n)) label_count used (omega arith) (sym e)
    (λ j l d. let b : j < label_count = omega (arith, d) in sym (ap (set_of n) (line-label (blank n) j b) ∙ set_of-none n)))
    ∙ seal-raw present.sums (label_head (blank n)) refl (line_count present) unsealed (label_word (blank n)) (labels-fit present) ∙ sym (first_block present (blank n))

pub later-made : (n b : ℕ) → 1 ≤ b → b < block_count → reseal present.sums (blank_block_def 2 b 0 0) ≡ blank_of n b
unfolding arrow_block chunks bytes bare_block blank_block_def
later-made n zero h l = absurd (omega arith)
later-made n (suc a) h l =
    ap (reseal present.sums) (put-raw present.sums (arrow_head a) refl max_nodes unsealed (λ k. 0) (λ k. set_of n (λ i. false)) label_count 0 (omega arith) (set_of-none n) (λ j l d. sym (set_of-none n)))
    ∙ seal-raw present.sums (arrow_head a) refl max_nodes unsealed (λ i. set_of n (λ i. false)) (rows_fit present)
    ∙ sym (later-block present (blank n) a (omega arith))

-- 5, then 1
pub room : (n len : ℕ) → 1 ≤ n → n ≤ max_nodes → len ≡ sheet_bytes → ask_blank n len ≡ passed tt
room n len l u h = unfold ask_blank is ◌>>◌ in rw (le-leb 1 n l, le-leb n max_nodes u, eq-eqb _ _ h)

-- Block 1 of a sheet without arrows of kind 0, in any form: its words are zero.
pub block-1-without-arrows : (φ : SheetForm) (t : List ℕ) → Bytes t → SoundIn φ t → ((i j : ℕ) → (graph_in φ t).joined 0 i j ≡ false) → block_of t 1 ≡ block φ.sums (2 ∷ 1 ∷ 0 ∷ []) max_nodes (λ i. 0)
unfolding arrow_block
block-1-without-arrows φ t small sound none =
    let g = graph_in φ t in
    ap (λ (s : List ℕ). block_of s 1) (sound-is-stored φ t small sound).stored ∙ later-block φ g 0 (omega arith)
    ∙ ap (block φ.sums (2 ∷ 1 ∷ 0 ∷ []) max_nodes) (fun_ext (λ i. ap (set_of g.n) (fun_ext (none i)) ∙ set_of-none g.n))
