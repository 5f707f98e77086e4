-- Converting a sheet of one form to a form with a shorter body: each block is sealed again.
use mathlib.Core.Path.{◌≡◌, refl, sym, ap, ap₂, ◌∙◌}
use mathlib.Core.List.{List, ◌++◌, append_assoc}
use Prim.Native.Nat.{ℕ, zero, suc, ◌+◌, ◌-◌, ◌*◌, ◌≤◌, ◌<◌}
use native.Mathlib.Omega.{arith}
use lib.Dec.{ltb, lit≤}
use lib.ListN.{length, get_or, take, drop, replicate, replicate-append-replicate}
use Rattle.answer.specs.Asked.{Asked, refused, after}
use Rattle.logic.proofs.Tables.{update_same, update_other}
use Rattle.logic.specs.Graph.{Graph}
use Rattle.logic.specs.Limits.{max_nodes, label_count}
use Rattle.logic.specs.Steps.{update}
use Rattle.bitset.specs.Words.{Bytes, set_of, bytes, put_word_def}
use Rattle.bitset.proofs.WordLaws.{length-put_word}
use Rattle.seal.specs.Seal.{block_bytes, Form, seal, sealed, reseal}
use Rattle.seal.specs.declared.Modulo.{Modulo}
use Rattle.seal.specs.declared.Modulo.TheVariants.{M257, M255}
use Rattle.seal.specs.Forms.{form_of}
use Rattle.sheet.specs.Sheet.{present, former, sheet_bytes, block_count, padding, block, label_block, arrow_block, store_in, store, graph_in, graph_of}
use Rattle.sheet.specs.Questions.{block_of, ask_sheet_in, SoundIn, Sound}
use Rattle.store.specs.Converted.{ask_convert, converted}
use Rattle.sheet.proofs.ChunkLaws.{chunks-same, chunks-more}
use Rattle.sheet.proofs.BlockParts.{length-block}
use Rattle.sheet.proofs.BlockLaws.{words_of, body_of, labels-fit, rows_fit, label_head, label_word, arrow_head, row_word_def, first_block, later-block}
use Rattle.sheet.proofs.SoundWords.{sound-length, sound-n}
use Rattle.sheet.proofs.SoundSheets.{sound-is-stored}
use Rattle.sheet.proofs.ReplacedBlocks.{replaced-length, block_here, block-other}
use Rattle.sheet.proofs.WriteLaws.{put-raw, seal-raw}
use Rattle.sheet.proofs.BlankSheets.{all-used}
use Rattle.store.proofs.StoredPasses.{stored-passes}
use Rattle.store.proofs.StoredReads.{read_back}

more-zeros : (n m d : ℕ) → n ≡ m + d → replicate {A = ℕ} n 0 ≡ replicate m 0 ++ replicate d 0
more-zeros n m d e = ap (λ x. replicate x 0) e ∙ sym (replicate-append-replicate m d 0)

module _ (φ ψ : Form) (shorter : ψ.body_bytes ≤ φ.body_bytes) where
  module _ (head : List ℕ) (m : ℕ) (f : ℕ → ℕ) (h : length head ≡ 3) where
    -- the last zeros of the longer body are where the shorter form has its first check bytes
    abbrev behind : List ℕ
    behind = replicate (φ.body_bytes - ψ.body_bytes) 0 ++ seal φ (body_of φ head m f)

    block-resealed : 16 + 8 * m ≤ ψ.body_bytes → reseal ψ (block φ head m f) ≡ block ψ head m f
    unfolding block sealed
    block-resealed fits = ap (reseal ψ) (rw (more-zeros (padding φ m) (padding ψ m) (φ.body_bytes - ψ.body_bytes) (omega arith)) (simp append_assoc)) ∙ seal-raw ψ head h m behind f fits

    -- a block with one more word, put where there were zeros
    word-of-zeros : words_of (m + 1) (update f m 0) ≡ words_of m f ++ replicate 8 0
    unfolding bytes
    word-of-zeros =
        chunks-more m (λ j. bytes 8 (update f m 0 j))
        ∙ ap₂ ◌++◌ (chunks-same m 0 _ _ (λ j a b. ap (bytes 8) (update_other f m 0 j (λ q. omega arith)))) (ap (bytes 8) (update_same f m 0))

    block-longer : (g : ℕ → ℕ) → 16 + 8 * (m + 1) ≤ ψ.body_bytes → ((j : ℕ) → j < m → f j ≡ g j) → reseal ψ (put_word_def (block φ head m f) (16 + 8 * m) (g m)) ≡ block ψ head (m + 1) g
    unfolding block sealed
    block-longer g fits same =
        ap (λ k. reseal ψ (put_word_def k (16 + 8 * m) (g m))) as-raw
        ∙ ap (reseal ψ) (put-raw ψ head h (m + 1) behind (update f m 0) g m (g m) (omega arith) refl (λ j l q. update_other f m 0 j q ∙ same j (omega (arith, q))))
        ∙ seal-raw ψ head h (m + 1) behind g fits where
          zeros : replicate {A = ℕ} (padding φ m) 0 ≡ replicate 8 0 ++ (replicate (padding ψ (m + 1)) 0 ++ replicate (φ.body_bytes - ψ.body_bytes) 0)
          zeros = more-zeros (padding φ m) 8 (padding ψ (m + 1) + (φ.body_bytes - ψ.body_bytes)) (omega arith) ∙ ap (replicate 8 0 ++◌) (more-zeros _ (padding ψ (m + 1)) (φ.body_bytes - ψ.body_bytes) refl)

          as-raw : block φ head m f ≡ body_of ψ head (m + 1) (update f m 0) ++ behind
          as-raw = rw (word-of-zeros, zeros) (simp append_assoc)

-- An old card that passes its questions stores its graph, and the sheet made from it is sound and reads as that graph.
module _ (f : Form) (card : List ℕ) (small : Bytes card) (sound : SoundIn (former f) card) where
  abbrev g : Graph
  g = graph_in (former f) card

  card-stored : card ≡ store_in (former f) g
  card-stored = (sound-is-stored (former f) card small sound).stored

  pub converted-is : converted f card ≡ store g
  converted-is = unfold converted after in ap (λ (q : Asked (Unit {0})). after q (λ u. store g) card) sound

  pub converted-sound : Sound (converted f card)
  converted-sound = ap (ask_sheet_in present) converted-is ∙ stored-passes g (sound-is-stored (former f) card small sound).within

  pub converted-reads : graph_of (converted f card) ≡ g
  converted-reads = ap graph_of converted-is ∙ read_back g (sound-is-stored (former f) card small sound).within

  pub card-few : get_or card 2 0 ≤ max_nodes
  card-few = unfold graph_in in (sound-n (former f) card small sound).1

  -- the card with all n nodes in use, whose blocks are then sealed
  module _ (fits : present.sums.body_bytes ≤ f.body_bytes) (k : List ℕ) (x : ℕ) (e : x ≡ set_of 64 (λ i. ltb i (get_or card 2 0))) (q : k ≡ put_word_def (take block_bytes card) (16 + 8 * label_count) x) where
    size : length card ≡ sheet_bytes
    size = sound-length (former f) card sound

    first-length : length (take block_bytes card) ≡ block_bytes
    first-length = length-block card size 0 (omega arith)

    k-length : length k ≡ block_bytes
    k-length = ap length q ∙ length-put_word (take block_bytes card) (16 + 8 * label_count) x (omega (arith, first-length)) ∙ first-length

    pub begun-length : length (k ++ drop block_bytes card) ≡ sheet_bytes
    begun-length = replaced-length card k 0 size k-length (omega arith)

    pub each-made : (b : ℕ) → b < block_count → reseal present.sums (block_of (k ++ drop block_bytes card) b) ≡ block_of (store g) b
    unfolding label_block arrow_block graph_in
    each-made zero h =
        ap (reseal present.sums)
        (block_here card k 0 size k-length (omega arith) ∙ q ∙ ap₂ (λ y z. put_word_def y (16 + 8 * label_count) z) (ap (λ t. block_of t 0) card-stored ∙ first_block (former f) g) (e ∙ all-used (get_or card 2 0) card-few))
        ∙ block-longer f present.sums fits (label_head g) label_count (label_word g) refl (label_word g) (labels-fit present) (λ j l. refl) ∙ sym (first_block present g)
    each-made (suc a) h =
        ap (reseal present.sums) (block-other card k 0 size k-length (omega arith) (suc a) (λ z. omega arith) ∙ ap (λ t. block_of t (suc a)) card-stored ∙ later-block (former f) g a (omega arith))
        ∙ block-resealed f present.sums fits (arrow_head a) max_nodes (row_word_def g a) refl (rows_fit present) ∙ sym (later-block present g a (omega arith))

-- no form has a shorter body than the current one
pub body-fits : (m : Modulo) → present.sums.body_bytes ≤ (form_of m).body_bytes
body-fits M257 = lit≤ tt
body-fits M255 = lit≤ tt

-- A card that does not pass is left unchanged.
pub refused-stays : (f : Form) (card : List ℕ) (number place : ℕ) → ask_convert f card ≡ refused number place → converted f card ≡ card
refused-stays f card number place e = unfold converted after in ap (λ (q : Asked (Unit {0})). after q (λ u. store (graph_in (former f) card)) card) e
