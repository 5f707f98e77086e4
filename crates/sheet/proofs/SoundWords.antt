-- What a sound sheet holds: its n, its labels and its rows.
use mathlib.Core.Path.{◌≡◌, sym, ap, ◌∙◌}
use mathlib.Core.Bool.{true, ◌&&◌}
use mathlib.Core.List.{List}
use Prim.Native.Nat.{ℕ, ◌+◌, ◌*◌, ◌≤◌, ◌<◌}
use native.Mathlib.Nat.{lt_of_lt_of_le}
use native.Mathlib.Omega.{arith}
use borrow.Author.Tests.{lt-ltb}
use lib.ListN.{length, get_or, take}
use lib.Pow.{pow_mono}
use Rattle.logic.specs.Graph.{Graph, Nodes, is_node}
use Rattle.logic.proofs.Inside.{some-n}
use Rattle.logic.specs.Limits.{Within, max_nodes, label_count, arrow_count}
use Rattle.bitset.specs.Words.{Bytes, set_of, word_at}
use Rattle.bitset.proofs.SetLaws.{set_of-lt, set_of-cong}
use Rattle.bitset.proofs.WordLaws.{word_at-of}
use Rattle.seal.specs.Seal.{seal_right_def, block_bytes}
use Rattle.sheet.specs.Sheet.{SheetForm, line_of, line_count, sheet_bytes, store_in, graph_in}
use Rattle.sheet.specs.Questions.{block_of, SoundIn}
use Rattle.sheet.proofs.BlockLaws.{byte_of, label_word, line-label, label-lines, few-lines, lines-held, row_word_def, label-byte, arrow-byte, length-store}
use Rattle.sheet.proofs.SoundSheets.{block-ok, sound-parts, sound-is-stored}

module _ (φ : SheetForm) where
  pub sound-length : (t : List ℕ) → SoundIn φ t → length t ≡ sheet_bytes
  sound-length t e = (sound-parts φ t e).0

  -- its first block is sealed
  pub sound-seal : (t : List ℕ) → SoundIn φ t → seal_right_def φ.sums (take block_bytes t) ≡ true
  sound-seal t e = (block-ok φ (get_or t 2 0) (is_node (graph_in φ t)) 0 (block_of t 0) ((sound-parts φ t e).1 0 (omega arith))).check

  module _ (t : List ℕ) (bytes : Bytes t) (sound : SoundIn φ t) where
    abbrev g : Graph
    g = graph_in φ t

    pub sound-n : (1 ≤ g.n) × (g.n ≤ max_nodes)
    sound-n = let w : Within g = (sound-is-stored φ t bytes sound).within in (some-n g w, w.few_nodes)

    -- the word at p is that of a set whose bytes are there in the sheet that stores the graph
    stored-word : (p : ℕ) (v : Nodes) → p + 8 ≤ sheet_bytes → ((j : ℕ) → j < 8 → get_or (store_in φ g) (p + j) 0 ≡ byte_of (set_of g.n v) j) → word_at t p ≡ set_of g.n v
    stored-word p v l e =
        let m : g.n ≤ 64 = omega (arith, sound-n) in
        ap (λ s. word_at s p) (sound-is-stored φ t bytes sound).stored
        ∙ word_at-of (store_in φ g) p (set_of g.n v) (omega (arith, length-store φ g)) (lt_of_lt_of_le (set_of-lt g.n v) (pow_mono m)) e

    sound-line : (k : ℕ) → k < line_count φ → word_at t (16 + 8 * k) ≡ label_word g k
    sound-line k h = stored-word (16 + 8 * k) (line_of g k) (omega (arith, few-lines φ)) (λ j l. label-byte φ g k j h l)

    pub sound-label : (k : ℕ) → k < label_count → word_at t (16 + 8 * k) ≡ set_of g.n (g.labelled k)
    sound-label k h = sound-line k (omega (arith, label-lines φ)) ∙ ap (set_of g.n) (line-label g k h)

    -- the nodes in use, if block 0 holds them
    pub sound-used : φ.holds_use ≡ true → word_at t (16 + 8 * label_count) ≡ set_of g.n (is_node g)
    unfolding is_node
    sound-used e =
        sound-line label_count (omega (arith, lines-held φ true e)) ∙ set_of-cong g.n g.in_use (is_node g) (λ i l. sym (ap (◌&& g.in_use i) (lt-ltb i g.n l)))

    pub sound-row : (a i : ℕ) → a < arrow_count → i < g.n → word_at t (block_bytes * (a + 1) + (16 + 8 * i)) ≡ row_word_def g a i
    sound-row a i h l = stored-word (block_bytes * (a + 1) + (16 + 8 * i)) (g.joined a i) (omega (arith, sound-n.1)) (λ j b. arrow-byte φ g a i j h (omega (arith, sound-n.1)) b)
