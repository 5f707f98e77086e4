-- The sheet that stores a graph reads back as that graph.
use mathlib.Core.Path.{◌≡◌, refl, sym, ◌∙◌, ap, subst, fun_ext}
use mathlib.Core.Bool.{Bool, true, false, ◌&&◌, cond}
use mathlib.Core.List.{List}
use Prim.Native.Nat.{ℕ, ◌+◌, ◌*◌, ◌/◌, ◌%◌, ◌<◌}
use native.Mathlib.Omega.{arith}
use native.Mathlib.Decide.{dec_lt}
use lib.Dec.{ltb}
use lib.ListN.{get_or}
use borrow.Author.Tests.{lt-ltb}
use Rattle.logic.specs.Graph.{Graph, Nodes, is_node}
use Rattle.logic.specs.Limits.{NodesIn, Within, max_nodes, label_count, arrow_count}
use Rattle.logic.proofs.Inside.{no_node}
use Rattle.bitset.specs.Words.{set_of, member}
use Rattle.bitset.proofs.SetLaws.{member-set_of, member-beyond}
use Rattle.seal.specs.Seal.{block_bytes}
use Rattle.sheet.specs.Sheet.{SheetForm, present, line_of, line_count, store_in, store, bit_in, used_in, graph_in, graph_of, Storable}
use Rattle.sheet.proofs.BlockLaws.{byte_of, bit-of-byte, line-label, label-lines, lines-held, n-is, label-byte, arrow-byte}
use Rattle.sheet.proofs.FreeBits.{guarded}

module _ (φ : SheetForm) where
  module _ (g : Graph) (w : Within g) where
    bits_back : (t : List ℕ) (p : ℕ) (v : Nodes) → NodesIn g v → ((j : ℕ) → j < 8 → get_or t (p + j) 0 ≡ byte_of (set_of g.n v) j) → (i : ℕ) → bit_in t p i ≡ v i
    bits_back t p v inside bytes i =
        guarded i 64 _ (v i) (λ l. ap (λ x. member x (i % 8)) (bytes (i / 8) (omega arith)) ∙ bit-of-byte (set_of g.n v) i ∙ go (dec_lt i g.n)) (λ l. inside i (no_node g i (omega (arith, w.few_nodes))))
      where
        go : Dec (i < g.n) → member (set_of g.n v) i ≡ v i
        go (yes l) = member-set_of g.n v i l
        go (no l) = member-beyond g.n v i (omega arith) ∙ sym (inside i (no_node g i (omega arith)))

    -- line k of block 0
    line-back : (k : ℕ) → k < line_count φ → NodesIn g (line_of g k) → (i : ℕ) → bit_in (store_in φ g) (16 + 8 * k) i ≡ line_of g k i
    line-back k l inside = bits_back (store_in φ g) (16 + 8 * k) (line_of g k) inside (λ j. label-byte φ g k j l)

    labels-back : (λ k i. ltb k label_count && bit_in (store_in φ g) (16 + 8 * k) i) ≡ g.labelled
    labels-back =
        fun_ext (λ k. fun_ext (λ i. guarded k label_count _ (g.labelled k i)
        (λ l. line-back k (omega (arith, label-lines φ)) (subst (NodesIn g) (sym (line-label g k l)) (w.labels_in k)) i ∙ ap (λ v. v i) (line-label g k l))
        (w.no_more_labels k i)))

    -- a node marked as in use is a node
    use-in : NodesIn g g.in_use
    unfolding is_node
    use-in i h = go (dec_lt i g.n) where
      go : Dec (i < g.n) → g.in_use i ≡ false
      go (yes l) = sym (ap (◌&& g.in_use i) (lt-ltb i g.n l)) ∙ h
      go (no l) = w.use_below i (omega arith)

    arrows-back : (λ a i j. ltb a arrow_count && (ltb i max_nodes && bit_in (store_in φ g) (block_bytes * (a + 1) + (16 + 8 * i)) j)) ≡ g.joined
    arrows-back =
        fun_ext (λ a. fun_ext (λ i. fun_ext (λ j. guarded a arrow_count _ (g.joined a i j)
        (λ l. guarded i max_nodes _ (g.joined a i j) (λ l'. bits_back (store_in φ g) (block_bytes * (a + 1) + (16 + 8 * i)) (g.joined a i) ((w.arrows_in a).ends i) (λ j. arrow-byte φ g a i j l l') j) (λ m. (w.arrows_in a).starts i j (no_node g i (omega (arith, w.few_nodes)))))
        (w.no_more_arrows a i j))))

    use-back : Storable φ g → used_in φ (store_in φ g) ≡ g.in_use
    use-back s = go φ.holds_use refl where
      go : (b : Bool) → φ.holds_use ≡ b → cond b (bit_in (store_in φ g) (16 + 8 * label_count)) (λ i. ltb i (get_or (store_in φ g) 2 0)) ≡ g.in_use
      go true e = fun_ext (line-back label_count (omega (arith, lines-held φ true e)) use-in)
      go false e = fun_ext (λ i. ap (ltb i) (n-is φ g) ∙ sym (s e i))

    pub reads_back : Storable φ g → graph_in φ (store_in φ g) ≡ g
    reads_back s = unfold graph_in in λ t. record { n = n-is φ g t; in_use = use-back s t; labelled = labels-back t; joined = arrows-back t }

-- Current sheets store every graph within the limits.
pub all-storable : (g : Graph) → Storable present g
all-storable g e = let z : ◌≡◌ {A = ℕ} 0 1 = cc in absurd (omega arith)

pub read_back : (g : Graph) → Within g → graph_of (store g) ≡ g
read_back g w = reads_back present g w (all-storable g)
