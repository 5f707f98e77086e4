-- Turning the first sheet into the joined one, block by block.
use mathlib.Core.Path.{◌≡◌, refl, sym, ap, ◌∙◌, subst}
use mathlib.Core.List.{List, ◌++◌}
use Prim.Native.Nat.{ℕ, zero, suc, ◌+◌, ◌*◌, ◌≤◌, ◌<◌}
use native.Mathlib.Omega.{arith}
use lib.ListN.{length, set, take, drop}
use Rattle.bitset.specs.Words.{Bytes}
use Rattle.logic.specs.Graph.{Graph}
use Rattle.logic.specs.Limits.{Within, max_nodes, arrow_count}
use Rattle.seal.specs.Seal.{block_bytes, reseal}
use Rattle.sheet.specs.Sheet.{present, sheet_bytes, block_count, line_count, label_block, arrow_block, store, graph_of}
use Rattle.sheet.specs.Questions.{block_of, Sound}
use Rattle.sheet.proofs.BlockLaws.{length-store, length-label_block, first_block, later-block}
use Rattle.sheet.proofs.BlockParts.{length-block}
use Rattle.sheet.proofs.ReplacedBlocks.{replaced-length, block_here, block-other, Upto, upto-more, upto_all}
use Rattle.sheet.proofs.SoundSheets.{sound-is-stored}
use Rattle.join_sheets.specs.Joined.{joined_graph, nodes_total}
use Rattle.join_sheets.specs.BesideWrites.{put_beside_def}
use Rattle.join_sheets.proofs.Beside.{lines-joined, rows-joined}

-- t is the first sheet with block 0 done, u the sheet that results.
pub record Begun (n m : ℕ) (t second u : List ℕ) : Type 0 where
  pub size : length t ≡ sheet_bytes
  pub u-size : length u ≡ sheet_bytes
  pub lines : block_of t 0 ≡ block_of u 0
  pub rows : (b : ℕ) → 0 < b → b < block_count → reseal present.sums (put_beside_def n n (block_of second b) m (block_of t b)) ≡ block_of u b

-- b blocks are done
pub record Inv (n m : ℕ) (t second l : List ℕ) (b : ℕ) : Type 0 where
  pub u : List ℕ
  pub begun : Begun n m t second u
  pub made : Upto (block_of u) t l b

pub one-made : (n m : ℕ) (t second u : List ℕ) → Begun n m t second u → Inv n m t second t 1
one-made n m t second u v = record { u = u; begun = v; made = record { size = v.size; done = λ j h. let z : 0 ≡ j = omega arith in subst (λ i. block_of t i ≡ block_of u i) z v.lines; left = λ j h. refl } }

module _ (n m : ℕ) (t second l : List ℕ) (b : ℕ) (v : Inv n m t second l b) where
  pub one_more : (k : List ℕ) (y : ℕ) → 0 < b → b < block_count → y ≡ block_bytes → k ≡ reseal present.sums (put_beside_def n n (take y (drop (block_bytes * b) second)) m (take y (drop (block_bytes * b) l)))
      → Inv n m t second (take (block_bytes * b) l ++ (k ++ drop y (drop (block_bytes * b) l))) (b + 1)
  one_more k y some few e q =
      let k-is : k ≡ block_of v.u b = q ∙ rw (e, v.made.left b (omega arith)) (v.begun.rows b some few) in
      record {
        u = v.u;
        begun = v.begun;
        made = upto-more (block_of v.u) t l k b (block_bytes * b) y v.made few refl e (ap length k-is ∙ length-block v.u v.begun.u-size b few) k-is;
      }

  pub all_made : (w : List ℕ) → Begun n m t second w → block_count ≤ b → l ≡ w
  all_made w z h = upto_all (block_of v.u) t l w b v.made h z.u-size same where
    same : (b : ℕ) → b < block_count → block_of v.u b ≡ block_of w b
    same zero l = sym v.begun.lines ∙ z.lines
    same (suc a) l = sym (v.begun.rows (suc a) (omega arith) l) ∙ z.rows (suc a) (omega arith) l

-- Two stored sheets, with block 0 of the first done.
module _ (g h : Graph) (v : Within g) (w : Within h) (few : g.n + h.n ≤ max_nodes) (first second : List ℕ) (p : first ≡ store g) (q : second ≡ store h) (n m : ℕ) (n-is : n ≡ g.n) (m-is : m ≡ h.n)
    (k : List ℕ) (made : k ≡ reseal present.sums (set (put_beside_def 0 n (take block_bytes second) (line_count present) (take block_bytes first)) 2 (n + m))) where
  abbrev t : List ℕ
  t = k ++ drop block_bytes first

  block_0 : k ≡ label_block present (joined_graph g h)
  block_0 =
      made ∙ rw (q, p, first_block present h, first_block present g, n-is, m-is) (lines-joined g h few)

  k-length : length k ≡ block_bytes
  k-length = ap length block_0 ∙ length-label_block present (joined_graph g h)

  first-size : length first ≡ sheet_bytes
  first-size = ap length p ∙ length-store present g

  -- the other blocks are unchanged
  later_same : (a : ℕ) → a < arrow_count → block_of t (suc a) ≡ arrow_block present g a
  later_same a l = block-other first k 0 first-size k-length (omega arith) (suc a) (λ z. omega arith) ∙ ap (λ s. block_of s (suc a)) p ∙ later-block present g a l

  pub begun-with : Begun n m t second (store (joined_graph g h))
  begun-with =
      record {
        size = replaced-length first k 0 first-size k-length (omega arith);
        u-size = length-store present (joined_graph g h);
        lines = block_here first k 0 first-size k-length (omega arith) ∙ block_0 ∙ sym (first_block present (joined_graph g h));
        rows = rows;
      } where
        rows : (b : ℕ) → 0 < b → b < block_count → reseal present.sums (put_beside_def n n (block_of second b) m (block_of t b)) ≡ block_of (store (joined_graph g h)) b
        rows zero s l = absurd (omega arith)
        rows (suc a) s l =
            let c : a < arrow_count = omega arith in
            rw (later_same a c, q, later-block present h a c, n-is, m-is, later-block present (joined_graph g h) a c) (rows-joined g h few v w a)

-- The same for two sound sheets.
pub begun-sound : (first second : List ℕ) → Bytes first → Bytes second → Sound first → Sound second → nodes_total first second ≤ max_nodes
    → (n m : ℕ) → n ≡ (graph_of first).n → m ≡ (graph_of second).n → (k : List ℕ) → k ≡ reseal present.sums (set (put_beside_def 0 n (take block_bytes second) (line_count present) (take block_bytes first)) 2 (n + m))
    → Begun n m (k ++ drop block_bytes first) second (store (joined_graph (graph_of first) (graph_of second)))
begun-sound first second small small' s s' few n m e e' k made =
    let o = sound-is-stored present first small s in
    let o' = sound-is-stored present second small' s' in
    begun-with (graph_of first) (graph_of second) o.within o'.within few first second o.stored o'.stored n m e e' k made
