-- A sheet that stores a graph consists of bytes.
use mathlib.Core.List.{List, [], ◌∷◌, ◌++◌}
use Prim.Native.Nat.{ℕ, zero, suc, ◌+◌, ◌/◌, ◌%◌, ◌≤◌, ◌<◌}
use native.Mathlib.Omega.{arith}
use lib.ListN.{replicate}
use Rattle.logic.specs.Graph.{Graph}
use Rattle.logic.specs.Limits.{max_nodes, arrow_count}
use Rattle.bitset.specs.Words.{Bytes, set_of, bytes}
use Rattle.seal.specs.Seal.{Form, modulo257, sums, stored, sealed}
use Rattle.sheet.specs.Sheet.{chunks, block, present, line_of, line_count, label_block, arrow_block, store_in, store, padding}
use Rattle.sheet.proofs.BlockLaws.{words_of}

none-small : Bytes []
none-small p = omega arith

pub cons-small : (b : ℕ) (l : List ℕ) → b < 256 → Bytes l → Bytes (b ∷ l)
cons-small b l h k zero = h
cons-small b l h k (suc p) = k p

pub both_small : (a b : List ℕ) → Bytes a → Bytes b → Bytes (a ++ b)
both_small [] b h k = k
both_small (x ∷ a) b h k = cons-small x (a ++ b) (h 0) (both_small a b (λ p. h (suc p)) k)

pub zeros-small : (m : ℕ) → Bytes (replicate m 0)
zeros-small zero = none-small
zeros-small (suc m) = cons-small 0 (replicate m 0) (omega arith) (zeros-small m)

bytes_small : (k x : ℕ) → Bytes (bytes k x)
unfolding bytes
bytes_small zero x = none-small
bytes_small (suc k) x = cons-small (x % 256) (bytes k (x / 256)) (omega arith) (bytes_small k (x / 256))

pub chunks-small : (m i : ℕ) (f : ℕ → List ℕ) → ((j : ℕ) → i ≤ j → j < i + m → Bytes (f j)) → Bytes (chunks m i f)
unfolding chunks
chunks-small zero i f h = none-small
chunks-small (suc m) i f h = both_small (f i) (chunks m (suc i) f) (h i (omega arith) (omega arith)) (chunks-small m (suc i) f (λ j l u. h j (omega arith) (omega arith)))

pub sealed-small : (f : Form) (body : List ℕ) → Bytes body → Bytes (sealed f body)
unfolding sealed stored
sealed-small f body h =
    let s : List ℕ = bytes f.sum_bytes (sums f body).s in
    let t : List ℕ = bytes f.sum_bytes (sums f body).t in
    both_small body (s ++ t) h (both_small s t (bytes_small f.sum_bytes (sums f body).s) (bytes_small f.sum_bytes (sums f body).t))

block-small : (f : Form) (x y z m : ℕ) (word : ℕ → ℕ) → x < 256 → y < 256 → z < 256 → Bytes (block f (x ∷ y ∷ z ∷ []) m word)
unfolding block
block-small f x y z m word a b c =
    let front : List ℕ = (x ∷ y ∷ z ∷ []) ++ replicate 13 0 in
    let zeros : List ℕ = replicate (padding f m) 0 in
    sealed-small f (front ++ words_of m word ++ zeros)
    (both_small (front ++ words_of m word) zeros
    (both_small front (words_of m word) (cons-small x (y ∷ z ∷ replicate 13 0) a (cons-small y (z ∷ replicate 13 0) b (cons-small z (replicate 13 0) c (zeros-small 13)))) (chunks-small m 0 (λ k. bytes 8 (word k)) (λ j l u. bytes_small 8 (word j))))
    (zeros-small (padding f m)))

pub store-small : (g : Graph) → g.n < 256 → Bytes (store g)
unfolding store_in label_block arrow_block
store-small g h =
    both_small (label_block present g) (chunks arrow_count 0 (arrow_block present g))
    (block-small modulo257 1 0 g.n (line_count present) (λ k. set_of g.n (line_of g k)) (omega arith) (omega arith) h)
    (chunks-small arrow_count 0 (arrow_block present g) (λ a l u. block-small modulo257 2 (suc a) 0 max_nodes (λ i. set_of g.n (g.joined a i)) (omega arith) (omega arith) (omega arith)))
