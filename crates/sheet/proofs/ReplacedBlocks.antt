-- A sheet with one block replaced, and one whose blocks are replaced one by one.
use mathlib.Core.Logic.{◌≢◌, ⊎_elim}
use mathlib.Core.Path.{◌≡◌, refl, sym, ap, ◌∙◌}
use mathlib.Core.List.{List, ◌++◌}
use Prim.Native.Nat.{ℕ, suc, ◌+◌, ◌-◌, ◌*◌, ◌≤◌, ◌<◌}
use native.Mathlib.Nat.{eq-or-lt_of_le, le_of_suc-le-suc}
use native.Mathlib.Numerals.{add-one}
use native.Mathlib.Omega.{arith}
use native.Mathlib.Decide.{dec_lt}
use lib.ListN.{length, take, drop, length-append, length-drop, take-append-drop}
use lib.Seq.{take_at, drop_at, take-append-le, drop-append-le, drop-append-add, length-take-le}
use Rattle.seal.specs.Seal.{block_bytes}
use Rattle.sheet.specs.Sheet.{sheet_bytes, block_count}
use Rattle.sheet.specs.Questions.{block_of}
use Rattle.sheet.proofs.BlockParts.{length-block, blocks-ext}

module _ (t k : List ℕ) (b : ℕ) (size : length t ≡ sheet_bytes) (k-size : length k ≡ block_bytes) (few : b < block_count) where
  abbrev front : List ℕ
  front = take (block_bytes * b) t

  abbrev rest : List ℕ
  rest = drop block_bytes (drop (block_bytes * b) t)

  -- block b replaced by k
  abbrev pub replaced : List ℕ
  replaced = front ++ (k ++ rest)

  front_length : length front ≡ block_bytes * b
  front_length = length-take-le (block_bytes * b) t (omega arith)

  pub replaced-length : length replaced ≡ sheet_bytes
  replaced-length = simp length-append (omega (arith, front_length, length-drop block_bytes (drop (block_bytes * b) t), length-drop (block_bytes * b) t))

  pub block_here : block_of replaced b ≡ k
  block_here = ap (take block_bytes) (drop_at front (k ++ rest) (block_bytes * b) front_length) ∙ take_at k rest block_bytes k-size

  -- the blocks before and after it do not depend on it
  before : (j : ℕ) (x : List ℕ) → j < b → block_of (front ++ x) j ≡ block_of front j
  before j x h =
      ap (take block_bytes) (drop-append-le (block_bytes * j) front x (omega (arith, front_length)))
      ∙ take-append-le block_bytes (drop (block_bytes * j) front) x (omega (arith, front_length, length-drop (block_bytes * j) front))

  after : (j : ℕ) (x : List ℕ) → b < j → length x ≡ block_bytes → block_of (front ++ (x ++ rest)) j ≡ take block_bytes (drop (block_bytes * (j - suc b)) rest)
  after j x h e =
      let at : block_bytes * j ≡ length front + (length x + block_bytes * (j - suc b)) = omega (arith, front_length) in
      ap (λ (p : ℕ). take block_bytes (drop p (front ++ (x ++ rest)))) at
      ∙ ap (take block_bytes) (drop-append-add front (x ++ rest) (length x + block_bytes * (j - suc b)) ∙ drop-append-add x rest (block_bytes * (j - suc b)))

  pub block-other : (j : ℕ) → j ≢ b → block_of replaced j ≡ block_of t j
  block-other j d = go (dec_lt j b) ∙ ap (λ x. block_of x j) (ap (front ++◌) (take-append-drop block_bytes (drop (block_bytes * b) t)) ∙ take-append-drop (block_bytes * b) t) where
    go : Dec (j < b) → block_of replaced j ≡ block_of (front ++ (block_of t b ++ rest)) j
    go (yes h) = before j (k ++ rest) h ∙ sym (before j (block_of t b ++ rest) h)
    go (no h) = let l : b < j = omega (arith, d) in after j k l k-size ∙ sym (after j (block_of t b) l (length-block t size b few))

-- l is t with the blocks below b replaced by those of `made`, one by one
pub record Upto (made : ℕ → List ℕ) (t l : List ℕ) (b : ℕ) : Type 0 where
  pub size : length l ≡ sheet_bytes
  pub done : (j : ℕ) → j < b → block_of l j ≡ made j
  pub left : (j : ℕ) → b ≤ j → block_of l j ≡ block_of t j

module _ (made : ℕ → List ℕ) (t : List ℕ) where
  pub upto-none : length t ≡ sheet_bytes → Upto made t t 0
  upto-none h = record { size = h; done = λ j l. absurd (omega arith); left = λ j l. refl }

  -- what was there before does not matter
  pub upto-again : (l : List ℕ) (b : ℕ) → Upto made t l b → Upto made l l b
  upto-again l b u = record { size = u.size; done = u.done; left = λ j l. refl }

  pub upto-more : (l k : List ℕ) (b from len : ℕ) → Upto made t l b → b < block_count → from ≡ block_bytes * b → len ≡ block_bytes → length k ≡ block_bytes → k ≡ made b
      → Upto made t (take from l ++ (k ++ drop len (drop from l))) (b + 1)
  upto-more l k b from len u few f e h q =
      rw (f, e)
      (record {
        size = replaced-length l k b u.size h few;
        done = λ j s. ⊎_elim (λ z. ap (block_of (replaced l k b u.size h few)) z ∙ block_here l k b u.size h few ∙ q ∙ ap made (sym z)) (λ s. block-other l k b u.size h few j (λ z. omega arith) ∙ u.done j s) (eq-or-lt_of_le (le_of_suc-le-suc (rw add-one at s)));
        left = λ j s. block-other l k b u.size h few j (λ z. omega arith) ∙ u.left j (omega arith);
      })

  pub upto_all : (l u : List ℕ) (b : ℕ) → Upto made t l b → block_count ≤ b → length u ≡ sheet_bytes → ((j : ℕ) → j < block_count → made j ≡ block_of u j) → l ≡ u
  upto_all l u b v h size each = blocks-ext l u v.size size (λ j s. v.done j (omega arith) ∙ each j s)
