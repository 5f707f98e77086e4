-- Lines written byte by byte; comparing lines; their marks.
use mathlib.Core.Path.{◌≡◌, refl, sym, ◌∙◌, ap, ap₂}
use mathlib.Core.Bool.{◌&&◌}
use mathlib.Core.List.{List, [], ◌∷◌, ◌++◌, append_assoc, append-nil}
use Prim.Native.Nat.{ℕ, suc, ◌+◌, ◌*◌, ◌%◌, ◌^◌, ◌≤◌, ◌<◌}
use native.Mathlib.Omega.{arith}
use native.Mathlib.Decide.{dec_lt}
use borrow.Author.Tests.{lt-ltb, le-ltb, eq-eqb, ne_eqb}
use lib.Bits.{bit_or}
use lib.Dec.{eqb}
use lib.ListN.{length, get_or, set, take, drop, replicate, length-append, length-set, length-drop, drop_of_length-le}
use borrow.Rule.Slice.PartMut.{post_of, Post-is}
use lib.Pointwise.{pointwise}
use lib.Seq.{take-suc-set, take_at, set_split, length-take-le}
use Rattle.logic.specs.Graph.{Graph, Nodes, is_node}
use Rattle.bitset.specs.Words.{set_of, member, digit}
use Rattle.bitset.proofs.SetLaws.{set_of-cong, member-set_of, set_of-more, set_of-same}
use Rattle.seal.specs.Seal.{same_bytes}
use Rattle.decimal.specs.Digits.{digits}
use Rattle.decimal.proofs.DigitLaws.{digits-length}
use Rattle.sheet.specs.Sheet.{chunks}
use Rattle.sheet.proofs.ChunkLaws.{chunks-more}
use Rattle.pages.specs.Page.{head_line, square, squares, set_line}
use Rattle.pages.specs.Typed.{marks}

-- what `==` says of two lists of bytes
pub equal_bytes : (a b : List ℕ) → pointwise eqb a b ≡ same_bytes a b
unfolding same_bytes
equal_bytes [] [] = refl
equal_bytes [] (y ∷ ys) = refl
equal_bytes (x ∷ xs) [] = refl
equal_bytes (x ∷ xs) (y ∷ ys) = ap (eqb x y &&◌) (equal_bytes xs ys)

-- a line shows only the set's members below n
square-cong : (n : ℕ) (v w : Nodes) (j : ℕ) → ((i : ℕ) → i < n → v i ≡ w i) → square n v j ≡ square n w j
square-cong n v w j h = unfold square in elim (dec_lt j n) [ yes l ↦ rw (h j l) | no l ↦ rw (le-ltb j n (omega arith)) ]

pub set_line-cong : (n x : ℕ) (v w : Nodes) → ((i : ℕ) → i < n → v i ≡ w i) → set_line n x v ≡ set_line n x w
set_line-cong n x v w h = unfold set_line squares in simp (square-cong n v w)

pub set_line-word : (n x : ℕ) (v : Nodes) (row : ℕ) → row ≡ set_of n v → set_line n x (member row) ≡ set_line n x v
set_line-word n x v row e = set_line-cong n x (member row) v (λ i l. ap (λ r. member r i) e ∙ member-set_of n v i l)

-- below n, the nodes in use are the nodes
pub nodes-used : (g : Graph) → set_of g.n (is_node g) ≡ set_of g.n g.in_use
nodes-used g = unfold is_node in set_of-cong g.n (is_node g) g.in_use (λ i l. ap (◌&& g.in_use i) (lt-ltb i g.n l))

-- The first j squares are written after a line's first three bytes.
pub record Squares (start : List ℕ) (n row j : ℕ) (line : List ℕ) : Type 0 where
  pub few : j ≤ 60
  pub whole : length line ≡ 64
  pub front : take (3 + j) line ≡ take 3 start ++ chunks j 0 (λ i. square n (member row) i ∷ [])

pub no-squares : {start : List ℕ} {n row : ℕ} → length start ≡ 64 → Squares start n row 0 start
no-squares {start} h = unfold chunks in record { few = omega arith; whole = h; front = sym (append-nil (take 3 start)) }

module _ {start : List ℕ} {n row j : ℕ} {line : List ℕ} (s : Squares start n row j line) where
  pub square-more : (b : ℕ) → j < 60 → b ≡ square n (member row) j → Squares start n row (j + 1) (set line (3 + j) b)
  square-more b h e =
      let k : 3 + (j + 1) ≡ suc (3 + j) = omega arith in
      record {
        few = omega arith;
        whole = length-set line (3 + j) b ∙ s.whole;
        front =
            ap (λ m. take m (set line (3 + j) b)) k ∙ take-suc-set line (3 + j) b (omega (arith, s.whole)) ∙ ap₂ (λ x y. x ++ (y ∷ [])) s.front e
            ∙ append_assoc (take 3 start) _ _ ∙ ap (take 3 start ++◌) (sym (chunks-more j (λ i. square n (member row) i ∷ [])));
      }

  pub all-squares : 60 ≤ j → set line 63 0x0A ≡ take 3 start ++ squares n (member row)
  unfolding squares
  all-squares k =
      let q : j ≡ 60 = omega (arith, s.few) in
      set_split line 63 0x0A (omega (arith, s.whole))
      ∙ ap₂ (λ x y. x ++ 0x0A ∷ y) (rw q at s.front) (drop_of_length-le line {i = 64} (omega (arith, s.whole))) ∙ append_assoc (take 3 start) _ _

-- The first three bytes are written: two digits and a blank, or a letter and two digits.
pub record Started (three line : List ℕ) : Type 0 where
  pub whole : length line ≡ 64
  pub front : take 3 line ≡ three

module _ {d : List ℕ} (x : ℕ) where
  pub line-started : (line : List ℕ) → length line ≡ 64 → d ≡ digits (length (take 2 line)) x → Started (digits 2 x ++ (0x20 ∷ [])) (set (d ++ drop 2 line) 2 0x20)
  line-started line h e =
      let w : d ≡ digits 2 x = e ∙ ap (λ k. digits k x) (length-take-le 2 line (omega arith)) in
      let k : length d ≡ 2 = ap length w ∙ digits-length 2 x in
      let l : length (d ++ drop 2 line) ≡ 64 = simp (length-append, length-drop) (omega arith) in
      record {
        whole = length-set (d ++ drop 2 line) 2 0x20 ∙ l;
        front = take-suc-set (d ++ drop 2 line) 2 0x20 (omega arith) ∙ ap (◌++ (0x20 ∷ [])) (take_at d (drop 2 line) 2 k ∙ w);
      }

  pub head-started : (line : List ℕ) (a : ℕ) → length line ≡ 64 → d ≡ digits (length (take 2 (drop 1 (set line 0 a)))) x
      → Started (a ∷ digits 2 x) (take 1 (set line 0 a) ++ (d ++ post_of 1 2 (set line 0 a)))
  head-started [] a h e = absurd (omega arith)
  head-started (y ∷ line) a h e =
      let w : d ≡ digits 2 x = e ∙ ap (λ k. digits k x) (length-take-le 2 line (omega arith)) in
      let k : length d ≡ 2 = ap length w ∙ digits-length 2 x in
      let r : length (post_of 1 2 (a ∷ line)) ≡ 61 = ap length (Post-is 1 3 (a ∷ line) (omega arith)) ∙ length-drop 2 line ∙ omega arith in
      record { whole = ap suc (length-append d (post_of 1 2 (a ∷ line))) ∙ omega arith; front = ap (a ∷◌) (take_at d (post_of 1 2 (a ∷ line)) 2 k ∙ w) }

-- With its squares, the line is that of the set; with the squares of no columns, it is the head.
pub line-written : {line : List ℕ} (n x row : ℕ) → Started (digits 2 x ++ (0x20 ∷ [])) line → take 3 line ++ squares n (member row) ≡ set_line n x (member row)
line-written n x row s = unfold set_line in ap (◌++ squares n (member row)) s.front ∙ append_assoc (digits 2 x) _ _

pub head-written : {letter : ℕ} {line : List ℕ} (x : ℕ) → Started (letter ∷ digits 2 x) line → take 3 line ++ squares 0 (member 0) ≡ head_line letter x
unfolding head_line squares square chunks
head-written {letter} x s = ap (◌++ squares 0 (member 0)) s.front ∙ sym (append_assoc (letter ∷ digits 2 x) (replicate 60 0x20) (0x0A ∷ []))

-- The set of a line's marks, one byte more.
module _ (line : List ℕ) (r j : ℕ) where
  pub marked-more : j < 64 → r ≡ set_of j (marks line) → get_or line (3 + j) 0 ≡ 0x23 → bit_or r (1 * 2 ^ j % 2 ^ 64) ≡ set_of (j + 1) (marks line)
  marked-more l e m = set_of-more j (marks line) r 1 l e (ap digit (sym (eq-eqb _ _ m)))

  pub unmarked-more : r ≡ set_of j (marks line) → (get_or line (3 + j) 0 ≡ 0x23 → ⊥) → r ≡ set_of (j + 1) (marks line)
  unmarked-more e m = set_of-same j (marks line) r e (ne_eqb _ _ m)
