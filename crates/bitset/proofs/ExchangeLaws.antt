-- The six exchanges of blocks, one after the other, transpose the matrix, by tests that are computed.
use mathlib.Core.Path.{◌≡◌, refl, sym, ap, ap₂, ◌∙◌}
use mathlib.Core.Bool.{Bool, true, false, not, ◌&&◌, cond, and-eq-true_iff}
use mathlib.Core.List.{List}
use Prim.Native.Nat.{ℕ, ◌+◌, ◌-◌, ◌<◌}
use native.Mathlib.Omega.{arith}
use borrow.Author.Tests.{eqb-true, ltb-true}
use lib.Dec.{eqb, leb, ltb, lit<}
use lib.ListN.{get_or}
use Rattle.logic.specs.Graph.{Nodes, all_below, implies}
use Rattle.logic.proofs.Below.{all-each}
use Rattle.bitset.specs.Words.{set_of, member}
use Rattle.bitset.specs.Transpose.{low_half, from_row, from_column, Blocks, Moved, Transposed}
use Rattle.bitset.proofs.SetLaws.{set_of-cong, member-set_of}

same : Bool → Bool → Bool
same true b = b
same false b = not b

same-eq : (a b : Bool) → same a b ≡ true → a ≡ b
unfolding same
same-eq true b e = sym e
same-eq false true e = e
same-eq false false e = refl

halved : ℕ → Nodes
halved s j = same (leb s j && low_half s (j - s)) (not (low_half s j))

roomy : ℕ → Nodes
roomy s j = implies (low_half s j) (ltb (j + s) 64)

blocks : (s m : ℕ) → 0 < s → s < 64 → all_below 64 (halved s) ≡ true → all_below 64 (roomy s) ≡ true → m ≡ set_of 64 (low_half s) → Blocks s m
unfolding halved roomy
blocks s m h l t u e = record {
  some = h;
  few = l;
  halves = λ j b. same-eq _ _ (all-each 64 (halved s) t j b);
  room = λ j b q. ltb-true (j + s) 64 (ap (λ c. implies c (ltb (j + s) 64)) (sym q) ∙ all-each 64 (roomy s) u j b);
  mask = e;
}

-- the six exchanges that halve 64
pub record Six : Type 0 where
  pub of-32 : Blocks 32 0xffffffff
  pub of-16 : Blocks 16 0x0000ffff0000ffff
  pub of-8 : Blocks 8 0x00ff00ff00ff00ff
  pub of-4 : Blocks 4 0x0f0f0f0f0f0f0f0f
  pub of-2 : Blocks 2 0x3333333333333333
  pub of-1 : Blocks 1 0x5555555555555555

pub six : Six
unfolding all_below halved roomy same low_half set_of
six =
    record {
      of-32 = blocks _ _ (lit< tt) (lit< tt) refl refl refl;
      of-16 = blocks _ _ (lit< tt) (lit< tt) refl refl refl;
      of-8 = blocks _ _ (lit< tt) (lit< tt) refl refl refl;
      of-4 = blocks _ _ (lit< tt) (lit< tt) refl refl refl;
      of-2 = blocks _ _ (lit< tt) (lit< tt) refl refl refl;
      of-1 = blocks _ _ (lit< tt) (lit< tt) refl refl refl;
    }

-- the row or column that k comes from is below 64
moved-lt : (s k : ℕ) → k < 64 → (a b : Bool) → (a ≡ true → k + s < 64) → (cond a (cond b k (k + s)) (cond b (k - s) k) < 64) × (cond b (cond a k (k - s)) (cond a (k + s) k) < 64)
moved-lt s k h true true f = (h, h)
moved-lt s k h true false f = (f refl, f refl)
moved-lt s k h false true f = (omega arith, omega arith)
moved-lt s k h false false f = (h, h)

-- one more exchange
after : {s m : ℕ} {a b r : List ℕ} {f g : ℕ → ℕ → ℕ} → Blocks s m → Moved b r (from_row s) (from_column s) → Moved a b f g → Moved a r (λ i j. f (from_row s i j) (from_column s i j)) (λ i j. g (from_row s i j) (from_column s i j))
unfolding from_row from_column
after {s} {a = a} {f = f} {g} B p q = record {
  rows = λ i h. p.rows i h ∙ set_of-cong 64 _ _ (λ j l.
      let k = from_row s i j in
      let r : k < 64 = (moved-lt s i h (low_half s i) (low_half s j) (B.room i h)).0 in
      let c : from_column s i j < 64 = (moved-lt s j l (low_half s j) (low_half s i) (B.room j l)).1 in
      ap (λ (x : ℕ). member x (from_column s i j)) (q.rows k r) ∙ member-set_of 64 (λ j. member (get_or a (f k j) 0) (g k j)) (from_column s i j) c);
}

-- where the bit at row i and column j comes from after all exchanges
abbrev from : ℕ → ℕ × ℕ → ℕ × ℕ
from s p = (from_row s p.0 p.1, from_column s p.0 p.1)

origin : ℕ → ℕ → ℕ × ℕ
origin i j = from 32 (from 16 (from 8 (from 4 (from 2 (from 1 (i, j))))))

exchanged : ℕ → Nodes
exchanged i j = eqb (origin i j).0 j && eqb (origin i j).1 i

all-exchanged : all_below 64 (λ i. all_below 64 (exchanged i)) ≡ true
all-exchanged = unfold all_below exchanged origin from_row from_column low_half in refl

pub transposes : {a b c d e f r : List ℕ} → Moved a b (from_row 32) (from_column 32) → Moved b c (from_row 16) (from_column 16)
    → Moved c d (from_row 8) (from_column 8) → Moved d e (from_row 4) (from_column 4) → Moved e f (from_row 2) (from_column 2) → Moved f r (from_row 1) (from_column 1) → Transposed a r
unfolding exchanged origin
transposes {a} p1 p2 p3 p4 p5 p6 =
    let q = after six.of-1 p6 (after six.of-2 p5 (after six.of-4 p4 (after six.of-8 p3 (after six.of-16 p2 p1)))) in
    record {
      rows = λ i h. q.rows i h ∙ set_of-cong 64 _ _ (λ j l.
          let t = all-each 64 (exchanged i) (all-each 64 (λ k. all_below 64 (exchanged k)) all-exchanged i h) j l in
          let both = (and-eq-true_iff (eqb (origin i j).0 j) (eqb (origin i j).1 i)).0 t in
          ap₂ (λ (x y : ℕ). member (get_or a x 0) y) (eqb-true _ _ both.0) (eqb-true _ _ both.1));
    }
