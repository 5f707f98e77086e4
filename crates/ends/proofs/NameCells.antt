-- The cells of names: there are 64, and different names have different cells.
use mathlib.Core.Path.{◌≡◌, refl, sym, ap, ap₂, ◌∙◌}
use mathlib.Core.Bool.{Bool, true, false, cond}
use mathlib.Core.Logic.{⊎_elim}
use mathlib.Core.List.{List}
use Prim.Native.Nat.{ℕ, ◌+◌, ◌<◌}
use native.Mathlib.Omega.{arith}
use borrow.Author.Tests.{ne_eqb}
use lib.ListN.{length, get_or, set}
use lib.Seq.{get_or-set_same}
use Rattle.tree.specs.Tree.{same}
use Rattle.tree.proofs.Measured.{same-eq, same_self}
use Rattle.ends.specs.Shapes.{Named, label_cell_def, arrow_cell_def, cell}
use Rattle.ends.proofs.Kept.{elsewhere}
use Rattle.logic.proofs.Bools.{true-false}

-- the cell of a label and of an arrow
pub cell-label : (c k : ℕ) → c ≡ 0x03 → cell c k ≡ label_cell_def k
cell-label c k e = unfold cell in ap (λ (x : ℕ). cell x k) e

pub cell-arrow : (c k : ℕ) → (c ≡ 0x03 → ⊥) → cell c k ≡ arrow_cell_def k
cell-arrow c k f = unfold cell in ap (λ (b : Bool). cond b (label_cell_def k) (arrow_cell_def k)) (ne_eqb c 0x03 f)

pub named-lt : (c k : ℕ) → Named c k → cell c k < 64
named-lt c k n = ⊎_elim (λ p. omega (arith, cell-label c k p.0, p.1)) (λ p. omega (arith, cell-arrow c k (λ e. omega (arith, p.0)), p.1)) n

-- different names have different cells
cell-inj : (c k c' k' : ℕ) → Named c k → Named c' k' → cell c k ≡ cell c' k' → (c ≡ c') × (k ≡ k')
cell-inj c k c' k' n m e = ⊎_elim
    (λ p. let x : cell c k ≡ label_cell_def k = cell-label c k p.0 in ⊎_elim (λ q. (omega (arith, p.0, q.0), omega (arith, cell-label c' k' q.0))) (λ q. absurd (omega (arith, p.1, cell-arrow c' k' (λ f. omega (arith, q.0))))) m)
    (λ p. let x : cell c k ≡ arrow_cell_def k = cell-arrow c k (λ e. omega (arith, p.0)) in ⊎_elim (λ q. absurd (omega (arith, q.1, cell-label c' k' q.0))) (λ q. (omega (arith, p.0, q.0), omega (arith, cell-arrow c' k' (λ f. omega (arith, q.0))))) m)
    n

pub apart : (c k c' k' : ℕ) → Named c k → Named c' k' → same c k c' k' ≡ false → cell c k ≡ cell c' k' → ⊥
apart c k c' k' n m e q = let p = cell-inj c k c' k' n m q in true-false (ap₂ (λ (u v : ℕ). same c k u v) (sym p.0) (sym p.1) ∙ same_self c k) e

pub alike : (c k c' k' : ℕ) → same c k c' k' ≡ true → cell c' k' ≡ cell c k
alike c k c' k' e = let p = same-eq c k c' k' e in ap₂ cell (sym p.0) (sym p.1)

-- A number stored in the cell of one name and read from that of another: A says what is read, by whether the names are the same.
pub stored-name : (l : List ℕ) {c k i x : ℕ} (base : ℕ) → Named c k → i ≡ base + cell c k → i < length l → (A : ℕ → ℕ → Bool → ℕ) → x ≡ A c k true
    → (c' k' j : ℕ) → Named c' k' → j ≡ base + cell c' k' → get_or l j 0 ≡ A c' k' false → get_or (set l i x) j 0 ≡ A c' k' (same c' k' c k)
stored-name l {c} {k} {i} {x} base n e r A f c' k' j n' e' g = go (same c' k' c k) refl where
  go : (b : Bool) → same c' k' c k ≡ b → get_or (set l i x) j 0 ≡ A c' k' b
  go true q = let p = same-eq c' k' c k q in let m : j ≡ i = omega (arith, alike c' k' c k q) in rw (m, p.0, p.1) (get_or-set_same l i x 0 r ∙ f)
  go false q = elsewhere l i j x (λ m. apart c' k' c k n' n q (omega arith)) ∙ g
