use native.Mathlib.Omega.{arith}
use mathlib.Core.Path.{◌≡◌, ap, ◌∙◌}
use mathlib.Core.List.{List}
use Prim.Native.Nat.{ℕ, ◌<◌}
use lib.ListN.{length-set}
use Rattle.ends.specs.Shapes.{Named, cell}
use Rattle.ends.proofs.NameCells.{named-lt}
use Rattle.write.specs.Links.{code_at, number_at}
use Rattle.write.proofs.names.link.Goals as goal

-- the cell of the step's name
cell-is : (edit : List ℕ) (at : ℕ) {i x : ℕ} → i ≡ cell x (number_at edit at) → x ≡ code_at edit at → i ≡ cell (code_at edit at) (number_at edit at)
cell-is edit at e f = e ∙ ap (λ (y : ℕ). cell y (number_at edit at)) f

cell-low : (edit : List ℕ) (at : ℕ) {i x : ℕ} → i ≡ cell x (number_at edit at) → x ≡ code_at edit at → Named (code_at edit at) (number_at edit at) → i < 64
cell-low edit at e f n = omega (arith, cell-is edit at e f, named-lt _ _ n)

pub offset_bounds-work-i : goal.offset_bounds-work-i
offset_bounds-work-i c = omega (arith, cell-low c.args.edit.now c.args.at c.cell_of-i.ensures c.name_code.ensures c.requires.3, c.requires.2)

pub bounds-work-i : goal.bounds-work-i
bounds-work-i c = omega (arith, cell-low c.args.edit.now c.args.at c.cell_of-i.ensures c.name_code.ensures c.requires.3, c.requires.2)

pub offset_bounds-work-i-2 : goal.offset_bounds-work-i-2
offset_bounds-work-i-2 c = omega (arith, cell-low c.args.edit.now c.args.at c.cell_of-i.ensures c.name_code.ensures c.requires.3, c.requires.2)

pub bounds-work-i-2 : goal.bounds-work-i-2
bounds-work-i-2 c = simp length-set (omega (arith, cell-low c.args.edit.now c.args.at c.cell_of-i.ensures c.name_code.ensures c.requires.3, c.requires.2))

pub returns : goal.returns
returns c = rw (cell-is c.args.edit.now c.args.at c.cell_of-i.ensures c.name_code.ensures)
