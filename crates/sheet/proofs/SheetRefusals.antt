-- How a sheet can be refused: with 1 to 4, and the number of a block, 0 to 16, as the place.
use mathlib.Core.List.{List}
use Prim.Native.Nat.{ℕ, zero, suc, ◌+◌, ◌≤◌}
use native.Mathlib.Omega.{arith}
use Rattle.answer.proofs.Refusals.{Refuses, passes, is-refuses, asked-refuses, then-refuses}
use Rattle.sheet.specs.Sheet.{SheetForm, block_count}
use Rattle.sheet.specs.Questions.{ask_block_def, ask_blocks, ask_sheet_in}

blocks-refuse : (φ : SheetForm) (t : List ℕ) (m b : ℕ) → m + b ≤ block_count → Refuses 1 4 16 (ask_blocks φ t m b)
unfolding ask_blocks ask_block_def
blocks-refuse φ t zero b h = passes
blocks-refuse φ t (suc m) b h =
    let l : b ≤ 16 = omega arith in
    then-refuses (asked-refuses _ (omega arith) (omega arith) l (λ e. asked-refuses _ (omega arith) (omega arith) l (λ f. is-refuses _ (omega arith) (omega arith) l))) (blocks-refuse φ t m (suc b) (omega arith))

pub sheet-refuses : (φ : SheetForm) (t : List ℕ) → Refuses 1 4 16 (ask_sheet_in φ t)
sheet-refuses φ t = unfold ask_sheet_in in asked-refuses _ (omega arith) (omega arith) (omega arith) (λ e. blocks-refuse φ t block_count 0 (omega arith))
