use mathlib.Core.Path.{◌≡◌}
use Prim.Native.Nat.{◌-◌, ◌≤◌, ◌<◌}
use Rattle.logic.specs.Limits.{max_nodes}
use Rattle.sheet.specs.SheetForms.{form_in}
use Rattle.sheet.specs.Questions.{ask_blocks, ask_sheet_in}
use Rattle.sheet.specs.Sheet.{block_count}
use Rattle.sheet.proofs.Sheet.check_in.Given as goal

abbrev pub invariant-loop-b : goal.invariant-loop-b
invariant-loop-b l = (0 < l.b → l.n ≤ max_nodes) × (ask_sheet_in (form_in l.sums l.held) l.sheet ≡ ask_blocks (form_in l.sums l.held) l.sheet (block_count - l.b) l.b)
