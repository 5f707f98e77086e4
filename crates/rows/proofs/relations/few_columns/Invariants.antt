use mathlib.Core.Path.{◌≡◌}
use lib.ListN.{length}
use Rattle.sheet.specs.Sheet.{Rows}
use Rattle.rows.proofs.ColumnLaws.{Cols}
use Rattle.rows.proofs.relations.few_columns.Given as goal

abbrev pub invariant-loop-i : goal.invariant-loop-i
invariant-loop-i l = (length l.out ≡ 64) × Rows 64 (Cols l.rows l.i) l.out
