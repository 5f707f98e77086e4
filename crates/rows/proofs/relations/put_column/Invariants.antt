use mathlib.Core.Path.{◌≡◌}
use lib.ListN.{length}
use Rattle.logic.specs.Graph.{Pairs}
use Rattle.sheet.specs.Sheet.{Rows}
use Rattle.rows.proofs.MemberWalks.{Inside}
use Rattle.rows.proofs.ColumnLaws.{Put}
use Rattle.rows.proofs.relations.put_column.Given as goal

abbrev pub invariant-loop-left : goal.invariant-loop-left
invariant-loop-left l = (length l.out ≡ 64) × Inside l.left l.row × ((p : Pairs) → Rows 64 p l.initial.out → Rows 64 (Put l.row l.left l.i p) l.out)

abbrev pub decreases-loop-left : goal.decreases-loop-left
decreases-loop-left l = l.left
