use mathlib.Core.Path.{◌≡◌}
use lib.ListN.{length}
use Rattle.bitset.specs.Words.{set_of}
use Rattle.sheet.specs.Sheet.{graph_of}
use Rattle.rows.proofs.OperationLaws.{Changed}
use Rattle.rows.proofs.relations.arrow_rows.Given as goal

abbrev pub invariant-loop-i : goal.invariant-loop-i
invariant-loop-i l = (length l.out ≡ 64) × Changed l.i l.initial.out l.out (λ k. set_of (graph_of l.sheet).n ((graph_of l.sheet).joined l.a.0 k))
