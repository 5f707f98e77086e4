use mathlib.Core.Path.{◌≡◌}
use lib.ListN.{length, get_or}
use Rattle.rows.specs.Operations.{arrow_operation}
use Rattle.rows.proofs.OperationLaws.{Changed}
use Rattle.bitset.specs.Words.{set_of, combined}
use Rattle.sheet.specs.Sheet.{graph_of}
use Rattle.rows.proofs.relations.combine_kind.Given as goal

abbrev pub invariant-loop-i : goal.invariant-loop-i
invariant-loop-i l = (length l.a ≡ 64) × Changed l.i l.initial.a l.a (λ j. combined (arrow_operation l.c) (get_or l.initial.a j 0) (set_of (graph_of l.sheet).n ((graph_of l.sheet).joined l.k.0 j)))
