use mathlib.Core.Path.{◌≡◌}
use lib.ListN.{length, get_or}
use Rattle.rows.specs.Operations.{arrow_operation}
use Rattle.rows.proofs.OperationLaws.{Changed}
use Rattle.bitset.specs.Words.{combined}
use Rattle.rows.proofs.relations.combine_rows.Given as goal

abbrev pub invariant-loop-i : goal.invariant-loop-i
invariant-loop-i l = (length l.a ≡ 64) × Changed l.i l.initial.a l.a (λ k. combined (arrow_operation l.c) (get_or l.initial.a k 0) (get_or l.b k 0))
