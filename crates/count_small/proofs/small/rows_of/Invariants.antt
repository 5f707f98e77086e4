use mathlib.Core.Path.{◌≡◌}
use lib.ListN.{length}
use Rattle.bitset.specs.Words.{set_of}
use Rattle.rows.proofs.OperationLaws.{Changed}
use Rattle.count_small.specs.Small.{small_sheet}
use Rattle.count_small.proofs.small.rows_of.Given as goal

abbrev pub invariant-loop-i : goal.invariant-loop-i
invariant-loop-i l = (length l.rows ≡ 64) × Changed l.i l.initial.rows l.rows (λ k. set_of l.n ((small_sheet l.n l.x).joined 0 k))
