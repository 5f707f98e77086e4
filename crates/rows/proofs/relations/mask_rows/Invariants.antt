use mathlib.Core.Bool.{◌&&◌}
use mathlib.Core.Path.{◌≡◌}
use lib.ListN.{length, get_or}
use Rattle.rows.proofs.OperationLaws.{Changed}
use Rattle.bitset.specs.Words.{combined}
use Rattle.rows.proofs.relations.mask_rows.Given as goal

abbrev pub invariant-loop-i : goal.invariant-loop-i
invariant-loop-i l = (length l.rows ≡ 64) × Changed l.i l.initial.rows l.rows (λ k. combined ◌&&◌ (get_or l.initial.rows k 0) l.e)
