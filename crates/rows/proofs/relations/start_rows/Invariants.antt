use mathlib.Core.Bool.{cond}
use mathlib.Core.Path.{◌≡◌}
use lib.ListN.{length, get_or}
use Rattle.bitset.specs.Words.{member}
use Rattle.rows.proofs.OperationLaws.{Changed}
use Rattle.rows.proofs.relations.start_rows.Given as goal

abbrev pub invariant-loop-i : goal.invariant-loop-i
invariant-loop-i l = (length l.rows ≡ 64) × Changed l.i l.initial.rows l.rows (λ k. cond (member l.e k) (get_or l.initial.rows k 0) 0)
