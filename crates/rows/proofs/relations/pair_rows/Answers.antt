use mathlib.Core.Path.{ap}
use native.Mathlib.Omega.{arith}
use lib.ListN.{length, length-set}
use Rattle.rows.proofs.OperationLaws.{rows-pair}
use Rattle.rows.proofs.relations.pair_rows.Goals as goal

pub returns : goal.returns
returns c = (λ n nodes h a. rows-pair n nodes _ _ _ _ _ c.requires.2 c.index-at.ensures (omega (arith, c.requires)) (λ l. c.pair_row.ensures n nodes h l a), simp length-set (ap length c.requires.2))
