use native.Mathlib.Omega.{arith}
use Rattle.rows.proofs.OperationLaws.{rows-ending}
use Rattle.rows.proofs.relations.end_rows.Goals as goal

pub returns : goal.returns
returns c = (λ v w p q. rows-ending w _ (omega (arith, c.requires.0)) p q c.mask_rows.ensures.0, c.mask_rows.ensures.1)
