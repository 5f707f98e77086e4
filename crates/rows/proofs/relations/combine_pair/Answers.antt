use native.Mathlib.Omega.{arith}
use lib.ListN.{length-set}
use Rattle.rows.proofs.OperationLaws.{rows-paired}
use Rattle.rows.proofs.relations.combine_pair.Goals as goal

pub returns : goal.returns
returns c = let s = c in (
  λ n nodes v h a p. rows-paired s.args.c n nodes v _ _ _ _ _ _ s.requires.0 h s.requires.3 c.index-at.ensures (omega (arith, s.requires.1)) p (λ l. c.pair_row.ensures n nodes h l a) c.combined_row.ensures,
  simp length-set s.requires.3,
)
