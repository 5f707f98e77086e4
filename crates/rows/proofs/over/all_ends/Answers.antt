use native.Mathlib.Omega.{arith}
use Rattle.rows.proofs.Quantifiers.{any_none, any-more}
use Rattle.rows.proofs.over.all_ends.Goals as goal

pub loop-i-init : goal.loop-i-init
loop-i-init g c v p = any_none _ v

pub loop-i-preserved : goal.loop-i-preserved
loop-i-preserved g c v p = any-more _ _ v _ _ _ (omega (arith, c.requires.0)) (c.loop-i.invariant v p) (p.row _ _ c.loop-i-test.true c.row.ensures) c.either-r.ensures
