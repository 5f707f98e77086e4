use mathlib.Core.Path.{sym, ap, ◌∙◌}
use native.Mathlib.Omega.{arith}
use Rattle.bitset.proofs.SetLaws.{set_of-zero, set_of-more, set_of-same, set_of-end}
use Rattle.bitset.specs.Words.{digit}
use Rattle.rows.proofs.over.all_starts.Goals as goal
use Rattle.rows.proofs.over.all_starts.Goals.{then-enough, else-enough}

pub loop-i-init : goal.loop-i-init
loop-i-init g c v w p q = set_of-zero _

pub returns : goal.returns
returns g c v w p q = set_of-end _ _ _ _ c.loop-i.auto.i-end c.loop-i-test.false (c.loop-i.invariant v w p q)

pub loop-i-preserved : goal.loop-i-preserved
loop-i-preserved g c v w p q =
    let h = c.enough.ensures _ (v _) w (omega arith) (p.row _ _ c.loop-i-test.true c.row.ensures) q in
    elim c.if-enough.branch [
      | then-enough x ↦ x.r-is ∙ set_of-more _ _ _ _ (omega arith) (c.loop-i.invariant v w p q) (ap digit (sym x.if-enough.true ∙ h))
      | else-enough x ↦ x.r-is ∙ set_of-same _ _ _ (c.loop-i.invariant v w p q) (sym h ∙ x.if-enough.false)
    ]
