use mathlib.Core.Path.{sym, ◌∙◌}
use native.Mathlib.Omega.{arith}
use Rattle.logic.proofs.Below.{all_none, all-next, all-stop, all_end}
use Rattle.rows.proofs.relations.rows_in.Goals as goal

pub loop-i-init : goal.loop-i-init
loop-i-init c v w p q = all_none _

pub returns : goal.returns
returns c v w p q = sym (all_end _ _ _ c.loop-i.auto.i-end c.loop-i-test.false (c.loop-i.invariant v w p q))

pub returns-then-not-set_in : goal.returns-then-not-set_in
returns-then-not-set_in c v w p q = let l = c.loop-i-test.true in sym (all-stop _ _ _ l (sym (c.set_in.ensures _ (v _) (w _) (omega arith) (p.row _ l) (q.row _ l)) ∙ c.if-not-set_in.true))

pub loop-i-preserved : goal.loop-i-preserved
loop-i-preserved c v w p q = let l = c.loop-i-test.true in
    all-next _ _ (c.loop-i.invariant v w p q) (sym (c.set_in.ensures _ (v _) (w _) (omega arith) (p.row _ l) (q.row _ l)) ∙ c.if-not-set_in.false)
