use native.Mathlib.Omega.{arith}
use Rattle.logic.proofs.Below.{all_none, all-next}
use Rattle.witness.proofs.PairLaws.{word-outside, word_none, pair_found, pair-none}
use Rattle.witness.proofs.first_pair.Goals as goal

pub loop-i-init : goal.loop-i-init
loop-i-init c v w p q = all_none _

pub returns-then-x-gt0 : goal.returns-then-x-gt0
returns-then-x-gt0 c v w p q =
    let l = c.loop-i-test.true in
    let x = word-outside _ (v _) (w _) _ _ _ (omega arith) (p.row _ l) (q.row _ l) c.minus-x.ensures in
    pair_found _ v w _ _ _ l (omega arith) (c.loop-i.invariant v w p q) x c.if-x-gt0.true c.first.ensures.0 c.first.ensures.2

pub loop-i-preserved : goal.loop-i-preserved
loop-i-preserved c v w p q =
    let l = c.loop-i-test.true in
    all-next _ _ (c.loop-i.invariant v w p q) (word_none _ (v _) (w _) _ (word-outside _ (v _) (w _) _ _ _ (omega arith) (p.row _ l) (q.row _ l) c.minus-x.ensures) c.if-x-gt0.false)

pub returns : goal.returns
returns c v w p q = pair-none _ v w _ c.loop-i.auto.i-end c.loop-i-test.false (c.loop-i.invariant v w p q)
