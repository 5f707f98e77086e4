use native.Mathlib.Omega.{arith}
use borrow.Author.Rules.{rules}
use Rattle.count_small.proofs.Counting.{room, none-counted, counted-more, counted-all}
use Rattle.count_small.proofs.small.count_all.Goals as goal

pub loop-x-init : goal.loop-x-init
loop-x-init c = (c.requires.0, λ rules Z s. none-counted _ _ c.default-four.result c.default-four.ensures)

pub tally-four-requires : goal.tally-four-requires
tally-four-requires c =
    let i = c in
    let l = i in
    let n = l in
    let q = n.requires.3 in
    room l.loop-x.x _ _ _ (omega (arith, i.loop-x-test.true, n.how_many-most.ensures.1)) (l.loop-x.invariant.1 q.rules q.what q.stand)

pub loop-x-preserved : goal.loop-x-preserved
loop-x-preserved c =
    let t = c in
    let l = t.loop-x in
    (t.turn.ensures.0, λ rules Z s. counted-more _ l.x rules Z _ _ _ _ (l.invariant.1 rules Z s) (t.turn.ensures.1 rules Z s) c.tally-four.ensures)

pub returns : goal.returns
returns c rules Z s = let l = c in counted-all _ _ rules Z _ (omega (arith, l.loop-x.auto.x-end, c.loop-x-test.false, l.how_many-most.ensures.0)) (l.loop-x.invariant.1 rules Z s)
