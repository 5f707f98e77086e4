use Rattle.std.proofs.Common.{arith}
use Rattle.rewrite_counts.proofs.ToCome.{tree-here, next-turn, counted-first, counted-copied, counted-put, counted-end}
use Rattle.rewrite_counts.proofs.rewritten_length.Goals as goal
use Rattle.rewrite_counts.proofs.rewritten_length.Goals.{in-None, in-Some}

pub loop-p-init : goal.loop-p-init
loop-p-init c = counted-first _

pub turn_at-here-requires : goal.turn_at-here-requires
turn_at-here-requires c = tree-here (c.loop-p.invariant c.requires.what c.requires.is).left c.loop-p-test.true

pub overflow_sub-len : goal.overflow_sub-len
overflow_sub-len c = omega (arith, (next-turn (c.loop-p.invariant c.requires.what c.requires.is).left c.loop-p-test.true c.turn_at-here.ensures).on)

pub overflow_add-len : goal.overflow_add-len
overflow_add-len c =
    let w = c.loop-p.invariant c.requires.what c.requires.is in
    let n = next-turn w.left c.loop-p-test.true c.turn_at-here.ensures in
    elim c.match-here.branch [
      | in-None v ↦ omega (arith, w.low, n.on, n.in-text, v.len-is)
      | in-Some v ↦ omega (arith, w.low, n.on, n.in-text, v.len-is)
    ]

pub loop-p-smaller : goal.loop-p-smaller
loop-p-smaller c = let n = next-turn (c.loop-p.invariant c.requires.what c.requires.is).left c.loop-p-test.true c.turn_at-here.ensures in omega (arith, n.on, n.in-text)

pub loop-p-preserved : goal.loop-p-preserved
loop-p-preserved c = λ rules b.
    let w = c.loop-p.invariant rules b in
    let n = next-turn w.left c.loop-p-test.true c.turn_at-here.ensures in
    elim c.match-here.branch [
      | in-None v ↦ rw v.len-is (counted-copied w n v.in-None.is)
      | in-Some v ↦ rw v.len-is (counted-put w n _ v.in-Some.is)
    ]

pub returns : goal.returns
returns c = λ rules b. counted-end (c.loop-p.invariant rules b) c.loop-p-test.false
