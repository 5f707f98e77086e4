use native.Mathlib.Omega.{arith}
use Rattle.ends.proofs.Pending.{passing-first, passing-at, passing-turn, passing-more, passing-end}
use Rattle.ends.proofs.past.Goals as goal

pub loop-wanted-init : goal.loop-wanted-init
loop-wanted-init c = passing-first _ _

pub bounds-text-p : goal.bounds-text-p
bounds-text-p c = (passing-at c.loop-wanted.invariant c.loop-wanted-test.true c.requires).inside-text

pub shape-s-requires : goal.shape-s-requires
shape-s-requires c = (passing-at c.loop-wanted.invariant c.loop-wanted-test.true c.requires).low

pub overflow_add-p : goal.overflow_add-p
overflow_add-p c = omega (arith, (passing-turn c.loop-wanted.invariant c.loop-wanted-test.true _ c.shape-s.ensures c.requires).in-text)

pub overflow_add-wanted : goal.overflow_add-wanted
overflow_add-wanted c = omega (arith, (passing-turn c.loop-wanted.invariant c.loop-wanted-test.true _ c.shape-s.ensures c.requires).in_count)

pub loop-wanted-smaller : goal.loop-wanted-smaller
loop-wanted-smaller c = let g = passing-turn c.loop-wanted.invariant c.loop-wanted-test.true _ c.shape-s.ensures c.requires in omega (arith, g.on, g.in-text)

pub loop-wanted-preserved : goal.loop-wanted-preserved
loop-wanted-preserved c = passing-more c.loop-wanted.invariant c.loop-wanted-test.true _ c.shape-s.ensures

pub returns : goal.returns
returns c = passing-end c.loop-wanted.invariant c.loop-wanted-test.false
