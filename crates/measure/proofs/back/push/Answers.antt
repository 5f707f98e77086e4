use native.Mathlib.Omega.{arith}
use Rattle.ends.proofs.FirstSteps.{edit-inside}
use Rattle.measure.proofs.EditWalks.{going-first, going_more, going_end}
use Rattle.measure.proofs.back.push.Goals as goal

pub loop-p-init : goal.loop-p-init
loop-p-init c = going-first _ c.requires.1 c.requires.0

pub bounds-text-p : goal.bounds-text-p
bounds-text-p c = let r = c.loop-p.invariant.some in omega (arith, edit-inside _ _ r.what r.stands)

pub overflow_cast-stack : goal.overflow_cast-stack
overflow_cast-stack c = let r = c.loop-p.invariant.some in omega (arith, edit-inside _ _ r.what r.stands, c.requires.3)

pub offset_bounds-stack-n : goal.offset_bounds-stack-n
offset_bounds-stack-n c = let g = c.loop-p.invariant in omega (arith, edit-inside _ _ g.some.what g.some.stands, g.np, c.well_formed.0.1)

pub bounds-stack-n : goal.bounds-stack-n
bounds-stack-n c = let g = c.loop-p.invariant in omega (arith, edit-inside _ _ g.some.what g.some.stands, g.np, g.room, c.requires.2)

pub overflow_add-n : goal.overflow_add-n
overflow_add-n c = let g = c.loop-p.invariant in omega (arith, edit-inside _ _ g.some.what g.some.stands, g.np, c.well_formed.0.0)

pub loop-p-smaller : goal.loop-p-smaller
loop-p-smaller c = let r = c.loop-p.invariant.some in omega (arith, edit-inside _ _ r.what r.stands, (c.next_step-p.ensures r.what r.stands).on)

pub loop-p-preserved : goal.loop-p-preserved
loop-p-preserved c = let g = c.loop-p.invariant in going_more (omega (arith, edit-inside _ _ g.some.what g.some.stands, g.np, g.room, c.requires.2)) c.loop-p-test.true g c.next_step-p.ensures

pub returns : goal.returns
returns c = let g = c.loop-p.invariant in (going_end c.loop-p-test.false g, g.kept)
