use native.Mathlib.Omega.{arith}
use mathlib.Core.Path.{refl, sym, ◌∙◌}
use Rattle.ends.proofs.FirstSteps.{edit-inside}
use Rattle.write.proofs.Finding.{relinked-none, relinked-more}
use Rattle.write.proofs.Walking.{walking-first, walking-more, walked}
use Rattle.write.proofs.ways.walk.Goals as goal

pub loop-work-init : goal.loop-work-init
loop-work-init c = (walking-first c.requires.0, relinked-none c.requires.2, refl)

pub rests-requires : goal.rests-requires
rests-requires c = let w = c.loop-work.invariant.0.some in edit-inside _ _ w.what w.way.here

pub pass-here-requires : goal.pass-here-requires
pass-here-requires c = let i = c.loop-work.invariant in let f = c.requires.1 in
    (rw i.1.behind_same i.0.some, sym c.rests.ensures ∙ c.loop-work-test.true, record { short = f.short; long = i.2 ∙ f.long }, i.1.linked)

pub loop-work-smaller : goal.loop-work-smaller
loop-work-smaller c = let w = c.loop-work.invariant.0.some in omega (arith, edit-inside _ _ w.what w.way.here, c.pass-here.ensures.0.on)

pub returns : goal.returns
returns c = let i = c.loop-work.invariant in (walked i.0 (sym c.rests.ensures ∙ c.loop-work-test.false), i.1)

pub loop-work-preserved : goal.loop-work-preserved
loop-work-preserved c = let i = c.loop-work.invariant in let k = c.pass-here in (walking-more i.0 i.1.behind_same k.ensures.0, relinked-more i.0.up i.1 k.ensures.1, k.auto.work ∙ i.2)
