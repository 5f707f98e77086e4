use native.Mathlib.Omega.{arith}
use lib.ListN.{length-set}
use Rattle.ends.proofs.TreePlaces.{inside}
use Rattle.write.proofs.Laying.{wrote_one, wrote-more}
use Rattle.write.proofs.ways.open_first.Goals as goal

pub overflow_add-at : goal.overflow_add-at
overflow_add-at c = omega (arith, inside _ _ c.requires.0.what c.requires.0.what_at, c.well_formed.0.0)

pub put_two-p-requires : goal.put_two-p-requires
put_two-p-requires c = omega (arith, c.requires.0.fits)

pub bounds-out-p : goal.bounds-out-p
bounds-out-p c = omega (arith, c.requires.0.fits, c.put_two-p.ensures.counted, c.put_two-p.auto.out)

pub overflow_add-p : goal.overflow_add-p
overflow_add-p c = omega (arith, c.requires.0.fits, c.put_two-p.ensures.counted)

-- the first two bytes, and the third
pub emit-requires : goal.emit-requires
emit-requires c =
    let k = c.put_two-p in
    let w = c.requires.0 in
    (record { steps = w.steps; is = w.is; stands = w.stands; what = w.what; what_at = w.what_at; fits = omega (arith, w.fits, k.ensures.counted, length-set k.new.out k.result 0x27, k.auto.out) }, c.requires.1)

pub returns : goal.returns
returns c = λ σ t e i a. let r = c.emit.ensures σ t e i a in (wrote-more (wrote-more c.put_two-p.ensures (wrote_one _ _ 0x27)) r.0, r.1)
