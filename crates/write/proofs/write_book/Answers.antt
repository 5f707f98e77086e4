use native.Mathlib.Omega.{arith}
use mathlib.Core.Path.{refl, ◌∙◌}
use Rattle.write.proofs.Rules.{writing-first, rule-fits-next, writing-on, writing_more, writing-end}
use Rattle.write.proofs.write_book.Goals as goal

pub start-rest-requires : goal.start-rest-requires
start-rest-requires c = let p = c.requires in (record { what = p.0.Z; stands = p.0.Z-at }, p.1)

pub loop-place-init : goal.loop-place-init
loop-place-init c = (writing-first _ c.requires.0, refl, c.start-rest.ensures)

pub write_rule-place-requires : goal.write_rule-place-requires
write_rule-place-requires c = let i = c.loop-place.invariant in let f = c.requires.1 in
    (record { from = c.args.from; started = i.2; fits = rule-fits-next i.0 c.loop-place-test.true }, record { short = f.short; long = i.1 ∙ c.start-rest.auto.work ∙ f.long })

pub loop-place-smaller : goal.loop-place-smaller
loop-place-smaller c = let i = c.loop-place.invariant in let t = c.loop-place-test.true in omega (arith, t, writing-on i.0 t (c.write_rule-place.ensures _ i.2).0)

pub loop-place-preserved : goal.loop-place-preserved
loop-place-preserved c = let i = c.loop-place.invariant in
    let y = c.write_rule-place.ensures _ i.2 in let k = c.write_rule-place.auto in
    (writing_more i.0 c.loop-place-test.true y.0 k.out, k.work ∙ i.1, y.1)

pub returns : goal.returns
returns c = writing-end c.loop-place.invariant.0 c.loop-place-test.false
