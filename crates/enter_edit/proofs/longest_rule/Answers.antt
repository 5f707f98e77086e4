use Rattle.std.proofs.Common.{◌∙◌, refl, arith}
use Rattle.ends.proofs.RulePlaces.{rule_fits}
use Rattle.enter_edit.proofs.Longest.{first-left, none_left, left-first}
use Rattle.enter_edit.proofs.longest_rule.Goals as goal

pub start-rest-requires : goal.start-rest-requires
start-rest-requires c = let p = c.requires in (record { what = p.0.Z; stands = p.0.Z-at }, p.1)

pub loop-at-init : goal.loop-at-init
loop-at-init c = (refl, refl, c.start-rest.ensures, λ rules Z b h. left-first Z b)

pub write_rule-written-requires : goal.write_rule-written-requires
write_rule-written-requires c = let p = c.requires.0 in let i = c.loop-at.invariant in
    let q = first-left c.loop-at-test.true (i.3 p.rules p.Z p.is p.Z-at) in (
      record { from = c.args.from; started = i.2; fits = record { K = q.K; K-at = q.K-at; Z = p.Z; Z-at = p.Z-at; fits = omega (arith, q.fits, p.fits, i.1) } },
      record { short = c.requires.1.short; long = i.0 ∙ c.start-rest.auto.work ∙ c.requires.1.long },
    )

pub loop-at-smaller : goal.loop-at-smaller
loop-at-smaller c = let p = c.requires.0 in let i = c.loop-at.invariant in
    let q = first-left c.loop-at-test.true (i.3 p.rules p.Z p.is p.Z-at) in
    let y = (c.write_rule-written.ensures _ i.2).0 q.K p.Z q.K-at p.Z-at in
    let f = rule_fits _ _ q.K q.K-at in omega (arith, y.read, f.0, f.1)

pub loop-at-preserved : goal.loop-at-preserved
loop-at-preserved c = let i = c.loop-at.invariant in let w = c.write_rule-written in (
  w.auto.work ∙ i.0,
  w.auto.out ∙ i.1,
  (w.ensures _ i.2).1,
  λ rules Z b h. let q = first-left c.loop-at-test.true (i.3 rules Z b h) in
      let y = (w.ensures _ i.2).0 q.K Z q.K-at h in q.more _ _ y.read (omega (arith, y.wrote.counted)),
)

pub returns : goal.returns
returns c = λ rules Z b h. none_left c.loop-at-test.false (c.loop-at.invariant.3 rules Z b h)
