use Rattle.std.proofs.Common.{◌≤◌, ◌+◌, ◌-◌, ◌*◌, ◌∙◌, refl, arith}
use native.Mathlib.Nat.{mul-le-mul}
use Rattle.ends.proofs.TreePlaces.{fits}
use Rattle.measure.proofs.Loops.{choice-held}
use Rattle.measure.proofs.back.choose_ways.Goals as goal

pub overflow_sub-next : goal.overflow_sub-next
overflow_sub-next c = let p = c.requires in omega (arith, (c.scan-next.ensures p.0.what p.0.stands).ends, fits _ _ p.0.what p.0.stands, p.1)

pub overflow_mul-next : goal.overflow_mul-next
overflow_mul-next c = let p = c.requires in omega (arith, (c.scan-next.ensures p.0.what p.0.stands).ends, fits _ _ p.0.what p.0.stands, p.1)

pub overflow_add-next : goal.overflow_add-next
overflow_add-next c = let p = c.requires in omega (arith, (c.scan-next.ensures p.0.what p.0.stands).ends, fits _ _ p.0.what p.0.stands, p.1)

pub overflow_mul-rules-2 : goal.overflow_mul-rules-2
overflow_mul-rules-2 c = let p = c.requires in let e : 4 + 2 * (c.scan-next.result - c.args.at) ≤ 8196 = omega (arith, (c.scan-next.ensures p.0.what p.0.stands).ends, fits _ _ p.0.what p.0.stands, p.1) in omega (arith, mul-le-mul p.2 e)

pub returns : goal.returns
returns c = choice-held (c.scan-next.auto.state ∙ c.merge.auto.state ∙ c.requires.4) c.merge.ensures c.scan-next.ensures refl c.lengthen.ensures
