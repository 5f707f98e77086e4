use Rattle.std.proofs.Common.{◌∙◌, refl, arith}
use Rattle.tree.specs.Tree.{tree}
use Rattle.ends.proofs.FirstSteps.{as-choose, edit-inside, code-pos}
use Rattle.ends.proofs.Kept.{kept_more}
use Rattle.measure.proofs.Puts.{end-here}
use Rattle.measure.proofs.EditWalks.{backing-first, backing-next, backing-end, parted, choice-measured, choice-prefixed}
use Rattle.measure.proofs.back.+back_one_back.Goals as goal

pub back-end_before-pos-requires : goal.back-end_before-pos-requires
back-end_before-pos-requires t c = let p = c.requires in (omega (arith, p.0.room, code-pos p.0.what), p.6)

pub back-loop-top-init : goal.back-loop-top-init
back-loop-top-init t c = let e = c.end_before-pos.ensures in let p = c.requires in
    backing-first _ (record { what = p.0.what; stands = p.0.stands; room = omega (arith, p.0.room, e.start) }) p.5 refl c.push-end.ensures.0 (record { same = λ i r. refl }) (end-here _ _ _ _ e)

pub back-offset_bounds-stack-top : goal.back-offset_bounds-stack-top
back-offset_bounds-stack-top t c = let i = c.loop-top.invariant in let q = backing-next c.loop-top-test.true i in omega (arith, q.lower, edit-inside _ _ q.what.what q.what.stands, c.requires.3)

pub back-bounds-stack-top : goal.back-bounds-stack-top
back-bounds-stack-top t c = let i = c.loop-top.invariant in let q = backing-next c.loop-top-test.true i in omega (arith, q.lower, edit-inside _ _ q.what.what q.what.stands, c.requires.2, i.room, c.push-end.auto.stack)

pub back-one_back-pos-requires : goal.back-one_back-pos-requires
back-one_back-pos-requires t c = let i = c.loop-top.invariant in let q = backing-next c.loop-top-test.true i in let e = c.end_before-pos in let p = c.requires in (
  omega (arith, c.decreases, q.above, edit-inside _ _ q.what.what q.what.stands),
  (q.what, q.step, q.lower, omega (arith, p.2, i.room, c.push-end.auto.stack), p.3, p.4, q.held, omega (arith, p.6, i.below, i.wide, e.ensures.start, e.auto.out)),
)

pub back-loop-top-preserved : goal.back-loop-top-preserved
back-loop-top-preserved t c = let i = c.loop-top.invariant in let q = backing-next c.loop-top-test.true i in let k = c.one_back-pos.auto in
    q.more _ _ _ _ k.stack k.state k.out c.one_back-pos.ensures.0 c.one_back-pos.ensures.1

pub back-returns : goal.back-returns
back-returns t c = (backing-end c.loop-top-test.false c.loop-top.invariant c.end_before-pos.ensures, kept_more (omega arith) c.push-end.ensures.1 c.loop-top.invariant.kept)

pub one_back-bounds-text-at : goal.one_back-bounds-text-at
one_back-bounds-text-at t c = let p = c.requires in omega (arith, edit-inside _ _ p.0.what p.0.stands)

pub one_back-returns-then-text-at-ne53 : goal.one_back-returns-then-text-at-ne53
one_back-returns-then-text-at-ne53 t c = (λ Z h. (c.step_back.ensures Z h _, c.keep_step-start.ensures Z h _), record { same = λ i r. refl })

pub one_back-past-first-requires : goal.one_back-past-first-requires
one_back-past-first-requires t c = let p = c.requires in let q = as-choose _ _ _ p.0.stands c.if-text-at-ne53.false in record { what = tree q.K; stands = q.what }

pub one_back-end_of-second-requires : goal.one_back-end_of-second-requires
one_back-end_of-second-requires t c = let p = c.requires in let q = as-choose _ _ _ p.0.stands c.if-text-at-ne53.false in record { what = q.P; stands = q.first _ (c.past-first.ensures (tree q.K) q.what) }

pub one_back-back-q-requires : goal.one_back-back-q-requires
one_back-back-q-requires t c = let p = c.requires in let q = parted c.if-text-at-ne53.false c.past-first.ensures c.end_of-second.ensures _ p.0.stands in (
  omega (arith, c.decreases, q),
  (record { what = _; stands = q.second_at; room = omega (arith, p.0.room, q) }, omega (arith, p.2, q), p.3, p.4, p.5, p.6, p.7),
)

pub one_back-back-p-requires : goal.one_back-back-p-requires
one_back-back-p-requires t c = let p = c.requires in let q = parted c.if-text-at-ne53.false c.past-first.ensures c.end_of-second.ensures _ p.0.stands in
    let w = c.back-q.ensures.0 q.parts.Q q.second_at in let k = c.back-q.auto in (
      omega (arith, c.decreases, q),
      (
        record { what = _; stands = q.first_at; room = omega (arith, p.0.room, q, w.room) },
        omega (arith, p.2, q),
        omega (arith, p.3, k.stack),
        p.4,
        p.5,
        rw c.copy_from_slice.ensures.after p.6,
        omega (arith, p.7, w.low, k.out),
      ),
    )

pub one_back-choose_ways-requires : goal.one_back-choose_ways-requires
one_back-choose_ways-requires t c = let p = c.requires in let q = parted c.if-text-at-ne53.false c.past-first.ensures c.end_of-second.ensures _ p.0.stands in
    (record { what = tree q.parts.K; stands = q.parts.what }, p.4, p.5, c.back-p.auto.state ∙ c.copy_from_slice.ensures.len, c.back-q.auto.state ∙ p.6.long)

pub one_back-put_before-requires : goal.one_back-put_before-requires
one_back-put_before-requires t c = let p = c.requires in let q = parted c.if-text-at-ne53.false c.past-first.ensures c.end_of-second.ensures _ p.0.stands in
    let w = c.back-q.ensures.0 q.parts.Q q.second_at in let v = c.back-p.ensures.0 q.parts.P q.first_at in
    (omega (arith, q), omega (arith, q), omega (arith, p.0.room, q, w.room, v.room), omega (arith, p.7, w.low, v.low, c.back-q.auto.out, c.back-p.auto.out))

pub one_back-returns : goal.one_back-returns
one_back-returns t c = let m = c.if-text-at-ne53.false in let a = c.past-first.ensures in let e = c.end_of-second.ensures in let k = c.copy_from_slice.ensures.after in (
  λ Z h. (
    choice-measured m a e _ k c.back-q.ensures.0 c.back-p.ensures.0 c.choose_ways.ensures Z h,
    choice-prefixed m a e _ k c.back-q.ensures.0 c.back-p.ensures.0 c.put_before.ensures Z h,
  ),
  kept_more (omega arith) c.back-q.ensures.1 c.back-p.ensures.1,
)
