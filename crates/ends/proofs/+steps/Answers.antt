use lib.ListN.{length}
use mathlib.Core.Path.{◌∙◌, ap}
use Prim.Native.Nat.{ℕ, ◌+◌}
use native.Mathlib.Omega.{arith}
use Rattle.text.specs.Code.{edit_code}
use Rattle.tree.specs.Tree.{tree}
use Rattle.ends.proofs.FirstSteps.{edit_tree, as_step, as-choose, edit-inside}
use Rattle.ends.proofs.Ends.{rest_more, rest_end, behind-step, behind-choose}
use Rattle.ends.proofs.+steps.Goals as goal

pub end_of-bounds-text-p : goal.end_of-bounds-text-p
end_of-bounds-text-p t c = let r = c.loop-p.invariant.some in omega (arith, edit-inside _ _ r.what r.stands)

pub end_of-loop-p-smaller : goal.end_of-loop-p-smaller
end_of-loop-p-smaller t c =
    let r = c.loop-p.invariant in omega (arith, edit-inside _ _ r.some.what r.some.stands, (c.next_step-p.ensures r.some.what r.some.stands).on)

pub end_of-loop-p-preserved : goal.end_of-loop-p-preserved
end_of-loop-p-preserved t c = rest_more _ _ _ _ c.loop-p.invariant c.next_step-p.ensures

pub end_of-returns : goal.end_of-returns
end_of-returns t c = rest_end _ _ _ c.loop-p.invariant c.loop-p-test.false

pub next_step-bounds-text-at : goal.next_step-bounds-text-at
next_step-bounds-text-at t c = let q = c.requires.0 in omega (arith, edit-inside _ _ q.what q.stands)

pub next_step-overflow_add-at : goal.next_step-overflow_add-at
next_step-overflow_add-at t c =
    let s = c.requires in
    let q = as_step _ _ s.0.what s.0.stands s.1 c.if-c-ne53.true in omega (arith, q.room, c.well_formed)

pub next_step-past-requires : goal.next_step-past-requires
next_step-past-requires t c =
    let s = c.requires in
    let q = as_step _ _ s.0.what s.0.stands s.1 c.if-c-ne53.true in record { what = edit_tree s.0.what; stands = q.what }

pub next_step-returns-then-c-ne53 : goal.next_step-returns-then-c-ne53
next_step-returns-then-c-ne53 t c = behind-step _ _ c.requires.1 c.if-c-ne53.true _ c.past.ensures

pub next_step-past-p-requires : goal.next_step-past-p-requires
next_step-past-p-requires t c =
    let s = c.requires in
    let q = as-choose _ _ s.0.what s.0.stands c.if-c-ne53.false in record { what = tree q.K; stands = q.what }

pub next_step-end_of-q-requires : goal.next_step-end_of-q-requires
next_step-end_of-q-requires t c =
    let s = c.requires in
    let q = as-choose _ _ s.0.what s.0.stands c.if-c-ne53.false in
    let a = c.past-p.ensures (tree q.K) q.what in
    (omega (arith, c.decreases, a, edit-inside _ _ q.P (q.first _ a), edit-inside _ _ s.0.what s.0.stands), record { what = q.P; stands = q.first _ a })

pub next_step-end_of-requires : goal.next_step-end_of-requires
next_step-end_of-requires t c =
    let s = c.requires in
    let q = as-choose _ _ s.0.what s.0.stands c.if-c-ne53.false in
    let a = c.past-p.ensures (tree q.K) q.what in
    let b = c.end_of-q.ensures q.P (q.first _ a) ∙ ap (λ (x : ℕ). x + length (edit_code q.P)) a in
    (omega (arith, c.decreases, b, edit-inside _ _ q.Q (q.second _ b), edit-inside _ _ s.0.what s.0.stands), record { what = q.Q; stands = q.second _ b })

pub next_step-returns : goal.next_step-returns
next_step-returns t c = behind-choose _ _ c.if-c-ne53.false _ _ _ c.past-p.ensures c.end_of-q.ensures c.end_of.ensures
