use mathlib.Core.Path.{ap, ◌∙◌}
use Prim.Native.Nat.{ℕ, ◌+◌}
use native.Mathlib.Omega.{arith}
use lib.ListN.{length}
use Rattle.text.specs.Code.{edit_code}
use Rattle.apply.proofs.Cases.{starts-inside, as-choose}
use Rattle.apply.proofs.StepsMade.{opened, first_made, second-made, making-more, making-end}
use Rattle.apply.proofs.+choose_step_make_steps_one_step.Goals as goal

pub choose_step-eval_rule-rule-requires : goal.choose_step-eval_rule-rule-requires
choose_step-eval_rule-rule-requires t c =
    let q = as-choose _ _ _ c.requires.1.what c.requires.1.stands c.requires.2 in
    (opened _ _ _ c.requires.0, record { what = q.K; stands = q.what })

pub choose_step-make_steps-second-requires : goal.choose_step-make_steps-second-requires
choose_step-make_steps-second-requires t c =
    let q = as-choose _ _ _ c.requires.1.what c.requires.1.stands c.requires.2 in
    let a = (c.eval_rule-rule.ensures q.K q.what).ends in
    (omega (arith, c.decreases, a, starts-inside _ _ _ c.requires.1.what c.requires.1.stands), (c.requires.0, record { what = q.P; stands = q.first _ a }))

pub choose_step-end_of-requires : goal.choose_step-end_of-requires
choose_step-end_of-requires t c =
    let q = as-choose _ _ _ c.requires.1.what c.requires.1.stands c.requires.2 in
    let a = (c.eval_rule-rule.ensures q.K q.what).ends in
    let m = c.make_steps-second.ensures.1 q.P (q.first _ a) in
    record { what = q.Q; stands = record { limits = _; place = q.second _ (m.ends ∙ ap (λ (x : ℕ). x + length (edit_code q.P)) a) } }

pub choose_step-end_of-second-requires : goal.choose_step-end_of-second-requires
choose_step-end_of-second-requires t c =
    let q = as-choose _ _ _ c.requires.1.what c.requires.1.stands c.requires.2 in
    record { what = q.P; stands = record { limits = _; place = q.first _ (c.eval_rule-rule.ensures q.K q.what).ends } }

pub choose_step-make_steps-requires : goal.choose_step-make_steps-requires
choose_step-make_steps-requires t c =
    let q = as-choose _ _ _ c.requires.1.what c.requires.1.stands c.requires.2 in
    let a = (c.eval_rule-rule.ensures q.K q.what).ends in
    let b = c.end_of-second.ensures q.P (record { limits = _; place = q.first _ a }) ∙ ap (λ (x : ℕ). x + length (edit_code q.P)) a in
    (omega (arith, c.decreases, b, starts-inside _ _ _ c.requires.1.what c.requires.1.stands), (c.requires.0, record { what = q.Q; stands = q.second _ b }))

pub choose_step-returns-then-rule : goal.choose_step-returns-then-rule
choose_step-returns-then-rule t c = (
  c.make_steps-second.ensures.0,
  λ Z h.
      let q = as-choose _ _ _ Z h c.requires.2 in
      let k = c.eval_rule-rule.ensures q.K q.what in
      let m = c.make_steps-second.ensures.1 q.P (q.first _ k.ends) in
      let e = c.end_of.ensures q.Q (record { limits = _; place = q.second _ (m.ends ∙ ap (λ (x : ℕ). x + length (edit_code q.P)) k.ends) }) in
      first_made _ _ _ c.requires.0 _ _ Z q _ _ _ _ _ k c.if-rule.true m e,
)

pub choose_step-returns-else-rule : goal.choose_step-returns-else-rule
choose_step-returns-else-rule t c = (
  c.make_steps.ensures.0,
  λ Z h.
      let q = as-choose _ _ _ Z h c.requires.2 in
      let k = c.eval_rule-rule.ensures q.K q.what in
      let e = c.end_of-second.ensures q.P (record { limits = _; place = q.first _ k.ends }) in
      let m = c.make_steps.ensures.1 q.Q (q.second _ (e ∙ ap (λ (x : ℕ). x + length (edit_code q.P)) k.ends)) in
      second-made _ _ _ c.requires.0 _ _ Z q _ _ _ _ _ k c.if-rule.false e m,
)

pub make_steps-bounds-edit-p : goal.make_steps-bounds-edit-p
make_steps-bounds-edit-p t c = let r = c.loop-p.invariant.some in omega (arith, starts-inside _ _ _ r.what r.stands)

pub make_steps-loop-p-preserved : goal.make_steps-loop-p-preserved
make_steps-loop-p-preserved t c = making-more _ _ _ _ _ _ _ c.loop-p.invariant _ _ c.one_step-p.ensures.0 c.one_step-p.ensures.1

pub make_steps-overflow_add-result : goal.make_steps-overflow_add-result
make_steps-overflow_add-result t c = let r = c.loop-p.invariant.some in omega (arith, starts-inside _ _ _ r.what r.stands)

pub make_steps-returns : goal.make_steps-returns
make_steps-returns t c = (c.loop-p.invariant.ready, making-end _ _ _ _ _ _ _ c.loop-p.invariant c.loop-p-test.false)
