use native.Mathlib.Omega.{arith}
use Rattle.apply.proofs.Cases.{as-label}
use Rattle.apply.proofs.StepsMade.{each-made, opened, label-made}
use Rattle.apply.proofs.label_step.Goals as goal

pub bounds-edit-at : goal.bounds-edit-at
bounds-edit-at c = omega (arith, (as-label _ _ _ c.requires.1.what c.requires.1.stands c.requires.2 c.requires.3).room)

pub bounds-edit-at-2 : goal.bounds-edit-at-2
bounds-edit-at-2 c = omega (arith, (as-label _ _ _ c.requires.1.what c.requires.1.stands c.requires.2 c.requires.3).room)

pub eval_node-e-requires : goal.eval_node-e-requires
eval_node-e-requires c = let s = c in (opened _ _ _ s.requires.0, record { what = (as-label _ _ _ s.requires.1.what s.requires.1.stands s.requires.2 s.requires.3).what; stands = (as-label _ _ _ s.requires.1.what s.requires.1.stands s.requires.2 s.requires.3).first })

pub label_word-x-requires : goal.label_word-x-requires
label_word-x-requires c = let s = c in ((opened _ _ _ s.requires.0).sound, omega (arith, (as-label _ _ _ s.requires.1.what s.requires.1.stands s.requires.2 s.requires.3).range, (as-label _ _ _ s.requires.1.what s.requires.1.stands s.requires.2 s.requires.3).reads))

pub put_label-requires : goal.put_label-requires
put_label-requires c = let s = c in ((opened _ _ _ s.requires.0).sound, omega (arith, (as-label _ _ _ s.requires.1.what s.requires.1.stands s.requires.2 s.requires.3).range, (as-label _ _ _ s.requires.1.what s.requires.1.stands s.requires.2 s.requires.3).reads))

pub returns : goal.returns
returns c = let s = c in
    each-made _ _ _ _ _ _ _ s.requires.1 (λ Z h. label-made _ _ _ s.requires.0 _ _ Z (as-label _ _ _ Z h s.requires.2 s.requires.3) _ _ _ _ _
    c.label_word-x.ensures c.eval_node-e.ensures c.changed_label.ensures c.put_label.ensures)
