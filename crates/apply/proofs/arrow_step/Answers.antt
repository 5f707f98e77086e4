use mathlib.Core.Path.{refl}
use native.Mathlib.Omega.{arith}
use borrow.Author.Rules.{rules}
use Rattle.apply.proofs.Cases.{as-arrow}
use Rattle.apply.proofs.StepsMade.{each-made, opened, arrow-made}
use Rattle.apply.proofs.arrow_step.Goals as goal

pub bounds-edit-at : goal.bounds-edit-at
bounds-edit-at c = omega (arith, (as-arrow _ _ _ c.requires.1.what c.requires.1.stands c.requires.2 c.requires.3).room)

pub bounds-edit-at-2 : goal.bounds-edit-at-2
bounds-edit-at-2 c = omega (arith, (as-arrow _ _ _ c.requires.1.what c.requires.1.stands c.requires.2 c.requires.3).room)

pub eval_arrow-next-requires : goal.eval_arrow-next-requires
eval_arrow-next-requires c = let s = c in (opened _ _ _ s.requires.0, record { what = (as-arrow _ _ _ s.requires.1.what s.requires.1.stands s.requires.2 s.requires.3).what; stands = (as-arrow _ _ _ s.requires.1.what s.requires.1.stands s.requires.2 s.requires.3).first }, refl)

pub arrow_rows-requires : goal.arrow_rows-requires
arrow_rows-requires c = let s = c in let o = opened _ _ _ s.requires.0 in (o.sound, o.count, o.few, omega (arith, (as-arrow _ _ _ s.requires.1.what s.requires.1.stands s.requires.2 s.requires.3).range, (as-arrow _ _ _ s.requires.1.what s.requires.1.stands s.requires.2 s.requires.3).reads), search rules)

pub put_rows-requires : goal.put_rows-requires
put_rows-requires c = let s = c in ((opened _ _ _ s.requires.0).sound, omega (arith, (as-arrow _ _ _ s.requires.1.what s.requires.1.stands s.requires.2 s.requires.3).range, (as-arrow _ _ _ s.requires.1.what s.requires.1.stands s.requires.2 s.requires.3).reads))

pub returns : goal.returns
returns c = let s = c in
    each-made _ _ _ _ _ _ _ s.requires.1 (λ Z h. arrow-made _ _ _ s.requires.0 _ _ Z (as-arrow _ _ _ Z h s.requires.2 s.requires.3) _ _ _ _ _ _
    c.arrow_rows.ensures.0 c.eval_arrow-next.ensures.0
    c.arrow_code.ensures c.combine_rows.ensures.0 c.put_rows.ensures)
