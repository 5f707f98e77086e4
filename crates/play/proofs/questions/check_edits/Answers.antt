use Rattle.std.proofs.Common.{sym, ap, ◌∙◌, arith}
use Rattle.answer.specs.Answers.{asked}
use Rattle.play.proofs.GameEdits.{texts-first, end-inside, text-stops, text-passes, texts-end}
use Rattle.play.proofs.questions.check_edits.Goals as goal

pub loop-i-init : goal.loop-i-init
loop-i-init c = texts-first _ c.requires

-- the text of the edit is a part
pub overflow_add-end : goal.overflow_add-end
overflow_add-end c = omega (arith, end-inside _ c.loop-i.invariant c.loop-i-test.true, c.well_formed.0.0)

pub slice_bounds-check_edit-end : goal.slice_bounds-check_edit-end
slice_bounds-check_edit-end c = omega (arith, end-inside _ c.loop-i.invariant c.loop-i-test.true)

-- it is refused, or passes
pub returns-in-Refused : goal.returns-in-Refused
returns-in-Refused c =
    let s = text-stops _ c.loop-i.invariant c.loop-i-test.true _ _ (sym (ap asked c.in-Refused.is) ∙ c.check_edit.ensures) in
    record { value = s.0; edit_value = s.1 }

pub loop-i-preserved : goal.loop-i-preserved
loop-i-preserved c = text-passes _ c.loop-i.invariant c.loop-i-test.true (sym (ap asked c.in_default.is) ∙ c.check_edit.ensures)

pub returns : goal.returns
returns c = record { value = texts-end _ c.loop-i.invariant c.loop-i-test.false; edit_value = tt }
