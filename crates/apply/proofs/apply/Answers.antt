use Rattle.apply.proofs.ApplyStages.{sheet-refused, sheet-sound, edit-refused, edit_stands, edit-made}
use Rattle.apply.proofs.apply.Goals as goal

pub returns-in_default : goal.returns-in_default
returns-in_default c =
    let a = sheet-refused _ _ _ _ c.check-sheet_answer.ensures c.in_default.is in
    record { result_value = a.answer; sheet_after = a.sheet_is }

pub returns-in_default-edit_answer : goal.returns-in_default-edit_answer
returns-in_default-edit_answer c =
    let sound = sheet-sound _ _ c.check-sheet_answer.ensures c.in-Done.is in
    let a = edit-refused _ _ sound _ c.node_count.ensures.0 _ _ c.check_edit-edit_answer.ensures c.in_default-edit_answer.is in
    record { result_value = a.answer; sheet_after = a.sheet_is }

pub run_edit-requires : goal.run_edit-requires
run_edit-requires c =
    let sound = sheet-sound _ _ c.check-sheet_answer.ensures c.in-Done.is in
    (sound, edit_stands _ _ sound _ c.node_count.ensures.0 _ c.check_edit-edit_answer.ensures (cc))

pub returns : goal.returns
returns c =
    let sound = sheet-sound _ _ c.check-sheet_answer.ensures c.in-Done.is in
    let a = edit-made _ _ sound _ c.node_count.ensures.0 _ c.check_edit-edit_answer.ensures (cc) _ _ c.run_edit.ensures.1 in
    record { result_value = a.answer; sheet_after = a.sheet_is }
