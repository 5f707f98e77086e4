-- `enter_edit::enter` meets its contract: question by question, and then the carried rules, one by one, on the sheet as it is.
use Rattle.std.proofs.Common.{◌∙◌, sym, ap}
use Rattle.answer.specs.Answers.{asked}
use Rattle.judge.proofs.SheetAndBook.{done-learned, refused-asked, sheet-refused, book-refused, book-learned}
use Rattle.carry.proofs.Passing.{edit-passed}
use Rattle.enter_edit.proofs.EnterStages.{AllRead, both_read, book-stops, edit-stops, carried-stops, settles}
use Rattle.enter_edit.proofs.enter.Goals as goal

pub returns-in_default : goal.returns-in_default
returns-in_default c = let no = c.in_default.is in
    let (x, (y, z)) = book-stops _ _ _ _ (sheet-refused _ _ c.check-sound.ensures no) no in
    record { result_value = x; sheet_after = y; scratch_after = z }

pub node_count-n-requires : goal.node_count-n-requires
node_count-n-requires c = sym c.check-sound.ensures ∙ ap asked c.in-Done.is

pub returns-in_default-rules : goal.returns-in_default-rules
returns-in_default-rules c = let no = c.in_default-rules.is in
    let (x, (y, z)) = book-stops _ _ _ _ (book-refused _ _ (sym c.check-sound.ensures ∙ ap asked c.in-Done.is) c.node_count-n.ensures.0 c.check_book-rules.ensures no) no in
    record { result_value = x; sheet_after = y; scratch_after = z }

pub returns-in_default-steps : goal.returns-in_default-steps
returns-in_default-steps c = let no = c.in_default-steps.is in
    let count = c.node_count-n.ensures.0 in
    let (x, (y, z)) = edit-stops _ _ _ _ (book-learned _ _ (sym c.check-sound.ensures ∙ ap asked c.in-Done.is) c.node_count-n.ensures.0 c.check_book-rules.ensures c.in-Done-rules.is).is (refused-asked (rw count at c.check_edit-steps.ensures) no) no in
    record { result_value = x; sheet_after = y; scratch_after = z }

pub judge_carried-held-requires : goal.judge_carried-held-requires
judge_carried-held-requires c =
    let rules = book-learned _ _ (sym c.check-sound.ensures ∙ ap asked c.in-Done.is) c.node_count-n.ensures.0 c.check_book-rules.ensures c.in-Done-rules.is in
    let count = c.node_count-n.ensures.0 in
    let steps = done-learned (rw count at c.check_edit-steps.ensures) c.in-Done-steps.is in
    let k : AllRead c.args.sheet.now c.args.book.now c.args.edit.now = record { rules = rules.what; steps = steps.what; book-is = rules.is; steps-are = steps.is } in
    (sym c.check-sound.ensures ∙ ap asked c.in-Done.is, record { rules = k.rules; Z = k.steps; read = both_read k }, (edit-passed _ k.steps-are).1)

pub returns-in_default-held : goal.returns-in_default-held
returns-in_default-held c =
    let rules = book-learned _ _ (sym c.check-sound.ensures ∙ ap asked c.in-Done.is) c.node_count-n.ensures.0 c.check_book-rules.ensures c.in-Done-rules.is in
    let count = c.node_count-n.ensures.0 in
    let steps = done-learned (rw count at c.check_edit-steps.ensures) c.in-Done-steps.is in
    let k : AllRead c.args.sheet.now c.args.book.now c.args.edit.now = record { rules = rules.what; steps = steps.what; book-is = rules.is; steps-are = steps.is } in
    let (x, (y, z)) = carried-stops _ _ _ _ k (c.judge_carried-held.ensures _ _ (both_read k)) c.in_default-held.is in
    record { result_value = x; sheet_after = y; scratch_after = z }

pub run_edit-requires : goal.run_edit-requires
run_edit-requires c =
    let rules = book-learned _ _ (sym c.check-sound.ensures ∙ ap asked c.in-Done.is) c.node_count-n.ensures.0 c.check_book-rules.ensures c.in-Done-rules.is in
    let count = c.node_count-n.ensures.0 in
    let steps = done-learned (rw count at c.check_edit-steps.ensures) c.in-Done-steps.is in
    let k : AllRead c.args.sheet.now c.args.book.now c.args.edit.now = record { rules = rules.what; steps = steps.what; book-is = rules.is; steps-are = steps.is } in
    (sym c.check-sound.ensures ∙ ap asked c.in-Done.is, record { what = k.steps; stands = (both_read k).stands })

pub returns : goal.returns
returns c =
    let rules = book-learned _ _ (sym c.check-sound.ensures ∙ ap asked c.in-Done.is) c.node_count-n.ensures.0 c.check_book-rules.ensures c.in-Done-rules.is in
    let count = c.node_count-n.ensures.0 in
    let steps = done-learned (rw count at c.check_edit-steps.ensures) c.in-Done-steps.is in
    let k : AllRead c.args.sheet.now c.args.book.now c.args.edit.now = record { rules = rules.what; steps = steps.what; book-is = rules.is; steps-are = steps.is } in
    let (x, (y, z)) = settles _ _ _ _ k (c.judge_carried-held.ensures _ _ (both_read k)) c.in-Done-held.is (c.run_edit.ensures.1 k.steps (both_read k).stands).sheet_is in
    record { result_value = x; sheet_after = y; scratch_after = z }
