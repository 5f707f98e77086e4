use Rattle.std.proofs.Common.{rules, ◌∙◌, length, arith}
use Rattle.answer.proofs.OutputLaws.{not_written, is-written}
use Rattle.join_edits.specs.Chain.{ask_join_edits}
use Rattle.join_edits.proofs.Joining.{edit-passed, passed-some, first_refused, second-refused, joined, size_is, too_long, short, enough, written-so}
use Rattle.join_edits.proofs.join_edits.Goals as goal

pub returns-in_err-passed : goal.returns-in_err-passed
returns-in_err-passed c =
    let a = c.args in
    let room = length a.output.now in
    let w = not_written (ask_join_edits a.p.now a.q.now room) a.output.now _ _ (first_refused a.p.now a.q.now room c.in_err-passed.field-0.0 (search rules)) in
    record { result_value = search rules; output_after = w.1 }

pub returns-in_err-passed-2 : goal.returns-in_err-passed-2
returns-in_err-passed-2 c =
    let a = c.args in
    let room = length a.output.now in
    let w = not_written (ask_join_edits a.p.now a.q.now room) a.output.now _ _ (second-refused a.p.now a.q.now room (edit-passed a.p.now (search rules)) c.in_err-passed-2.field-0.0 (search rules)) in
    record { result_value = search rules; output_after = w.1 }

pub overflow_sub-end : goal.overflow_sub-end
overflow_sub-end c = omega (arith, passed-some _ (edit-passed c.args.p.now (search rules)))

pub returns-then-size-gt-LONGEST : goal.returns-then-size-gt-LONGEST
returns-then-size-gt-LONGEST c =
    let a = c.args in
    let room = length a.output.now in
    let w = not_written (ask_join_edits a.p.now a.q.now room) a.output.now 21 0 (too_long (edit-passed a.p.now (search rules)) (edit-passed a.q.now (search rules)) room c.if-size-gt-LONGEST.true) in
    record { result_value = w.0; output_after = w.1 }

pub returns-then-output-size : goal.returns-then-output-size
returns-then-output-size c =
    let a = c.args in
    let room = length a.output.now in
    let w = not_written (ask_join_edits a.p.now a.q.now room) a.output.now 33 _ (short (edit-passed a.p.now (search rules)) (edit-passed a.q.now (search rules)) room (omega arith) c.if-output-size.true) in
    record { result_value = w.0; output_after = w.1 }

pub returns : goal.returns
returns c =
    let a = c.args in
    let p = edit-passed a.p.now (search rules) in
    let q = edit-passed a.q.now (search rules) in
    let w = is-written (ask_join_edits a.p.now a.q.now (length a.output.now)) a.output.now (joined p q) _ (enough p q _ c.if-size-gt-LONGEST.false c.if-output-size.false) (size_is p q) in
    record { result_value = w.0; output_after = written-so p q a.output.now c.copy_from_slice.ensures.after c.copy_from_slice-2.ensures.after ∙ w.1 }
