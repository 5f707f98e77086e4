use mathlib.Core.Path.{ap, ◌∙◌}
use Prim.Native.Nat.{◌*◌}
use mathlib.Core.List.{[], ◌∷◌}
use native.Mathlib.Omega.{arith}
use lib.ListN.{length}
use Rattle.answer.proofs.OutputLaws.{not_written, is-written}
use Rattle.log_blocks.specs.Making.{log_of}
use Rattle.log_edit.specs.LogEdit.{ask_log_edit}
use Rattle.log_edit.proofs.EditBlocks.{log-length}
use Rattle.log_edit.proofs.EditAnswers.{no_byte, too_long, no_room, enough}
use Rattle.log_edit.proofs.log_edit.Goals as goal

pub returns-then-n-lt1 : goal.returns-then-n-lt1
returns-then-n-lt1 c =
    let s = c.args in
    let all = not_written (ask_log_edit s.edit.now (length s.output.now)) s.output.now 22 0 (no_byte s.edit.now _ c.if-n-lt1.true) in
    record { result_value = all.0; output_after = all.1 }

pub returns-then-n-gt-LONGEST : goal.returns-then-n-gt-LONGEST
returns-then-n-gt-LONGEST c =
    let s = c.args in
    let all = not_written (ask_log_edit s.edit.now (length s.output.now)) s.output.now 21 0 (too_long s.edit.now _ c.if-n-lt1.false c.if-n-gt-LONGEST.true) in
    record { result_value = all.0; output_after = all.1 }

pub returns-then-output-size : goal.returns-then-output-size
returns-then-output-size c =
    let s = c.args in
    let all = not_written (ask_log_edit s.edit.now (length s.output.now)) s.output.now 33 _ (no_room s.edit.now _ c.if-n-lt1.false c.if-n-gt-LONGEST.false (ap (512 *◌) c.div_ceil-size.ensures) c.if-output-size.true) in
    record { result_value = all.0; output_after = all.1 }

pub put_blocks-requires : goal.put_blocks-requires
put_blocks-requires c = (c.if-n-lt1.false, c.if-n-gt-LONGEST.false, omega (arith, log-length c.args.edit.now c.if-n-lt1.false, c.if-output-size.false, c.div_ceil-size.ensures))

pub returns : goal.returns
returns c =
    let s = c.args in
    let some = c.if-n-lt1.false in
    let all =
    is-written (ask_log_edit s.edit.now (length s.output.now)) s.output.now (log_of (s.edit.now ∷ [])) _
    (enough s.edit.now _ some c.if-n-gt-LONGEST.false (ap (512 *◌) c.div_ceil-size.ensures) c.if-output-size.false) (omega (arith, log-length s.edit.now some, c.div_ceil-size.ensures)) in
    record { result_value = all.0; output_after = c.put_blocks.ensures ∙ all.1 }
