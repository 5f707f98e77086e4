use mathlib.Core.Path.{◌≡◌, ◌∙◌}
use native.Mathlib.Omega.{arith}
use mathlib.Core.Bool.{true, false}
use lib.ListN.{length}
use Rattle.log_blocks.proofs.PassedLaws.{passes}
use Rattle.log_blocks.proofs.RoundLaws.{taken-says, round-end-told, edit-stays, edit-then, round-bad-told, round-more-told, round-last-told}
use Rattle.log_blocks.proofs.round.Goals as goal

pub returns-then-is_empty : goal.returns-then-is_empty
returns-then-is_empty c =
    let s = c.args in
    let none : length s.block.now ≡ 0 = grind arith in
    record {
      sheet_after =
          c.stop.ensures.value s.held s.edit.now s.sheet.now
          ∙ round-end-told s.edit.now s.held.kept s.held.number s.sheet.now s.book.now s.block.now none (omega (arith, c.requires.0, c.requires.1)) _ c.take_end.ensures;
      kept_le_kept_bytes = rw c.stop.ensures.stops tt;
      edit_after = edit-stays s.edit.now s.held.kept s.held.number s.block.now none;
    }

pub overflow_add-result : goal.overflow_add-result
overflow_add-result c =
    let s = c.args in
    let e = taken-says _ s.held.number s.block.now false _ (rw c.in-Ok-GoesOn.field-0-is at c.in-Ok-GoesOn.ensures.result_value.0) in
    omega (arith, (passes _ s.held.number s.block.now e.0).low)

pub overflow_add-result-in-Ok-Finished : goal.overflow_add-result-in-Ok-Finished
overflow_add-result-in-Ok-Finished c =
    let s = c.args in
    let e = taken-says _ s.held.number s.block.now true _ (rw c.in-Ok-Finished.field-0-is at c.in-Ok-Finished.ensures.result_value.0) in
    omega (arith, (passes _ s.held.number s.block.now e.0).low)

pub returns-in-Err : goal.returns-in-Err
returns-in-Err c =
    let s = c.args in
    let some : length s.block.now ≡ 0 → ⊥ = λ e. grind arith in
    let t = c.in-Err.ensures in
    record {
      sheet_after = c.stop-in-Err.ensures.value s.held _ s.sheet.now ∙ round-bad-told s.edit.now s.held.kept s.held.number s.sheet.now s.book.now s.block.now some _ t.edit_after _ _ t.result_value.0;
      kept_le_kept_bytes = rw c.stop-in-Err.ensures.stops tt;
      edit_after = edit-then s.edit.now s.held.kept s.held.number s.block.now some _ t.edit_after;
    }

pub returns-in-Ok-GoesOn : goal.returns-in-Ok-GoesOn
returns-in-Ok-GoesOn c =
    let s = c.args in
    let some : length s.block.now ≡ 0 → ⊥ = λ e. grind arith in
    let t = c.in-Ok-GoesOn.ensures in
    let said = rw c.in-Ok-GoesOn.field-0-is at t.result_value in
    record {
      sheet_after = round-more-told s.edit.now s.held.kept s.held.number s.sheet.now s.book.now s.block.now some _ t.edit_after _ said.0;
      kept_le_kept_bytes = said.1;
      edit_after = edit-then s.edit.now s.held.kept s.held.number s.block.now some _ t.edit_after;
    }

pub returns-in-Ok-Finished : goal.returns-in-Ok-Finished
returns-in-Ok-Finished c =
    let s = c.args in
    let some : length s.block.now ≡ 0 → ⊥ = λ e. grind arith in
    let t = c.in-Ok-Finished.ensures in
    let said = rw c.in-Ok-Finished.field-0-is at t.result_value in
    let l = c.enter_line.ensures in
    record {
      sheet_after = round-last-told s.edit.now s.held.kept s.held.number s.sheet.now s.book.now s.block.now some _ t.edit_after _ said.0 _ _ l.value l.sheet_after;
      kept_le_kept_bytes = omega arith;
      edit_after = edit-then s.edit.now s.held.kept s.held.number s.block.now some _ t.edit_after;
    }
