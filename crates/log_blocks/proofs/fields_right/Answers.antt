use Rattle.std.proofs.Common.{sym, ◌∙◌, ◌≤◌, arith}
use Rattle.log_blocks.proofs.FieldLaws.{count-says}
use Rattle.log_blocks.proofs.fields_right.Goals as goal

pub zeros_from-requires : goal.zeros_from-requires
zeros_from-requires c =
    let small : c.count-c.result ≤ 504 =
    elim c.if-mark_right.branch [
      | goal.then-mark_right w ↦ (count-says _ _ (sym w.count_right.ensures ∙ sym w.value-is ∙ c.if-count_right.true)).1
      | goal.else-mark_right w ↦ grind arith
    ] in
    (c.requires, omega arith)
