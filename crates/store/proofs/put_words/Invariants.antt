use mathlib.Core.Path.{◌≡◌}
use Rattle.sheet.specs.Writes.{put_rows_def}
use Rattle.store.proofs.put_words.Given as goal

abbrev pub invariant-loop-i : goal.invariant-loop-i
invariant-loop-i l = l.block ≡ put_rows_def l.i l.rows l.initial.block
