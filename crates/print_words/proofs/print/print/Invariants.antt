use lib.ListN.{length}
use Rattle.print_words.proofs.Turns.{to_do, Turn}
use Rattle.print_words.proofs.print.print.Given as goal

-- The loop's invariant is what printing keeps, with the rows that are known. A turn leaves fewer tokens ahead, or goes up a level.
abbrev pub invariant-loop-row : goal.invariant-loop-row
invariant-loop-row l = Turn l.table l.codes l.start l.rules l.initial.output l.at l.rows l.row l.level l.left l.state l.output

abbrev pub decreases-loop-row : goal.decreases-loop-row
decreases-loop-row l = to_do (length l.codes) l.at l.rows l.row l.level l.left
