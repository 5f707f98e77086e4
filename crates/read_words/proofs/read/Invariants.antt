use Prim.Native.Nat.{◌+◌, ◌-◌, ◌*◌}
use lib.ListN.{length}
use Rattle.read_words.proofs.ReadTurns.{Reading}
use Rattle.read_words.proofs.read.Given as goal

-- The loop's invariant: what is still to be read gives, after the codes so far, what was wanted. A turn takes a token, begins a rule, or goes up a level.
abbrev pub invariant-loop-row : goal.invariant-loop-row
invariant-loop-row l = Reading l.table l.words l.initial.codes l.start l.rules l.rows l.level l.row l.left l.at l.size l.codes

abbrev pub decreases-loop-row : goal.decreases-loop-row
decreases-loop-row l = 2 * (length l.words - l.at) + l.level + l.left
