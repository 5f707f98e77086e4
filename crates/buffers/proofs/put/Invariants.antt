-- The loop's invariant: the first i bytes are written.
use mathlib.Core.Path.{◌≡◌}
use lib.ListN.{take}
use Rattle.buffers.specs.Filled.{filled_from}
use Rattle.buffers.proofs.put.Given as goal

abbrev pub invariant-loop-i : goal.invariant-loop-i
invariant-loop-i l = l.output ≡ filled_from l.at (take l.i l.bytes) l.initial.output
