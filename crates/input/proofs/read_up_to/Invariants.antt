use Rattle.std.proofs.Common.{◌≤◌, length}
use Rattle.input.proofs.read_up_to.Given as goal

-- no more came than there is room for
abbrev pub invariant-loop : goal.invariant-loop
invariant-loop g l = l.got ≤ length l.buf
