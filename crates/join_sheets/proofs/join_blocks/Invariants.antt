use Rattle.join_sheets.proofs.BlocksJoined.{Inv}
use Rattle.join_sheets.proofs.join_blocks.Given as goal

abbrev pub invariant-loop-b : goal.invariant-loop-b
invariant-loop-b l = Inv l.n l.m l.initial.first l.second l.first l.b
