use Rattle.sheet.specs.Masks.{Outside}
use Rattle.sheet.proofs.block.outside.Given as goal

abbrev pub invariant-loop-j : goal.invariant-loop-j
invariant-loop-j l = Outside l.block l.from l.j l.mask l.r
