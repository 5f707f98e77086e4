use Rattle.sheet.proofs.MaskLaws.{Barely}
use Rattle.sheet.proofs.block.bare.Given as goal

abbrev pub invariant-loop-left : goal.invariant-loop-left
invariant-loop-left l = Barely l.block l.set l.left l.r

abbrev pub decreases-loop-left : goal.decreases-loop-left
decreases-loop-left l = l.left
