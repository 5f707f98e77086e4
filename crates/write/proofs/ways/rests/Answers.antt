use Rattle.std.proofs.Common.{arith}
use Rattle.std.proofs.lemmas.Grind.{common_steps}
use Rattle.write.specs.Ways.{resting}
use Rattle.write.proofs.ways.rests.Goals as goal

pub returns-then-c-eq53 : goal.returns-then-c-eq53
unfolding resting
returns-then-c-eq53 c = grind (arith, common_steps)

pub returns-then-c-eq48 : goal.returns-then-c-eq48
unfolding resting
returns-then-c-eq48 c = grind (arith, common_steps)

pub returns-else-c-eq48 : goal.returns-else-c-eq48
unfolding resting
returns-else-c-eq48 c = grind (arith, common_steps)
