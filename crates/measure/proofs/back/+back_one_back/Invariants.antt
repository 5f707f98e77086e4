use Rattle.std.proofs.Common.{◌+◌, ◌-◌, ◌*◌, length}
use Rattle.measure.proofs.EditWalks.{Backing}
use Rattle.measure.proofs.back.+back_one_back.Given as goal

abbrev pub decreases-back : goal.decreases-back
decreases-back l = 2 * (length l.text.now - l.spot.at) + 1

abbrev pub decreases-one_back : goal.decreases-one_back
decreases-one_back l = 2 * (length l.text.now - l.spot.at)

abbrev pub invariant-back-loop-top : goal.invariant-back-loop-top
invariant-back-loop-top l = Backing l.text l.fn.spot.at l.rules l.fn.spot.top l.initial.stack l.stack l.initial.state l.state l.initial.out l.out l.initial.pos l.top l.pos
