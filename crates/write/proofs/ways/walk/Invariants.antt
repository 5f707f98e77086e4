use mathlib.Core.Path.{◌≡◌}
use Prim.Native.Nat.{◌-◌}
use lib.ListN.{length}
use Rattle.write.specs.Work.{stack_of, behind_of}
use Rattle.write.specs.Links.{Relinked}
use Rattle.write.proofs.Walking.{Walking}
use Rattle.write.proofs.ways.walk.Given as goal

abbrev pub invariant-loop-work : goal.invariant-loop-work
invariant-loop-work l = Walking l.edit (stack_of l.initial.work) (behind_of l.initial.work) l.initial.here.at l.initial.here.h l.initial.here.d (stack_of l.work) l.here.at l.here.h l.here.d × Relinked l.edit l.initial.work l.work l.initial.here.h l.here.h × (length l.work ≡ length l.initial.work)

abbrev pub decreases-loop-work : goal.decreases-loop-work
decreases-loop-work l = length l.edit - l.here.at
