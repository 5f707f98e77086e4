use mathlib.Core.Path.{◌≡◌}
use Prim.Native.Nat.{◌-◌}
use lib.ListN.{length}
use Rattle.write.specs.Rules.{Started}
use Rattle.write.proofs.Rules.{Writing}
use Rattle.write.proofs.write_book.Given as goal

abbrev pub invariant-loop-place : goal.invariant-loop-place
invariant-loop-place l = Writing l.book l.edit l.from l.initial.out l.place.at l.place.pos l.out × (length l.work ≡ length l.initial.work) × Started l.edit l.from l.work l.rest.at l.rest.h l.rest.d

abbrev pub decreases-loop-place : goal.decreases-loop-place
decreases-loop-place l = length l.book - l.place.at
