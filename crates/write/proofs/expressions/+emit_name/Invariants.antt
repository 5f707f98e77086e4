-- The loop's invariant: whatever expression stands at the place, this many of its trees are still to come, and their texts are still to be written.
use Rattle.std.proofs.Common.{length, ◌+◌, ◌-◌, ◌*◌}
use Rattle.write.specs.Work.{stack_of}
use Rattle.write.proofs.Emitting.{Showing}
use Rattle.write.proofs.expressions.+emit_name.Given as goal

-- the room left
abbrev pub decreases-emit : goal.decreases-emit
decreases-emit l = 2 * (length l.out.now - l.place.pos) + 1

abbrev pub decreases-name : goal.decreases-name
decreases-name l = 2 * (length l.out.now - l.pos)

abbrev pub invariant-emit-loop-wanted : goal.invariant-emit-loop-wanted
invariant-emit-loop-wanted l = Showing l.text l.initial.p l.edit (stack_of l.work) l.h l.p l.wanted l.initial.out l.initial.q l.q l.out

abbrev pub decreases-emit-loop-wanted : goal.decreases-emit-loop-wanted
decreases-emit-loop-wanted l = length l.text - l.p
