-- The loop's invariant: none of the first x slots holds the word.
use mathlib.Core.Path.{◌≡◌}
use Prim.Native.Nat.{◌+◌}
use Rattle.names.specs.Token.{same, first_below, absent}
use Rattle.buffers.specs.Slots.{slot_at}
use Rattle.buffers.proofs.find.Given as goal

abbrev pub invariant-loop-x : goal.invariant-loop-x
invariant-loop-x l = first_below (λ y. same l.word (slot_at l.width l.table (l.base + y))) l.x ≡ absent
