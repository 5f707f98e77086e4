use Prim.Native.Nat.{◌*◌}
use Rattle.check_steps.proofs.Leading.{Leading}
use Rattle.check_steps.proofs.make_steps.Given as goal

abbrev pub invariant-loop-i : goal.invariant-loop-i
invariant-loop-i l = Leading l.initial.work l.length l.steps l.work l.len (3 * l.i) l.i
