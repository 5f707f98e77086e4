use mathlib.Core.Path.{◌≡◌}
use Prim.Native.Nat.{◌≤◌}
use lib.ListN.{length, drop}
use Rattle.names.specs.Scan.{scan, comment}
use Rattle.names.proofs.line_end.Given as goal

abbrev pub invariant-loop-p : goal.invariant-loop-p
invariant-loop-p l = (l.at ≤ l.p) × (l.p ≤ length l.text) × (scan (drop l.at l.text) comment l.at ≡ scan (drop l.p l.text) comment l.p)
