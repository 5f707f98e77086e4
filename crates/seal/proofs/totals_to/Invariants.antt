use mathlib.Core.Path.{◌≡◌}
use Prim.Native.Nat.{◌≤◌}
use lib.ListN.{take}
use Rattle.seal.specs.Lanes.{total, weighed}
use Rattle.seal.proofs.totals_to.Given as goal

-- the totals of the first i bytes
abbrev pub invariant-loop-i : goal.invariant-loop-i
invariant-loop-i l = (l.end ≤ l.i) × (l.all.s ≡ total (take l.i l.block)) × (l.all.t ≡ weighed (take l.i l.block))
