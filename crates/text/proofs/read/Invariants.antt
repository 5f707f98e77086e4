-- The loop's invariant: what is still to be read gives what was wanted. A turn takes a byte, or goes up a level.
use mathlib.Core.Path.{◌≡◌}
use Prim.Native.Nat.{◌<◌, ◌≤◌, ◌+◌, ◌*◌, ◌-◌}
use lib.ListN.{length}
use Rattle.text.specs.Patterns.{pattern_format, limits_of, turn_at}
use Rattle.text.proofs.Remaining.{Patterns, remaining}
use Rattle.text.proofs.read.Given as goal

-- The loop's invariant: what is still to be read gives what was wanted. A turn takes a byte, or goes up a level.
abbrev pub invariant-loop-limits : goal.invariant-loop-limits
invariant-loop-limits l = (remaining l.text (limits_of l.limits) l.patterns l.pattern l.level l.p ≡ turn_at l.text (limits_of l.limits) (pattern_format l.wanted 1) l.at) × (l.pattern < 65536) × (l.level ≤ l.limits.deepest) × (l.limits.deepest < 256) × Patterns l.patterns

abbrev pub decreases-loop-limits : goal.decreases-loop-limits
decreases-loop-limits l = 2 * (length l.text - l.p) + l.level
