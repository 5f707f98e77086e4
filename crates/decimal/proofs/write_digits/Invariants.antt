use mathlib.Core.Path.{◌≡◌}
use mathlib.Core.List.{◌++◌}
use lib.ListN.{length, drop}
use Rattle.decimal.specs.Digits.{digits}
use Rattle.decimal.proofs.write_digits.Given as goal

-- the digits of the rest are still to come before those written
abbrev pub invariant-loop-i : goal.invariant-loop-i
invariant-loop-i l = digits l.i l.rest ++ drop l.i l.out ≡ digits (length l.initial.out) l.n
