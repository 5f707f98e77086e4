use Prim.Native.Nat.{ℕ, ◌-◌}
use Rattle.logic.specs.Limits.{Ranges}
use Rattle.eval.specs.Evaluated.{Upto}
use Rattle.eval.proofs.past_rules.Given as goal

abbrev pub invariant-loop : goal.invariant-loop
invariant-loop l = (r : Ranges) (end : ℕ) → Upto r l.text end l.rules l.at → Upto r l.text end (l.rules - l.counter) l.p
