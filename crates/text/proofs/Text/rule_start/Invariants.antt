-- The loop's invariant: the place wanted is after the rules that are left. A turn takes one of them.
use mathlib.Core.Path.{◌≡◌}
use Prim.Native.Nat.{◌-◌, ◌≤◌}
use lib.ListN.{length, drop}
use Rattle.text.specs.Reading.{text_limits}
use Rattle.text.specs.Questions.{rules_end, rule_start_def}
use Rattle.text.specs.Patterns.{limits_of}
use Rattle.text.proofs.Text.rule_start.Given as goal

abbrev pub invariant-loop : goal.invariant-loop
invariant-loop l = (l.p ≤ length l.book) × (rules_end (limits_of l.limits) (l.i - l.counter) (drop l.p l.book) l.p ≡ rule_start_def (text_limits l.n) l.i l.book)
