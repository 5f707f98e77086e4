-- The loop's invariant: the rules that are left give the answer for the book. A turn takes one of those that a book may have.
use mathlib.Core.Path.{◌≡◌}
use Prim.Native.Nat.{◌-◌}
use lib.ListN.{drop}
use Rattle.answer.specs.Asked.{outcome}
use Rattle.text.specs.Questions.{most_rules, read_rules, ask_book}
use Rattle.text.specs.Patterns.{limits_of}
use Rattle.text.proofs.book_within.Given as goal

abbrev pub invariant-loop : goal.invariant-loop
invariant-loop l = outcome (read_rules (limits_of l.limits) (most_rules - l.counter) (drop l.p l.book) l.p) ≡ outcome (ask_book (limits_of l.limits) l.book)
