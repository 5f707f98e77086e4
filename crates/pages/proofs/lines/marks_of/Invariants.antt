use mathlib.Core.Path.{◌≡◌}
use Rattle.bitset.specs.Words.{set_of}
use Rattle.pages.specs.Typed.{marks}
use Rattle.pages.proofs.lines.marks_of.Given as goal

abbrev pub invariant-loop-j : goal.invariant-loop-j
invariant-loop-j l = l.r ≡ set_of l.j (marks l.line)
