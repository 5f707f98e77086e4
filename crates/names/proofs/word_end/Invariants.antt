use mathlib.Core.Path.{◌≡◌}
use Prim.Native.Nat.{◌≤◌, ◌<◌}
use lib.ListN.{length, drop}
use Rattle.names.specs.Scan.{scan, in_word}
use Rattle.names.specs.Scanned.{slice, tokens_from}
use Rattle.names.proofs.word_end.Given as goal

abbrev pub invariant-loop-p : goal.invariant-loop-p
invariant-loop-p l = (l.from < l.p) × (l.p ≤ length l.text) × (tokens_from l.text l.from ≡ scan (drop l.p l.text) (in_word l.from (slice l.text l.from l.p)) l.p)
