use mathlib.Core.Path.{◌≡◌}
use lib.ListN.{drop}
use Rattle.count_small.specs.Walk.{number, walk}
use Rattle.count_small.proofs.names.only_first.Given as goal

abbrev pub invariant-loop-byte : goal.invariant-loop-byte
invariant-loop-byte l = walk 0 l.text ≡ walk (number l.due) (drop l.byte-index l.text)
