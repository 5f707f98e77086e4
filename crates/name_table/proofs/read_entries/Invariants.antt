use mathlib.Core.Path.{◌≡◌}
use mathlib.Core.List.{List}
use Prim.Native.Nat.{ℕ, ◌-◌, ◌≤◌}
use lib.ListN.{length}
use Rattle.names.specs.Scanned.{tokens_from}
use Rattle.names.specs.Names.{ask_entries, ask_names}
use Rattle.name_table.specs.Entries.{Begun}
use Rattle.name_table.proofs.read_entries.Given as goal

-- The entries read so far, and that the rest of the text is read after them.
pub record Sofar (text table : List ℕ) (at : ℕ) : Type 0 where
  pub begun : Begun table
  pub rest : ask_names text ≡ ask_entries (length text) (tokens_from text at) begun.entries
  pub inside : at ≤ length text

abbrev pub invariant-loop-to : goal.invariant-loop-to
invariant-loop-to l = Sofar l.text l.table l.at

abbrev pub decreases-loop-to : goal.decreases-loop-to
decreases-loop-to l = length l.text - l.at
