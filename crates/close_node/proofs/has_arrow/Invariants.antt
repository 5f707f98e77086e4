use mathlib.Core.Bool.{false}
use mathlib.Core.Path.{◌≡◌}
use Prim.Native.Nat.{ℕ, ◌<◌}
use Rattle.sheet.specs.Sheet.{graph_of}
use Rattle.close_node.proofs.NodeTaken.{arrows_at}
use Rattle.close_node.proofs.has_arrow.Given as goal

abbrev pub invariant-loop-a : goal.invariant-loop-a
invariant-loop-a l = (b : ℕ) → b < l.a → arrows_at (graph_of l.sheet) l.node.0 b ≡ false
