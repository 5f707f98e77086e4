use mathlib.Core.List.{List}
use Prim.Native.Nat.{ℕ, ◌≤◌, ◌*◌}
use Rattle.seal.proofs.LaneTotals.{Counted}
use Rattle.seal.proofs.block_totals.Given as goal

pub record Inv (l : List ℕ) (first second before odds z j : ℕ) : Type 0 where
  pub low : (first ≤ 0x07F807F807F807F8 * j) × (second ≤ 0x07F807F807F807F8 * j) × (before ≤ 0x17E817E817E817E8 * j) × (odds ≤ 0x07F807F807F807F8 * j)
  pub z-low : z ≤ 524280 * j
  pub counted : Counted l first second before odds z j

abbrev pub invariant-loop-j : goal.invariant-loop-j
invariant-loop-j l = Inv l.block l.first l.second l.before l.odds l.z l.j
