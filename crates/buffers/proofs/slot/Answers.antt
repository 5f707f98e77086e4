use mathlib.Core.Path.{◌≡◌, ap}
use mathlib.Core.List.{List}
use Prim.Native.Nat.{ℕ, ◌+◌, ◌*◌, ◌-◌}
use native.Mathlib.Omega.{arith}
use lib.ListN.{get_or, take, drop}
use Rattle.buffers.specs.Slots.{slot_at}
use Rattle.buffers.proofs.slot.Goals as goal

part : (from n : ℕ) (l : List ℕ) → take (from + n - from) (drop from l) ≡ take n (drop from l)
part from n l = ap (λ k. take k (drop from l)) (let e : from + n - from ≡ n = omega arith in e)

pub returns : goal.returns
unfolding slot_at
returns c = let a = c.args in rw c.from.ensures (part (a.width * a.i + 1) (get_or a.table.now (a.width * a.i) 0) a.table.now)
