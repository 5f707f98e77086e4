use Prim.Native.Nat.{◌+◌, ◌*◌}
use native.Mathlib.Omega.{arith}
use Rattle.bitset.proofs.SetLaws.{shl_one}
use Rattle.count_small.proofs.Counting.{few_bits}
use Rattle.count_small.proofs.small.how_many.Goals as goal

pub returns : goal.returns
returns c =
    let k = few_bits c.args.n c.requires in
    let e = shl_one (c.args.n + c.args.n * c.args.n) (omega arith) in (e, omega arith)
