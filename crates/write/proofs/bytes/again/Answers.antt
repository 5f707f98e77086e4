use Rattle.std.proofs.Common.{◌≡◌, ◌+◌, ◌-◌, arith, length, take, drop}
use lib.ListN.{length-take, length-drop}
use Rattle.write.proofs.Laying.{wrote-part}
use Rattle.write.proofs.bytes.again.Goals as goal

pub returns : goal.returns
returns c =
    let a = c.args in
    let l : a.n ≡ length (take a.n (drop a.from a.out.now)) = omega (arith, length-take a.n (drop a.from a.out.now), length-drop a.from a.out.now) in
    let m : a.from + a.n - a.from ≡ a.n = omega arith in
    wrote-part (rw m at c.copy_within.ensures.after) l (omega arith)
