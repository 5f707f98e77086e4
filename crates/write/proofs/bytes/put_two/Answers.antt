use native.Mathlib.Omega.{arith}
use lib.ListN.{length-set}
use Rattle.write.proofs.Laying.{wrote-two}
use Rattle.write.proofs.bytes.put_two.Goals as goal

pub bounds-out-pos-2 : goal.bounds-out-pos-2
bounds-out-pos-2 c = omega (arith, c.requires, length-set c.args.out.now c.args.pos c.args.a)

pub returns : goal.returns
returns c = wrote-two c.args.out.now c.args.pos c.args.a c.args.b
