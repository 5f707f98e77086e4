use native.Mathlib.Omega.{arith}
use Rattle.bitset.specs.Words.{set_of}
use Rattle.rows.proofs.OperationLaws.{bit-digit}
use Rattle.rows.proofs.relations.column.Goals as goal

pub returns : goal.returns
returns c = unfold set_of in let j = c.args.j in omega (arith, bit-digit c.args.a j, bit-digit c.args.b j, bit-digit c.args.c j)
