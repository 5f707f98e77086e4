use native.Mathlib.Omega.{arith}
use Rattle.seal.proofs.CodeLaws.{bare-right}
use Rattle.seal.proofs.bare_seal.Goals as goal

pub returns : goal.returns
returns c = bare-right c.args.b c.requires.1 c.args.block.now c.requires.0 (λ p. omega (arith, c.type_inv.block p)) _ c.from_le_bytes.ensures
