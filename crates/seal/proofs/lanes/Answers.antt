use native.Mathlib.Omega.{arith}
use Rattle.seal.proofs.LaneLaws.{pairs-are, odds-are}
use Rattle.bitset.specs.Words.{Bytes}
use Rattle.seal.proofs.lanes.Goals as goal

pub returns-clause-pairs_value : goal.returns-clause-pairs_value
returns-clause-pairs_value c =
    let s = c.args.s.now in
    let small : Bytes s = λ p. omega (arith, c.type_inv.s p) in
    (pairs-are s small c.args.at c.requires _ c.load-w.ensures, odds-are s small c.args.at c.requires _ c.load-w.ensures)
