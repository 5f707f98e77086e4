use mathlib.Core.Path.{refl}
use native.Mathlib.Omega.{arith}
use Rattle.seal.proofs.CodeLaws.{right-257, and-then, and-else}
use Rattle.seal.proofs.right_257.Goals as goal

pub returns-then-pair-c : goal.returns-then-pair-c
returns-then-pair-c c =
    let r = c.sums_of-c.ensures in
    and-then _ _ _ _
    (right-257 c.args.block.now c.requires (λ p. omega (arith, c.type_inv.block p)) _ _ r.s_lt_modulus.0 r.s_lt_modulus.1 r.s_value.0 r.s_value.1 _ _ c.pair.ensures c.pair-then-pair-c.ensures)
    c.if-pair-c.true

pub returns-else-pair-c : goal.returns-else-pair-c
returns-else-pair-c c =
    let r = c.sums_of-c.ensures in
    and-else _ _ _ _
    (right-257 c.args.block.now c.requires (λ p. omega (arith, c.type_inv.block p)) _ _ r.s_lt_modulus.0 r.s_lt_modulus.1 r.s_value.0 r.s_value.1 _ _ c.pair.ensures refl)
    c.if-pair-c.false
