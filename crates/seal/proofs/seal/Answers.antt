use mathlib.Core.Path.{ap₂, ◌∙◌}
use mathlib.Core.List.{◌++◌}
use Prim.Native.Nat.{ℕ}
use lib.ListN.{take}
use Rattle.seal.specs.Seal.{stored, modulo257, reseal, sealed}
use Rattle.seal.proofs.seal.Goals as goal

pub returns : goal.returns
unfolding reseal sealed
returns c =
    let r = c.sums_of-c.ensures.s_value in
    c.put_sums.ensures ∙ ap₂ (λ (x y : ℕ). take 508 c.args.block.now ++ stored modulo257 (record { s = x; t = y })) r.0 r.1
