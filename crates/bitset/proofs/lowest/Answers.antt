use mathlib.Core.Path.{sym, ap, ◌∙◌}
use Prim.Native.Nat.{ℕ, ◌-◌}
use native.Mathlib.Omega.{arith}
use Rattle.bitset.proofs.SetLaws.{shl_one, set_of-all, set_of-lowest}
use Rattle.bitset.proofs.lowest.Goals as goal

pub returns : goal.returns
returns c =
    ap (λ (x : ℕ). x - 1) (shl_one c.args.n c.requires)
    ∙ sym (set_of-lowest c.args.n 64 (omega arith) ∙ set_of-all c.args.n)
