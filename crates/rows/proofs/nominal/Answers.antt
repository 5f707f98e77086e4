use mathlib.Core.Bool.{◌&&◌}
use mathlib.Core.Path.{ap, ap₂, ◌∙◌}
use Prim.Native.Nat.{ℕ}
use lib.Dec.{eqb}
use Rattle.bitset.specs.Words.{set_of, combined}
use Rattle.rows.proofs.OperationLaws.{combined-wide}
use Rattle.rows.proofs.nominal.Goals as goal

pub returns : goal.returns
returns c n nodes h a = c.both.ensures
    ∙ ap₂ (combined ◌&&◌) a (c.only.ensures ∙ ap (λ (i : ℕ). set_of 64 (λ k. eqb k i)) c.index.ensures)
    ∙ combined-wide n nodes _ h
