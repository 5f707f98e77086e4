use mathlib.Core.List.{List}
use Prim.Native.Nat.{ℕ, ◌<◌}
use native.Mathlib.Omega.{arith}
use lib.ListN.{get_or}
use Rattle.logic.specs.Syntax.{arrow}
use Rattle.logic.specs.Limits.{ranges}
use Rattle.text.specs.Stands.{SomeStands}
use Rattle.eval.proofs.ArrowCases.{IsPair, as-pair, leaf-relation}
use Rattle.eval.proofs.one_pair.Goals as goal

pair : {n at : ℕ} {text : List ℕ} (h : SomeStands (ranges n) text at arrow) → 0x16 < get_or text at 0 → IsPair n text at h.what
pair h u = as-pair _ _ _ h.what h.stands u

pub bounds-text-at : goal.bounds-text-at
bounds-text-at c = omega (arith, (pair c.requires.1 c.requires.2).inside)

pub bounds-text-at-2 : goal.bounds-text-at-2
bounds-text-at-2 c = omega (arith, (pair c.requires.1 c.requires.2).inside)

pub pair_rows-requires : goal.pair_rows-requires
pair_rows-requires c = let s = c.requires in let p = pair s.1 s.2 in (omega (arith, s.0.few, p.range.0), omega (arith, s.0.few, p.range.1), s.3)

pub returns : goal.returns
returns c = let s = c.requires in
    (λ e h. leaf-relation _ _ _ _ e _ (as-pair _ _ _ e h s.2) (c.pair_rows.ensures.0 _ _ (omega (arith, s.0.few)) s.0.nodes), c.pair_rows.ensures.1)
