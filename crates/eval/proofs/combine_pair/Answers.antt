use mathlib.Core.List.{List}
use Prim.Native.Nat.{ℕ, ◌<◌}
use native.Mathlib.Omega.{arith}
use lib.ListN.{get_or}
use Rattle.logic.specs.Syntax.{arrow}
use Rattle.logic.specs.Limits.{ranges}
use Rattle.text.specs.Stands.{SomeStands}
use Rattle.eval.proofs.ArrowCases.{IsPair, as-pair, leaf-combined}
use Rattle.eval.proofs.combine_pair.Goals as goal

pair : {n at : ℕ} {text : List ℕ} (h : SomeStands (ranges n) text at arrow) → 0x16 < get_or text at 0 → IsPair n text at h.what
pair h u = as-pair _ _ _ h.what h.stands u

pub bounds-text-at : goal.bounds-text-at
bounds-text-at c = omega (arith, (pair c.requires.1 c.requires.2).inside)

pub bounds-text-at-2 : goal.bounds-text-at-2
bounds-text-at-2 c = omega (arith, (pair c.requires.1 c.requires.2).inside)

pub combine_pair-requires : goal.combine_pair-requires
combine_pair-requires c = let s = c.requires in let p = pair s.1 s.2 in (s.3, omega (arith, s.0.few, p.range.0), omega (arith, s.0.few, p.range.1), s.4)

pub returns : goal.returns
returns c = let s = c.requires in
    (λ e h. leaf-combined _ _ _ _ _ e _ _ (as-pair _ _ _ e h s.2) (λ v p. c.combine_pair.ensures.0 _ _ v (omega (arith, s.0.few)) s.0.nodes p), c.combine_pair.ensures.1)
