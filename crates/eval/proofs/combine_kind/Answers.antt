use mathlib.Core.List.{List}
use Prim.Native.Nat.{ℕ, ◌≤◌}
use native.Mathlib.Omega.{arith}
use lib.ListN.{get_or}
use Rattle.logic.specs.Syntax.{arrow}
use Rattle.logic.specs.Limits.{ranges}
use Rattle.text.specs.Stands.{SomeStands}
use Rattle.eval.proofs.ArrowCases.{IsKind, as-kind, leaf-combined}
use Rattle.eval.proofs.combine_kind.Goals as goal

kind : {n at : ℕ} {text : List ℕ} (h : SomeStands (ranges n) text at arrow) → get_or text at 0 ≤ 0x11 → IsKind n text at h.what
kind h u = as-kind _ _ _ h.what h.stands u

pub overflow_add-at : goal.overflow_add-at
overflow_add-at c = omega (arith, (kind c.requires.3 c.requires.4).inside)

pub bounds-text-at : goal.bounds-text-at
bounds-text-at c = omega (arith, (kind c.requires.3 c.requires.4).inside)

pub combine_kind-requires : goal.combine_kind-requires
combine_kind-requires c = let s = c.requires in (s.0, s.1, s.2, (kind s.3 s.4).range, s.5)

pub overflow_add-result : goal.overflow_add-result
overflow_add-result c = omega (arith, (kind c.requires.3 c.requires.4).inside)

pub returns : goal.returns
returns c = (λ e h. leaf-combined _ _ _ _ _ e _ _ (as-kind _ _ _ e h c.requires.4) c.combine_kind.ensures.0, c.combine_kind.ensures.1)
