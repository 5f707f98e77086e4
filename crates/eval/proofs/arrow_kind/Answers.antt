use mathlib.Core.Path.{ap}
use mathlib.Core.List.{List}
use Prim.Native.Nat.{ℕ, ◌≤◌}
use native.Mathlib.Omega.{arith}
use lib.ListN.{length, get_or}
use Rattle.logic.specs.Syntax.{arrow}
use Rattle.logic.specs.Limits.{ranges}
use Rattle.text.specs.Stands.{SomeStands}
use Rattle.eval.proofs.ArrowCases.{IsKind, as-kind, leaf-relation}
use Rattle.eval.proofs.arrow_kind.Goals as goal

kind : {n at : ℕ} {text : List ℕ} (h : SomeStands (ranges n) text at arrow) → get_or text at 0 ≤ 0x11 → IsKind n text at h.what
kind h u = as-kind _ _ _ h.what h.stands u

pub overflow_add-at : goal.overflow_add-at
overflow_add-at c = omega (arith, (kind c.requires.1 c.requires.2).inside)

pub bounds-text-at : goal.bounds-text-at
bounds-text-at c = omega (arith, (kind c.requires.1 c.requires.2).inside)

pub arrow_rows-requires : goal.arrow_rows-requires
arrow_rows-requires c = let s = c.requires in (s.0.sound, s.0.count, s.0.few, (kind s.1 s.2).range, ap length s.3)

pub overflow_add-result : goal.overflow_add-result
overflow_add-result c = omega (arith, (kind c.requires.1 c.requires.2).inside)

pub returns : goal.returns
returns c = (λ e h. leaf-relation _ _ _ _ e _ (as-kind _ _ _ e h c.requires.2) c.arrow_rows.ensures.0, c.arrow_rows.ensures.1)
