use native.Mathlib.Omega.{arith}
use mathlib.Core.Path.{◌∙◌}
use Prim.Native.Nat.{◌+◌, ◌-◌}
use Rattle.ends.proofs.NameCells.{named-lt}
use Rattle.write.proofs.Finding.{following-first, following-low, following-more, following-less, following-end}
use Rattle.write.proofs.names.find.Goals as goal

pub offset_bounds-work-i : goal.offset_bounds-work-i
offset_bounds-work-i c = omega (arith, c.cell_of-i.ensures, named-lt _ _ c.requires.1)

pub bounds-work-i : goal.bounds-work-i
bounds-work-i c = omega (arith, c.cell_of-i.ensures, named-lt _ _ c.requires.1, c.requires.0.long)

pub overflow_cast-j : goal.overflow_cast-j
overflow_cast-j c = omega (arith, c.type_inv.work c.cell_of-i.result)

pub loop-j-init : goal.loop-j-init
loop-j-init c = following-first c.requires.0 c.requires.1 c.cell_of-i.ensures

pub overflow_add-j : goal.overflow_add-j
overflow_add-j c = omega (arith, following-low c.loop-j.invariant)

pub offset_bounds-work-j : goal.offset_bounds-work-j
offset_bounds-work-j c = omega (arith, following-low c.loop-j.invariant)

pub bounds-work-j : goal.bounds-work-j
bounds-work-j c = omega (arith, following-low c.loop-j.invariant, c.loop-j-test.true, c.requires.0.long)

pub overflow_cast-j-in-loop-j : goal.overflow_cast-j-in-loop-j
overflow_cast-j-in-loop-j c = omega (arith, c.type_inv.work (1430 + (c.loop-j.j - 1)))

pub loop-j-smaller : goal.loop-j-smaller
loop-j-smaller c = following-less c.loop-j.invariant c.loop-j-test.true

pub loop-j-preserved : goal.loop-j-preserved
loop-j-preserved c = following-more c.loop-j.invariant c.loop-j-test.true

pub returns : goal.returns
returns c = (c.linked.ensures ∙ following-end c.loop-j.invariant c.loop-j-test.false, omega (arith, c.linked.ensures))
