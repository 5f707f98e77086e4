use mathlib.Core.Path.{◌≡◌}
use mathlib.Core.List.{List}
use Prim.Native.Nat.{ℕ, ◌+◌, ◌-◌, ◌≤◌}
use native.Mathlib.Omega.{arith}
use lib.ListN.{length, take, drop, length-take, length-drop}
use Rattle.log_edit.proofs.EditBlocks.{log-length, left-all, room, left-next, left-none}
use Rattle.log_edit.proofs.put_blocks.Goals as goal

-- the length of the next block's place
place-size : (at : ℕ) (o : List ℕ) → at + 512 ≤ length o → length (take (at + 512 - at) (drop at o)) ≡ 512
place-size at o h = omega (arith, length-take (at + 512 - at) (drop at o), length-drop at o)

pub loop-from-init : goal.loop-from-init
loop-from-init c = left-all _ _ c.requires.0

pub overflow_sub-edit : goal.overflow_sub-edit
overflow_sub-edit c = omega (arith, c.loop-from.invariant.inside)

pub overflow_add-next : goal.overflow_add-next
overflow_add-next c = omega (arith, c.loop-from.invariant.inside, c.requires.1)

pub overflow_add-end : goal.overflow_add-end
overflow_add-end c = omega (arith, room c.loop-from.invariant, log-length c.args.edit.now c.requires.0, c.requires.1)

pub slice_bounds-make_block-end-in-loop-from : goal.slice_bounds-make_block-end-in-loop-from
slice_bounds-make_block-end-in-loop-from c = omega (arith, room c.loop-from.invariant, c.loop-from.auto.output, c.requires.2)

pub make_block-requires : goal.make_block-requires
make_block-requires c =
    let l = c.loop-from in (
      omega (arith, length-take (l.from + 504 - l.from) (drop l.from c.args.edit.now)),
      place-size l.at l.output (omega (arith, room l.invariant, l.auto.output, c.requires.2)),
    )

pub loop-from-smaller : goal.loop-from-smaller
loop-from-smaller c = omega (arith, c.loop-from.invariant.inside)

pub loop-from-preserved : goal.loop-from-preserved
loop-from-preserved c = left-next c.loop-from.invariant _ c.loop-from-test.true c.make_block.ensures

pub overflow_add-last : goal.overflow_add-last
overflow_add-last c = omega (arith, room c.loop-from.invariant, log-length c.args.edit.now c.requires.0, c.requires.1)

pub overflow_add-mark : goal.overflow_add-mark
overflow_add-mark c = omega (arith, c.loop-from.invariant.first)

pub slice_bounds-make_block-end-3 : goal.slice_bounds-make_block-end-3
slice_bounds-make_block-end-3 c = omega (arith, room c.loop-from.invariant, c.loop-from.auto.output, c.requires.2)

pub make_block-requires-2 : goal.make_block-requires-2
make_block-requires-2 c =
    let l = c.loop-from in (
      omega (arith, length-take (length c.args.edit.now - l.from) (drop l.from c.args.edit.now), c.loop-from-test.false),
      place-size l.at l.output (omega (arith, room l.invariant, l.auto.output, c.requires.2)),
    )

pub returns : goal.returns
returns c = left-none c.loop-from.invariant _ c.loop-from-test.false c.make_block-2.ensures
