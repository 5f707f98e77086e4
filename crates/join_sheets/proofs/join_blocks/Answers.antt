use Prim.Native.Nat.{◌+◌, ◌-◌, ◌*◌}
use mathlib.Core.Path.{◌≡◌}
use native.Mathlib.Omega.{arith}
use borrow.Author.Rules.{rules}
use Rattle.seal.specs.Seal.{block_bytes}
use Rattle.sheet.specs.Sheet.{present}
use Rattle.sheet.proofs.SoundWords.{sound-length}
use Rattle.join_sheets.proofs.BlocksJoined.{one-made, one_more, all_made, begun-sound}
use Rattle.join_sheets.proofs.join_blocks.Goals as goal

pub slice_bounds-join_lines-end : goal.slice_bounds-join_lines-end
slice_bounds-join_lines-end c = omega (arith, sound-length present c.args.first.now c.requires.0)

pub slice_bounds-join_lines-end-2 : goal.slice_bounds-join_lines-end-2
slice_bounds-join_lines-end-2 c = omega (arith, sound-length present c.args.second.now c.requires.1)

pub loop-b-init : goal.loop-b-init
loop-b-init c =
    let pre = c.requires in
    one-made _ _ _ _ _ (begun-sound c.args.first.now c.args.second.now (λ p. search rules) (λ p. search rules) pre.0 pre.1 pre.2
    _ _ c.node_count-n.ensures.0 c.node_count-m.ensures.0 c.join_lines.new.block c.join_lines.ensures)

pub slice_bounds-join_rows-end-in-loop-b : goal.slice_bounds-join_rows-end-in-loop-b
slice_bounds-join_rows-end-in-loop-b c = omega (arith, sound-length present c.args.second.now c.requires.1, c.loop-b-test.true)

pub loop-b-preserved : goal.loop-b-preserved
loop-b-preserved c =
    let l = c.loop-b in
    let e : block_bytes * l.b + block_bytes - block_bytes * l.b ≡ block_bytes = omega arith in
    one_more _ _ _ _ _ _ l.invariant c.join_rows.new.block _ (omega arith) c.loop-b-test.true e c.join_rows.ensures

pub returns : goal.returns
returns c =
    let pre = c.requires in
    all_made _ _ _ _ _ _ c.loop-b.invariant _
    (begun-sound c.args.first.now c.args.second.now (λ p. search rules) (λ p. search rules) pre.0 pre.1 pre.2
    _ _ c.node_count-n.ensures.0 c.node_count-m.ensures.0 c.join_lines.new.block c.join_lines.ensures) c.loop-b-test.false
