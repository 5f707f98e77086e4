use mathlib.Core.Path.{ap, ◌∙◌}
use mathlib.Core.Bool.{Bool, not, ◌&&◌}
use Prim.Native.Nat.{ℕ}
use Rattle.bitset.specs.Words.{combined, word_at}
use Rattle.sheet.proofs.MaskLaws.{outside-more}
use Rattle.sheet.proofs.block.outside.Goals as goal

pub loop-j-preserved : goal.loop-j-preserved
loop-j-preserved c =
    let l = c.loop-j in
    let k = c.args.block.now in
    let read = c.load.ensures ∙ ap (word_at k) c.word_place.ensures in
    let e = c.minus-r.ensures ∙ ap (λ (w : ℕ). combined (λ (a b : Bool). a && not b) w c.args.mask) read in
    outside-more k c.args.from l.j c.args.mask l.r c.minus-r.result l.auto.j l.invariant e
