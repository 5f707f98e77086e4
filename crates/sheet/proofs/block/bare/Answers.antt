use mathlib.Core.Path.{ap, ◌∙◌}
use mathlib.Core.Bool.{Bool, not, ◌&&◌}
use Prim.Native.Nat.{ℕ}
use native.Mathlib.Omega.{arith}
use Rattle.bitset.specs.Words.{combined, word_at}
use Rattle.sheet.proofs.MaskLaws.{barely-more, barely-all}
use Rattle.sheet.proofs.block.bare.Goals as goal

pub loop-left-preserved : goal.loop-left-preserved
loop-left-preserved c =
    let l = c.loop-left in
    let f = c.first.ensures in
    -- the set's first number is that of a word
    let there = c.requires.0 _ (l.invariant.part _ f.1 f.0) in
    let read = c.load-w.ensures ∙ ap (word_at c.args.block.now) c.word_place.ensures in
    barely-more c.args.block.now c.args.set l.left _ l.r c.first.result _ l.invariant f.0 there
    (c.but_first-left.ensures.0 _ f.2) (c.minus-r.ensures ∙ ap (λ (w : ℕ). combined (λ (a b : Bool). a && not b) w 0) read)

pub returns : goal.returns
returns c =
    let l = c.loop-left in
    barely-all c.args.block.now c.args.set l.left l.r l.invariant (omega (arith, c.loop-left-test.false))
