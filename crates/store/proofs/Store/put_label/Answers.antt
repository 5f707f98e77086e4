use mathlib.Core.Path.{ap, ◌∙◌}
use mathlib.Core.List.{◌++◌}
use Prim.Native.Nat.{ℕ, ◌+◌, ◌*◌}
use native.Mathlib.Omega.{arith}
use borrow.Author.Rules.{rules}
use lib.ListN.{take, drop}
use Rattle.bitset.specs.Words.{put_word_def}
use Rattle.seal.specs.Seal.{block_bytes, reseal}
use Rattle.sheet.specs.Sheet.{present, graph_of}
use Rattle.sheet.proofs.SoundSheets.{sound-is-stored}
use Rattle.sheet.proofs.SoundWords.{sound-length, sound-seal}
use Rattle.sheet.proofs.WriteLaws.{relabelled}
use Rattle.store.proofs.Store.put_label.Goals as goal

pub slice_bounds-put_word-end : goal.slice_bounds-put_word-end
slice_bounds-put_word-end c = omega (arith, sound-length present c.args.sheet.now c.requires.0)

pub put_word-requires : goal.put_word-requires
put_word-requires c = (search rules, search rules, sound-seal present c.args.sheet.now c.requires.0)

pub returns : goal.returns
returns c = λ v q.
    let t = c.args.sheet.now in
    let o = sound-is-stored present t (λ p. search rules) c.requires.0 in
    let placed = ap (λ (p : ℕ). reseal present.sums (put_word_def (take block_bytes t) p c.args.x)) (c.word_place.ensures ∙ ap (λ (j : ℕ). 16 + 8 * j) c.from.ensures) in
    ap (◌++ drop block_bytes t) (c.put_word.ensures ∙ placed)
    ∙ relabelled present (graph_of t) v c.args.k.0 c.args.x t c.requires.1 o.stored q
