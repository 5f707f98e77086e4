use mathlib.Core.Path.{ap, ◌∙◌}
use mathlib.Core.List.{◌++◌}
use native.Mathlib.Omega.{arith}
use lib.ListN.{drop}
use Rattle.seal.specs.Seal.{block_bytes}
use Rattle.sheet.specs.Sheet.{present, graph_of}
use Rattle.sheet.proofs.SoundSheets.{sound-is-stored}
use Rattle.sheet.proofs.SoundWords.{sound-length}
use Rattle.sheet.proofs.WriteLaws.{all-relabelled}
use borrow.Author.Rules.{rules}
use Rattle.store.proofs.Store.put_labels.Goals as goal

pub slice_bounds-put_words-end : goal.slice_bounds-put_words-end
slice_bounds-put_words-end c = omega (arith, sound-length present c.args.sheet.now c.requires)

pub returns : goal.returns
returns c = λ v new.
    let t = c.args.sheet.now in
    let o = sound-is-stored present t (λ p. search rules) c.requires in
    ap (◌++ drop block_bytes t) c.put_words.ensures ∙ all-relabelled present (graph_of t) v c.args.sets new t o.stored
