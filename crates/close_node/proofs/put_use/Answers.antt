use Rattle.std.proofs.Common.{refl, ap, ◌∙◌, ◌++◌, drop, arith, rules}
use Rattle.logic.specs.Steps.{update}
use Rattle.seal.specs.Seal.{block_bytes}
use Rattle.sheet.specs.Sheet.{present, graph_of}
use Rattle.sheet.proofs.SoundSheets.{sound-is-stored}
use Rattle.sheet.proofs.SoundWords.{sound-length, sound-seal, sound-n}
use Rattle.sheet.proofs.WriteLaws.{reused}
use Rattle.close_node.proofs.put_use.Goals as goal

pub with_use-all-requires : goal.with_use-all-requires
with_use-all-requires c = omega (arith, c.requires.1, (sound-n present c.args.sheet.now (λ p. search rules) c.requires.0).1)

pub slice_bounds-put_word-end : goal.slice_bounds-put_word-end
slice_bounds-put_word-end c = omega (arith, sound-length present c.args.sheet.now c.requires.0)

pub put_word-requires : goal.put_word-requires
put_word-requires c = (search rules, search rules, sound-seal present c.args.sheet.now c.requires.0)

pub returns : goal.returns
returns c =
    let t = c.args.sheet.now in
    let o = sound-is-stored present t (λ p. search rules) c.requires.0 in
    ap (◌++ drop block_bytes t) c.put_word.ensures
    ∙ reused present (graph_of t) (update (graph_of t).in_use c.args.node.0 c.args.used) _ t refl o.stored
    (c.with_use-all.ensures (graph_of t) (omega (arith, o.within.few_nodes)) c.requires.1 c.all_nodes.ensures)
