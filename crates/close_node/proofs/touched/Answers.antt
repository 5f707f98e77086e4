use Rattle.std.proofs.Common.{sym, ap, ◌∙◌, not, ℕ}
use borrow.Author.Tests.{ne_eqb}
use Rattle.logic.specs.Graph.{any_below}
use Rattle.bitset.specs.Words.{set_of}
use Rattle.sheet.specs.Sheet.{graph_of}
use Rattle.close_node.proofs.NodeTaken.{word_some, word_none, bit-of, any-first, any-second}
use Rattle.close_node.proofs.touched.Goals as goal

pub returns-then-row_word-ne0 : goal.returns-then-row_word-ne0
returns-then-row_word-ne0 c =
    let arrows = (graph_of c.args.sheet.now).joined c.args.a.0 in
    let row = c.row_word.ensures ∙ ap (λ (m : ℕ). set_of m (arrows c.args.node.0)) (sym c.requires.0.count) in
    ap not (ne_eqb _ 0 c.if-row_word-ne0.true) ∙ any-first _ (arrows c.args.node.0) (λ j. arrows j c.args.node.0) (word_some _ _ _ row c.if-row_word-ne0.true)

pub returns-else-row_word-ne0 : goal.returns-else-row_word-ne0
returns-else-row_word-ne0 c =
    let arrows = (graph_of c.args.sheet.now).joined c.args.a.0 in
    let row = c.row_word.ensures ∙ ap (λ (m : ℕ). set_of m (arrows c.args.node.0)) (sym c.requires.0.count) in
    sym (bit-of _ _ _ (λ j. any_below c.args.n (λ i. arrows i j)) _ c.requires.1 c.kind_all_ends.ensures c.member.ensures)
    ∙ any-second _ (arrows c.args.node.0) (λ j. arrows j c.args.node.0) (word_none _ _ _ row c.if-row_word-ne0.false)
