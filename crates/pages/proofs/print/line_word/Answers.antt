use Rattle.std.proofs.Common.{sym, ◌∙◌, ap}
use Rattle.bitset.specs.Words.{set_of}
use Rattle.sheet.specs.Sheet.{graph_of}
use Rattle.sheet.proofs.BlockLaws.{line-use}
use Rattle.pages.proofs.LineLaws.{nodes-used}
use Rattle.pages.proofs.print.line_word.Goals as goal

pub returns-else-x-lt-LABELS : goal.returns-else-x-lt-LABELS
returns-else-x-lt-LABELS c =
    let g = graph_of c.args.sheet.now in
    rw c.in-Labels.is (c.all_nodes.ensures ∙ nodes-used g ∙ ap (set_of g.n) (sym (line-use g _ c.if-x-lt-LABELS.false)))
