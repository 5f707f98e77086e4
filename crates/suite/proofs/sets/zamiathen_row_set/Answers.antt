use Rattle.std.proofs.Common.{arith, ap, ap₂, ◌∙◌}
use Rattle.node_sets.specs.NodeSets.{ask_row_set}
use Rattle.suite.specs.SetNumbers.{set_numbers_def}
use Rattle.suite.proofs.ByteLaws.{row-set-byte}
use Rattle.suite.proofs.sets.zamiathen_row_set.Goals as goal

pub returns : goal.returns
returns c =
    let t = c.args.sheet.now in
    c.from.ensures
    ∙ ap set_numbers_def
    (c.row_set.ensures
    ∙ ap₂ (ask_row_set t) c.byte.ensures c.byte-2.ensures
    ∙ row-set-byte t (λ p. omega (arith, c.type_inv.sheet p)) c.args.arrow c.args.from)
