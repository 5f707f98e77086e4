use Rattle.std.proofs.Common.{arith, ap, ◌∙◌}
use Rattle.node_sets.specs.NodeSets.{ask_label_set}
use Rattle.suite.specs.SetNumbers.{set_numbers_def}
use Rattle.suite.proofs.ByteLaws.{label-set-byte}
use Rattle.suite.proofs.sets.zamiathen_label_set.Goals as goal

pub returns : goal.returns
returns c =
    let t = c.args.sheet.now in
    c.from.ensures
    ∙ ap set_numbers_def
    (c.label_set.ensures
    ∙ ap (ask_label_set t) c.byte.ensures
    ∙ label-set-byte t (λ p. omega (arith, c.type_inv.sheet p)) c.args.label)
