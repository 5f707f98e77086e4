use Rattle.std.proofs.Common.{arith, ap, ap₂, ◌∙◌}
use Rattle.sheet.specs.Questions.{ask_label_bit}
use Rattle.suite.specs.Numbers.{bit_numbers_def}
use Rattle.suite.proofs.ByteLaws.{label-bit-byte}
use Rattle.suite.proofs.sheets.zamiathen_label_bit.Goals as goal

pub returns : goal.returns
returns c =
    let t = c.args.sheet.now in
    c.from.ensures
    ∙ ap bit_numbers_def
    (c.label_bit.ensures
    ∙ ap₂ (ask_label_bit t) c.byte.ensures c.byte-2.ensures
    ∙ label-bit-byte t (λ p. omega (arith, c.type_inv.sheet p)) c.args.label c.args.node)
