use Rattle.std.proofs.Common.{arith, ◌≡◌, ap, ◌∙◌}
use Rattle.sheet.specs.Questions.{ask_arrow_bit}
use Rattle.suite.specs.Numbers.{bit_numbers_def}
use Rattle.suite.proofs.ByteLaws.{arrow-bit-byte}
use Rattle.suite.proofs.sheets.zamiathen_arrow_bit.Goals as goal

pub returns : goal.returns
returns c =
    let t = c.args.sheet.now in
    let bytes-asked : ask_arrow_bit t c.byte.result c.byte-2.result c.byte-3.result ≡ ask_arrow_bit t c.args.arrow c.args.from c.args.to =
    rw (c.byte.ensures, c.byte-2.ensures, c.byte-3.ensures)
    (arrow-bit-byte t (λ p. omega (arith, c.type_inv.sheet p)) c.args.arrow c.args.from c.args.to) in
    c.from.ensures ∙ ap bit_numbers_def (c.arrow_bit.ensures ∙ bytes-asked)
