use Rattle.std.proofs.Common.{◌∙◌}
use Rattle.pages.proofs.LineLaws.{head-started, head-written}
use Rattle.pages.proofs.lines.put_head.Goals as goal

pub returns : goal.returns
returns c =
    c.put_squares.ensures ∙ head-written c.args.x (head-started c.args.x c.args.line.now c.args.letter c.requires c.write_digits.ensures)
