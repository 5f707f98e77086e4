use Rattle.std.proofs.Common.{◌∙◌}
use Rattle.pages.proofs.LineLaws.{line-started, line-written}
use Rattle.pages.proofs.lines.put_line.Goals as goal

pub returns : goal.returns
returns c =
    c.put_squares.ensures ∙ line-written c.args.n c.args.x c.args.row (line-started c.args.x c.args.line.now c.requires c.write_digits.ensures)
