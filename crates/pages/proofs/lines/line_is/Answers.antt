use Rattle.std.proofs.Common.{rules}
use Rattle.pages.proofs.LineLaws.{equal_bytes}
use Rattle.pages.proofs.lines.line_is.Goals as goal

pub returns : goal.returns
returns c = search (rules, equal_bytes)
