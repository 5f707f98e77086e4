use Rattle.std.proofs.Common.{rules}
use Rattle.pages.specs.Page.{square}
use Rattle.pages.proofs.lines.square.Goals as goal

pub returns-then-j-n : goal.returns-then-j-n
returns-then-j-n c = unfold square in search rules

pub returns-then-member : goal.returns-then-member
returns-then-member c = unfold square in search rules

pub returns-else-member : goal.returns-else-member
returns-else-member c = unfold square in search rules
