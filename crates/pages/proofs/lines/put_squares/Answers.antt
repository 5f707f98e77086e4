use Rattle.pages.proofs.LineLaws.{no-squares, square-more, all-squares}
use Rattle.pages.proofs.lines.put_squares.Goals as goal

pub loop-j-init : goal.loop-j-init
loop-j-init c = no-squares c.requires

pub loop-j-preserved : goal.loop-j-preserved
loop-j-preserved c = square-more c.loop-j.invariant _ c.loop-j-test.true c.square.ensures

pub returns : goal.returns
returns c = all-squares c.loop-j.invariant c.loop-j-test.false
