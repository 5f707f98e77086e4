use Rattle.std.proofs.Common.{arith}
use Rattle.bitset.proofs.SetLaws.{set_of-zero}
use Rattle.pages.proofs.LineLaws.{marked-more, unmarked-more}
use Rattle.pages.proofs.lines.marks_of.Goals as goal

pub loop-j-init : goal.loop-j-init
loop-j-init c = set_of-zero _

pub loop-j-preserved : goal.loop-j-preserved
loop-j-preserved c = grind (arith, marked-more, unmarked-more)
