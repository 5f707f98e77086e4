use mathlib.Core.Path.{ap, ◌∙◌}
use lib.Count.{ones}
use Rattle.bitset.proofs.SetLaws.{ones-set_of}
use Rattle.bitset.proofs.BitLaws.{words-and}
use Rattle.bitset.proofs.count_common.Goals as goal

pub returns : goal.returns
returns c = ap ones (words-and c.args.x c.args.y c.ranges.x.fits c.ranges.y.fits) ∙ ones-set_of 64 _
