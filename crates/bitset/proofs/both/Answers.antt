use Rattle.bitset.proofs.BitLaws.{words-and}
use Rattle.bitset.proofs.both.Goals as goal

pub returns : goal.returns
returns c = words-and c.args.x c.args.y c.ranges.x.fits c.ranges.y.fits
