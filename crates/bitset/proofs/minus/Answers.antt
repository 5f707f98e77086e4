use Rattle.bitset.proofs.BitLaws.{words-minus}
use Rattle.bitset.proofs.minus.Goals as goal

pub returns : goal.returns
returns c = words-minus c.args.x c.args.y c.ranges.x.fits c.ranges.y.fits
