use Rattle.bitset.proofs.BitLaws.{words-or}
use Rattle.bitset.proofs.either.Goals as goal

pub returns : goal.returns
returns c = words-or c.args.x c.args.y c.ranges.x.fits c.ranges.y.fits
