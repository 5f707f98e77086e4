use Rattle.bitset.proofs.ExchangedBlocks.{low_word}
use Rattle.bitset.proofs.low_row.Goals as goal

pub returns : goal.returns
returns c = low_word c.args.x c.args.y c.args.s c.args.m c.requires c.ranges.x.fits c.ranges.y.fits c.ranges.m.fits
