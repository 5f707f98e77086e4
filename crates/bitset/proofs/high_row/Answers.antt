use Rattle.bitset.proofs.ExchangedBlocks.{high_word}
use Rattle.bitset.proofs.high_row.Goals as goal

pub returns : goal.returns
returns c = high_word c.args.x c.args.y c.args.s c.args.m c.requires c.ranges.x.fits c.ranges.y.fits c.ranges.m.fits
