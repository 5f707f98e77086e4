use Rattle.bitset.proofs.MemberLaws.{but-first-is, but-first-less}
use Rattle.bitset.proofs.but_first.Goals as goal

pub returns : goal.returns
returns c = (λ i e. but-first-is c.args.x c.requires c.ranges.x.fits i e, but-first-less c.args.x c.requires c.ranges.x.fits)
