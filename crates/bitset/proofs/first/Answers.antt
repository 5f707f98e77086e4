use mathlib.Core.Path.{refl}
use Rattle.bitset.proofs.MemberLaws.{first_member, member-small}
use Rattle.bitset.proofs.first.Goals as goal

pub returns : goal.returns
returns c = let m = first_member c.args.x c.requires c.ranges.x.fits in (m, member-small 64 c.args.x _ c.ranges.x.fits m, refl)
