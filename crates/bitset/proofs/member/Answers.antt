use Rattle.bitset.proofs.SetLaws.{test-member}
use Rattle.bitset.proofs.member.Goals as goal

pub returns : goal.returns
returns c = test-member c.args.x c.args.i
