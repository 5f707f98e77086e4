use Rattle.bitset.proofs.WordLaws.{sum_of_bytes, loaded}
use Rattle.bitset.proofs.load.Goals as goal

pub returns : goal.returns
unfolding sum_of_bytes
returns c = loaded c.args.s.now c.args.at _ c.requires c.from_le_bytes.ensures
