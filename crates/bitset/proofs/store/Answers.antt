use mathlib.Core.Path.{◌∙◌}
use Rattle.bitset.proofs.WordLaws.{stored}
use Rattle.bitset.proofs.store.Goals as goal

pub returns : goal.returns
returns c = stored c.args.s.now c.args.at c.args.x _ (c.copy_from_slice.ensures.after ∙ c.to_le_bytes.ensures)
