use mathlib.Core.Path.{sym, ◌∙◌}
use Rattle.bitset.proofs.SetLaws.{shl_one, set_of-only}
use Rattle.bitset.proofs.only.Goals as goal

pub returns : goal.returns
returns c = shl_one c.args.i c.requires ∙ sym (set_of-only 64 c.args.i c.requires)
