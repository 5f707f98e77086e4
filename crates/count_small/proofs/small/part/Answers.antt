use mathlib.Core.Path.{◌∙◌}
use Rattle.count_small.proofs.Counting.{part-is}
use Rattle.count_small.proofs.small.part.Goals as goal

pub returns : goal.returns
returns c = let s = c in c.both.ensures ∙ part-is s.args.x s.args.from s.args.n _ s.requires.1 c.lowest.ensures
