use mathlib.Core.Path.{◌∙◌}
use Rattle.rows.proofs.Quantifiers.{any-wanted}
use Rattle.rows.proofs.over.ends.Goals as goal

pub returns-then-e-all : goal.returns-then-e-all
returns-then-e-all g c v a p = c.all_ends.ensures v p ∙ any-wanted _ c.args.e _ v c.if-e-all.true a
