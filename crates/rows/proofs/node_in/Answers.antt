use mathlib.Core.Path.{ap₂, ◌∙◌}
use Rattle.bitset.proofs.SetLaws.{member-set_of}
use Rattle.bitset.specs.Words.{member}
use Rattle.rows.proofs.node_in.Goals as goal

pub returns : goal.returns
returns c n v l p = c.member.ensures ∙ ap₂ member p c.index.ensures ∙ member-set_of n v _ l
