use mathlib.Core.Path.{sym, ap, ◌∙◌}
use Rattle.rows.proofs.OperationLaws.{pair-there, pair-gone}
use Rattle.bitset.specs.Words.{member}
use Rattle.rows.proofs.relations.pair_row.Goals as goal

pub returns-then-member : goal.returns-then-member
returns-then-member c n nodes h l a = pair-there n _ _ _ nodes l a _ (ap (member _) (sym c.index.ensures) ∙ sym c.member.ensures ∙ c.if-member.true) (c.nominal.ensures n nodes h a)

pub returns-else-member : goal.returns-else-member
returns-else-member c n nodes h l a = pair-gone n _ _ _ nodes l a (ap (member _) (sym c.index.ensures) ∙ sym c.member.ensures ∙ c.if-member.false)
