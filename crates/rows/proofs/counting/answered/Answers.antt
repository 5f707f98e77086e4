use mathlib.Core.Path.{refl, ◌∙◌}
use mathlib.Core.Bool.{not, ◌&&◌}
use borrow.Author.Rules.{rules}
use Rattle.rows.proofs.Quantifiers.{answered-sets}
use Rattle.rows.proofs.counting.answered.Goals as goal

pub returns-in-8 : goal.returns-in-8
returns-in-8 c n p h l e = c.both.ensures ∙ answered-sets c.args.c n _ _ ◌&&◌ p h l e refl (λ a b. search rules)

pub returns-in_default : goal.returns-in_default
returns-in_default c n p h l e = c.minus.ensures ∙ answered-sets c.args.c n _ _ (λ a b. a && not b) p h l e refl (λ a b. search rules)
