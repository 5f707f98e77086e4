use mathlib.Core.Bool.{not, ◌&&◌, ◌||◌, and-true, and-false, or-true, or-false}
use mathlib.Core.Path.{sym, ◌∙◌}
use Rattle.close_node.proofs.Uses.{word-used}
use Rattle.close_node.proofs.with_use.Goals as goal

pub returns-then-used : goal.returns-then-used
returns-then-used c = λ g h l a.
    word-used g _ _ ◌||◌ (λ b. or-true b ∙ sym c.if-used.true) or-false _ _ _ h l a c.only-one.ensures c.either.ensures

pub returns-else-used : goal.returns-else-used
returns-else-used c = λ g h l a.
    word-used g _ _ (λ x y. x && not y) (λ b. and-false b ∙ sym c.if-used.false) and-true _ _ _ h l a c.only-one.ensures c.minus.ensures
