use Rattle.std.proofs.Common.{sym, ◌∙◌, not, ◌&&◌, ◌||◌, arith}
use mathlib.Core.Bool.{and-true, and-false, or-true, or-false}
use Rattle.logic.specs.Steps.{update}
use Rattle.bitset.specs.Words.{member}
use Rattle.bitset.proofs.SetLaws.{set_of-lt}
use Rattle.plan_store.specs.Store.{plan_count}
use Rattle.plan_store.proofs.StoreWrites.{names-with}
use Rattle.plan_store.proofs.with_name.Goals as goal

-- one name put in or taken out, by what the word's operation makes of it
pub returns-then-used : goal.returns-then-used
returns-then-used c =
    let s = c.args in
    let w = names-with _ c.requires.0 _ c.requires.1 s.used ◌||◌ (λ b. or-true b ∙ sym c.if-used.true) or-false _ _ c.only-one.ensures c.either.ensures in
    (w, omega (arith, w, set_of-lt plan_count (update (member s.names) s.place s.used)))

pub returns-else-used : goal.returns-else-used
returns-else-used c =
    let s = c.args in
    let w = names-with _ c.requires.0 _ c.requires.1 s.used (λ x y. x && not y) (λ b. and-false b ∙ sym c.if-used.false) and-true _ _ c.only-one.ensures c.minus.ensures in
    (w, omega (arith, w, set_of-lt plan_count (update (member s.names) s.place s.used)))
