use Rattle.std.proofs.Common.{ap, ◌∙◌, ℕ, arith}
use Rattle.logic.specs.Steps.{update}
use Rattle.bitset.specs.Words.{set_of, member}
use Rattle.plan_store.specs.Store.{plan_count, head_block}
use Rattle.plan_store.proofs.StoreHead.{head-told, renamed}
use Rattle.plan_store.proofs.put_name.Goals as goal

pub with_name-requires : goal.with_name-requires
with_name-requires c = (omega (arith, c.from.ensures, (head-told _ c.requires.1).low), c.requires.2)

pub returns : goal.returns
returns c =
    c.seal.ensures ∙ renamed _ c.requires.0 (head-told _ c.requires.1) c.with_name.result ∙ ap head_block c.with_name.ensures.0
    ∙ ap (λ (x : ℕ). head_block (set_of plan_count (update (member x) c.args.place c.args.used))) c.from.ensures
