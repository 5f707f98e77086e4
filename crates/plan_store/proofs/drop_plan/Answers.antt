use Rattle.std.proofs.Common.{sym, ap, ◌∙◌, ◌-◌, arith, length, rules}
use Rattle.answer.specs.Answers.{asked}
use Rattle.plan_store.specs.Store.{unfilled}
use Rattle.plan_store.specs.Calls.{dropped_store}
use Rattle.plan_store.proofs.Asks.{filled-told, place-part}
use Rattle.plan_store.proofs.StorePlaces.{length-place}
use Rattle.plan_store.proofs.StoreWrites.{zero-plan, place-written}
use Rattle.plan_store.proofs.StoreStages.{stops, goes}
use Rattle.plan_store.proofs.drop_plan.Goals as goal

pub returns-in_default : goal.returns-in_default
unfolding dropped_store
returns-in_default c =
    let w = stops _ _ _ c.in_default.is c.ask_filled-held.ensures in
    record { result_value = w.0; store_after = w.1 }

-- the questions have passed
pub overflow_sub-place : goal.overflow_sub-place
overflow_sub-place c = let k = filled-told _ _ (sym c.ask_filled-held.ensures ∙ ap asked c.in-Done.is) in omega arith

pub slice_bounds-wipe-end : goal.slice_bounds-wipe-end
slice_bounds-wipe-end c = let k = filled-told _ _ (sym c.ask_filled-held.ensures ∙ ap asked c.in-Done.is) in omega arith

pub place_range-requires : goal.place_range-requires
place_range-requires c = (filled-told _ _ (sym c.ask_filled-held.ensures ∙ ap asked c.in-Done.is)).place

-- the place is wiped
pub put_name-requires : goal.put_name-requires
put_name-requires c =
    let store = c.args.store.now in
    let place = c.args.name - 1 in
    let r = c.place_range.ensures in
    let k = filled-told store c.args.name (sym c.ask_filled-held.ensures ∙ ap asked c.in-Done.is) in
    let size = ap length (place-part store place _ _ r.0 r.1) ∙ length-place store k.named.size place k.place in
    let w = place-written store (λ p. search rules) k.named.sound place k.place _ _ r.0 r.1 unfilled c.wipe.new.s (zero-plan c.wipe.new.s _ c.wipe.ensures size) in
    (w.head-size, w.head-right, k.place)

pub returns : goal.returns
unfolding dropped_store
returns c =
    let store = c.args.store.now in
    let place = c.args.name - 1 in
    let r = c.place_range.ensures in
    let passes = sym c.ask_filled-held.ensures ∙ ap asked c.in-Done.is in
    let k = filled-told store c.args.name passes in
    let size = ap length (place-part store place _ _ r.0 r.1) ∙ length-place store k.named.size place k.place in
    let w = place-written store (λ p. search rules) k.named.sound place k.place _ _ r.0 r.1 unfilled c.wipe.new.s (zero-plan c.wipe.new.s _ c.wipe.ensures size) in
    let g = goes _ _ _ passes (w.headed _ c.put_name.ensures) in
    record { result_value = g.0; store_after = g.1 }
