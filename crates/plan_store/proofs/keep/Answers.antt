use Rattle.std.proofs.Common.{sym, ap, ◌∙◌, ◌-◌, arith, length, rules}
use Rattle.answer.specs.Answers.{asked}
use Rattle.answer.proofs.AskedLaws.{then-on}
use Rattle.sheet.specs.Sheet.{present, graph_of}
use Rattle.sheet.proofs.SoundWords.{sound-length}
use Rattle.plan_store.specs.Store.{filled}
use Rattle.plan_store.specs.Questions.{ask_keep}
use Rattle.plan_store.specs.Calls.{kept_store}
use Rattle.plan_store.proofs.Asks.{first_stops, name-told, place-part}
use Rattle.plan_store.proofs.StorePlaces.{length-place}
use Rattle.plan_store.proofs.StoreWrites.{sheet-plan, place-written}
use Rattle.plan_store.proofs.StoreStages.{stops, goes}
use Rattle.plan_store.proofs.keep.Goals as goal

pub returns-in_default : goal.returns-in_default
unfolding kept_store ask_keep
returns-in_default c =
    let w = stops _ _ _ c.in_default.is (first_stops _ _ c.in_default.is c.check-sound.ensures) in
    record { result_value = w.0; store_after = w.1 }

-- the sheet has passed
pub returns-in_default-named : goal.returns-in_default-named
unfolding kept_store ask_keep
returns-in_default-named c =
    let sound = sym c.check-sound.ensures ∙ ap asked c.in-Done.is in
    let w = stops _ _ _ c.in_default-named.is (c.ask_name-named.ensures ∙ sym (then-on sound _)) in
    record { result_value = w.0; store_after = w.1 }

-- so has the name
pub overflow_sub-place : goal.overflow_sub-place
overflow_sub-place c = let k = name-told _ _ (sym c.ask_name-named.ensures ∙ ap asked c.in-Done-named.is) in omega arith

pub slice_bounds-copy_from_slice-end : goal.slice_bounds-copy_from_slice-end
slice_bounds-copy_from_slice-end c = let k = name-told _ _ (sym c.ask_name-named.ensures ∙ ap asked c.in-Done-named.is) in omega arith

pub place_range-requires : goal.place_range-requires
place_range-requires c = (name-told _ _ (sym c.ask_name-named.ensures ∙ ap asked c.in-Done-named.is)).place

pub copy_from_slice-requires : goal.copy_from_slice-requires
copy_from_slice-requires c =
    let store = c.args.store.now in
    let place = c.args.name - 1 in
    let r = c.place_range.ensures in
    let k = name-told store c.args.name (sym c.ask_name-named.ensures ∙ ap asked c.in-Done-named.is) in
    let sound = sym c.check-sound.ensures ∙ ap asked c.in-Done.is in
    ap length (place-part store place _ _ r.0 r.1) ∙ length-place store k.size place k.place ∙ sym (sound-length present _ sound)

-- the sheet is copied to its place
pub put_name-requires : goal.put_name-requires
put_name-requires c =
    let store = c.args.store.now in
    let sheet = c.args.sheet.now in
    let place = c.args.name - 1 in
    let r = c.place_range.ensures in
    let k = name-told store c.args.name (sym c.ask_name-named.ensures ∙ ap asked c.in-Done-named.is) in
    let sound = sym c.check-sound.ensures ∙ ap asked c.in-Done.is in
    let plan = sheet-plan sheet c.copy_from_slice.new.self (λ p. search rules) sound c.copy_from_slice.ensures.after in
    let w = place-written store (λ p. search rules) k.sound place k.place _ _ r.0 r.1 (filled (graph_of sheet)) c.copy_from_slice.new.self plan in
    (w.head-size, w.head-right, k.place)

pub returns : goal.returns
unfolding kept_store ask_keep
returns c =
    let store = c.args.store.now in
    let sheet = c.args.sheet.now in
    let place = c.args.name - 1 in
    let r = c.place_range.ensures in
    let passes = sym c.ask_name-named.ensures ∙ ap asked c.in-Done-named.is in
    let k = name-told store c.args.name passes in
    let sound = sym c.check-sound.ensures ∙ ap asked c.in-Done.is in
    let plan = sheet-plan sheet c.copy_from_slice.new.self (λ p. search rules) sound c.copy_from_slice.ensures.after in
    let w = place-written store (λ p. search rules) k.sound place k.place _ _ r.0 r.1 (filled (graph_of sheet)) c.copy_from_slice.new.self plan in
    let g = goes _ _ _ (then-on sound _ ∙ passes) (w.headed _ c.put_name.ensures) in
    record { result_value = g.0; store_after = g.1 }
