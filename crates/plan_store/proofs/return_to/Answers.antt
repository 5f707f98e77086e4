use Rattle.std.proofs.Common.{sym, ap, ◌∙◌, ◌-◌, List, ℕ, arith, length, rules}
use Rattle.answer.specs.Answers.{asked}
use Rattle.answer.proofs.AskedLaws.{then-on}
use Rattle.sheet.specs.Sheet.{present}
use Rattle.sheet.proofs.SoundWords.{sound-length}
use Rattle.plan_store.specs.Questions.{ask_kept, ask_return}
use Rattle.plan_store.specs.Calls.{returned_sheet}
use Rattle.plan_store.proofs.Asks.{first_stops, filled-told, place-part}
use Rattle.plan_store.proofs.StorePlaces.{length-place}
use Rattle.plan_store.proofs.StoreLaws.{place-sound}
use Rattle.plan_store.proofs.StoreStages.{stops, goes}
use Rattle.plan_store.proofs.return_to.Goals as goal

pub returns-in_default : goal.returns-in_default
unfolding returned_sheet ask_return
returns-in_default c =
    let w = stops _ _ _ c.in_default.is (first_stops _ _ c.in_default.is c.check-sound.ensures) in
    record { result_value = w.0; sheet_after = w.1 }

-- the sheet has passed
pub returns-in_default-held : goal.returns-in_default-held
unfolding returned_sheet ask_return
returns-in_default-held c =
    let sound = sym c.check-sound.ensures ∙ ap asked c.in-Done.is in
    let w = stops _ _ _ c.in_default-held.is (first_stops _ _ c.in_default-held.is c.ask_filled-held.ensures ∙ sym (then-on sound _)) in
    record { result_value = w.0; sheet_after = w.1 }

-- so has the name
pub overflow_sub-name : goal.overflow_sub-name
overflow_sub-name c = let k = filled-told _ _ (sym c.ask_filled-held.ensures ∙ ap asked c.in-Done-held.is) in omega arith

pub slice_bounds-kept-end : goal.slice_bounds-kept-end
slice_bounds-kept-end c = let k = filled-told _ _ (sym c.ask_filled-held.ensures ∙ ap asked c.in-Done-held.is) in omega arith

pub judge_kept-judged-requires : goal.judge_kept-judged-requires
judge_kept-judged-requires c =
    let store = c.args.store.now in
    let r = c.place_range.ensures in
    let place = c.args.name - 1 in
    let k = filled-told store c.args.name (sym c.ask_filled-held.ensures ∙ ap asked c.in-Done-held.is) in
    rw (place-part store place _ _ r.0 r.1) (place-sound store (λ p. search rules) k.named.sound place k.place k.held)

-- the kept sheet is judged
pub returns-in_default-judged : goal.returns-in_default-judged
unfolding returned_sheet ask_return
returns-in_default-judged c =
    let store = c.args.store.now in
    let r = c.place_range.ensures in
    let sound = sym c.check-sound.ensures ∙ ap asked c.in-Done.is in
    let passes = sym c.ask_filled-held.ensures ∙ ap asked c.in-Done-held.is in
    let judged = c.judge_kept-judged.ensures ∙ ap (λ (k : List ℕ). ask_kept k c.args.book.now) (place-part store (c.args.name - 1) _ _ r.0 r.1) ∙ sym (then-on sound _ ∙ then-on passes _) in
    let w = stops _ _ _ c.in_default-judged.is judged in
    record { result_value = w.0; sheet_after = w.1 }

pub place_range-requires : goal.place_range-requires
place_range-requires c = (filled-told _ _ (sym c.ask_filled-held.ensures ∙ ap asked c.in-Done-held.is)).place

pub copy_from_slice-requires : goal.copy_from_slice-requires
copy_from_slice-requires c =
    let store = c.args.store.now in
    let r = c.place_range.ensures in
    let place = c.args.name - 1 in
    let sound = sym c.check-sound.ensures ∙ ap asked c.in-Done.is in
    let k = filled-told store c.args.name (sym c.ask_filled-held.ensures ∙ ap asked c.in-Done-held.is) in
    sound-length present _ sound ∙ sym (ap length (place-part store place _ _ r.0 r.1) ∙ length-place store k.named.size place k.place)

pub returns : goal.returns
unfolding returned_sheet ask_return
returns c =
    let store = c.args.store.now in
    let r = c.place_range.ensures in
    let place = c.args.name - 1 in
    let sound = sym c.check-sound.ensures ∙ ap asked c.in-Done.is in
    let passes = sym c.ask_filled-held.ensures ∙ ap asked c.in-Done-held.is in
    let judged = c.judge_kept-judged.ensures ∙ ap (λ (k : List ℕ). ask_kept k c.args.book.now) (place-part store place _ _ r.0 r.1) ∙ sym (then-on sound _ ∙ then-on passes _) in
    let w = goes _ _ _ (sym judged ∙ ap asked c.in-Done-judged.is) (c.copy_from_slice.ensures.after ∙ place-part store place _ _ r.0 r.1) in
    record { result_value = w.0; sheet_after = w.1 }
