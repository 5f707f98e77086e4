use Rattle.std.proofs.Common.{sym, ap, ◌∙◌, ℕ}
use Rattle.sheet.specs.Sheet.{sheet_bytes}
use Rattle.sheet.specs.Masks.{zeros_at}
use Rattle.answer.specs.Answers.{asked}
use Rattle.answer.specs.declared.Answer.{Answer}
use Rattle.plan_store.specs.Questions.{is_passed}
use Rattle.plan_store.proofs.Asks.{place-part, place-unfilled, place-filled}
use Rattle.plan_store.proofs.place_right.Goals as goal

pub returns-else-member : goal.returns-else-member
returns-else-member c =
    c.zeros.ensures ∙ ap (λ (k : ℕ). zeros_at c.args.store.now k sheet_bytes) c.place_range-at.ensures.0
    ∙ place-unfilled _ _ _ c.from.ensures (sym c.member.ensures ∙ c.if-member.false)

-- the place is checked as a sheet
pub returns-in-Done : goal.returns-in-Done
returns-in-Done c =
    let r = c.place_range-at.ensures in
    let checked = place-filled _ _ _ c.from.ensures c.check.result _ (sym c.member.ensures ∙ c.if-member.true) (place-part c.args.store.now c.args.place _ _ r.0 r.1) c.check.ensures in
    sym (ap (λ (a : Answer). is_passed (asked a)) c.in-Done.is) ∙ checked

pub returns-in_default : goal.returns-in_default
returns-in_default c =
    let r = c.place_range-at.ensures in
    let checked = place-filled _ _ _ c.from.ensures c.check.result _ (sym c.member.ensures ∙ c.if-member.true) (place-part c.args.store.now c.args.place _ _ r.0 r.1) c.check.ensures in
    sym (ap (λ (a : Answer). is_passed (asked a)) c.in_default.is) ∙ checked
