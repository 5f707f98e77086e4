use mathlib.Core.Path.{◌≡◌, sym, ap, ◌∙◌}
use mathlib.Core.List.{List}
use Prim.Native.Nat.{ℕ}
use lib.ListN.{length-replicate}
use Rattle.answer.specs.declared.Answer.{Answer}
use Rattle.answer.specs.declared.Answer.TheVariants.{Done}
use Rattle.answer.specs.Asked.{outcome}
use Rattle.answer.specs.Answers.{asked}
use Rattle.answer.proofs.AnswerLaws.{Learned, learned}
use Rattle.logic.specs.Limits.{max_nodes}
use Rattle.text.specs.Reading.{carried_limits_def}
use Rattle.text.specs.Questions.{ask_rule}
use Rattle.check_steps.proofs.CheckStages.{rule-refused, rule-short, rule-there, answer-compared, answer-unfit}
use Rattle.check_steps.proofs.check_steps.Goals as goal

-- The carried rule that was read.
read : (carried : List ℕ) {a : Answer} → asked a ≡ outcome (ask_rule (carried_limits_def max_nodes) carried) → a ≡ Done → Learned (ask_rule (carried_limits_def max_nodes) carried)
read carried q is = learned _ (sym (ap asked is) ∙ q)

pub returns-in-Refused : goal.returns-in-Refused
returns-in-Refused c = rule-refused _ _ _ _ _ c.check_carried_rule-answer.ensures c.in-Refused.is

pub raise_numbers-requires : goal.raise_numbers-requires
raise_numbers-requires c = rule-short _ (read _ c.check_carried_rule-answer.ensures c.in_default.is)

-- It is in the work text.
pub make_steps-requires : goal.make_steps-requires
make_steps-requires c =
    record { what = _; stands = rule-there _ (read _ c.check_carried_rule-answer.ensures c.in_default.is) _ (length-replicate {A = ℕ} 16384 0) c.raise_numbers.ensures }

-- What the steps make of it: the text to compare, or the step that does not fit.
pub slice_bounds-compare-end : goal.slice_bounds-compare-end
slice_bounds-compare-end c =
    let r = read _ c.check_carried_rule-answer.ensures c.in_default.is in
    let s = rule-there _ r _ (length-replicate {A = ℕ} 16384 0) c.raise_numbers.ensures in
    (c.in-Ok.ensures r.what s).stands.room

pub returns-in-Ok : goal.returns-in-Ok
returns-in-Ok c =
    let r = read _ c.check_carried_rule-answer.ensures c.in_default.is in
    let s = rule-there _ r _ (length-replicate {A = ℕ} 16384 0) c.raise_numbers.ensures in
    answer-compared _ r _ _ (c.in-Ok.ensures r.what s) c.compare.result c.compare.ensures

pub returns-in-Err : goal.returns-in-Err
returns-in-Err c =
    let r = read _ c.check_carried_rule-answer.ensures c.in_default.is in
    let s = rule-there _ r _ (length-replicate {A = ℕ} 16384 0) c.raise_numbers.ensures in
    answer-unfit _ r _ _ (c.in-Err.ensures r.what s)
