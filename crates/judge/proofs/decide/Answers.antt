use mathlib.Core.Path.{sym, ap, ◌∙◌}
use Rattle.answer.specs.Answers.{asked}
use Rattle.judge.proofs.SheetAndBook.{sheet-refused, book-refused, book-learned, rules_stand}
use Rattle.judge.proofs.Deciding.{judge-refused, judge-found}
use Rattle.judge.proofs.decide.Goals as goal

-- the sheet is refused
pub returns-in_default : goal.returns-in_default
returns-in_default c =
    let no = c.in_default.is in let v = c.without_rule.ensures in
    let s = judge-refused _ _ (sheet-refused _ _ c.check-first.ensures no) in (ap asked (v.0 ∙ no) ∙ s.0, v.1 ∙ s.1)

-- the book is refused
pub returns-in_default-second : goal.returns-in_default-second
returns-in_default-second c =
    let s = sym c.check-first.ensures ∙ ap asked c.in-Done.is in let no = c.in_default-second.is in
    let v = c.without_rule-in_default-second.ensures in
    let b = judge-refused _ _ (book-refused _ _ s c.node_count.ensures.0 c.check_book-second.ensures no) in (ap asked (v.0 ∙ no) ∙ b.0, v.1 ∙ b.1)

pub judge_rules-requires : goal.judge_rules-requires
judge_rules-requires c =
    let s = sym c.check-first.ensures ∙ ap asked c.in-Done.is in
    let k = book-learned _ _ s c.node_count.ensures.0 c.check_book-second.ensures c.in-Done-second.is in
    (s, record { what = k.what; stand = rules_stand _ _ k.is })

pub returns : goal.returns
returns c =
    let s = sym c.check-first.ensures ∙ ap asked c.in-Done.is in
    let k = book-learned _ _ s c.node_count.ensures.0 c.check_book-second.ensures c.in-Done-second.is in
    judge-found _ _ k.is (c.judge_rules.ensures k.what (rules_stand _ _ k.is))
