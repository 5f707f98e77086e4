use Rattle.std.proofs.Common.{sym, ap, ◌∙◌, arith}
use Rattle.answer.specs.Asked.{is}
use Rattle.answer.specs.Answers.{asked}
use Rattle.plan_store.specs.Questions.{ask_filled_def}
use Rattle.plan_store.proofs.Asks.{first_stops, filled-asked, name-told}
use Rattle.plan_store.proofs.ask_filled.Goals as goal

pub returns-in_default : goal.returns-in_default
returns-in_default c = unfold ask_filled_def in first_stops _ _ c.in_default.is c.ask_name-named.ensures

-- the name has passed
pub bounds-store-1 : goal.bounds-store-1
bounds-store-1 c = let k = name-told _ _ (sym c.ask_name-named.ensures ∙ ap asked c.in-Done.is) in omega arith

pub overflow_sub-name : goal.overflow_sub-name
overflow_sub-name c = let k = name-told _ _ (sym c.ask_name-named.ensures ∙ ap asked c.in-Done.is) in omega arith

pub member-requires : goal.member-requires
member-requires c = let k = name-told _ _ (sym c.ask_name-named.ensures ∙ ap asked c.in-Done.is) in omega arith

pub returns-then-member : goal.returns-then-member
unfolding is
returns-then-member c = filled-asked _ _ (sym c.ask_name-named.ensures ∙ ap asked c.in-Done.is) c.from.ensures _ (sym c.member.ensures ∙ c.if-member.true)

pub returns : goal.returns
unfolding is
returns c = filled-asked _ _ (sym c.ask_name-named.ensures ∙ ap asked c.in-Done.is) c.from.ensures _ (sym c.member.ensures ∙ c.if-member.false)
