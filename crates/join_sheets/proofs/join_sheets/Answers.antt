use mathlib.Core.Path.{sym, ap, ◌∙◌}
use Rattle.answer.specs.Answers.{asked}
use Rattle.join_sheets.proofs.JoinStages.{joins, joined_is, refused-stays}
use Rattle.join_sheets.proofs.join_sheets.Goals as goal

pub returns-in_default-clause-first_after : goal.returns-in_default-clause-first_after
returns-in_default-clause-first_after c = sym (refused-stays _ _ _ _ (sym c.ask-answer.ensures ∙ ap asked c.in_default.is))

pub join_blocks-requires : goal.join_blocks-requires
join_blocks-requires c = let q = joins _ _ (sym c.ask-answer.ensures ∙ ap asked c.in-Done.is) in (q.first-sound, q.second-sound, q.few)

pub returns-clause-first_after : goal.returns-clause-first_after
returns-clause-first_after c = c.join_blocks.ensures ∙ sym (joined_is _ _ (sym c.ask-answer.ensures ∙ ap asked c.in-Done.is))
