use Rattle.std.proofs.Common.{sym, ap, ◌∙◌}
use Rattle.answer.specs.Answers.{asked}
use Rattle.plan_store.specs.Questions.{ask_name_def}
use Rattle.plan_store.proofs.Asks.{first_stops, name-low, name-high, name-right}
use Rattle.plan_store.proofs.ask_name.Goals as goal
use Rattle.plan_store.proofs.ask_name.Goals.{then-name-lt1-via-then-name-lt1, then-name-lt1-via-else-name-lt1+then-name-gt-NAMES}

pub returns-in_default : goal.returns-in_default
returns-in_default c = unfold ask_name_def in first_stops _ _ c.in_default.is c.check-sound.ensures

-- the store is sound
pub returns-then-name-lt1 : goal.returns-then-name-lt1
returns-then-name-lt1 c =
    let sound = sym c.check-sound.ensures ∙ ap asked c.in-Done.is in
    elim c.then-name-lt1.branch [
      | then-name-lt1-via-then-name-lt1 w ↦ name-low _ _ sound w.if-name-lt1.true
      | then-name-lt1-via-else-name-lt1+then-name-gt-NAMES w ↦ name-high _ _ sound w.if-name-gt-NAMES.true
    ]

pub returns : goal.returns
returns c = name-right _ _ (sym c.check-sound.ensures ∙ ap asked c.in-Done.is) c.if-name-lt1.false c.if-name-gt-NAMES.false
