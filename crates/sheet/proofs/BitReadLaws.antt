-- A bit read: the questions about the sheet, then 7.
use mathlib.Core.Path.{◌≡◌, sym, ap, ◌∙◌}
use mathlib.Core.List.{List}
use Prim.Native.Nat.{ℕ}
use Rattle.answer.specs.declared.Answer.{Answer}
use Rattle.answer.specs.declared.Answer.TheVariants.{Done}
use Rattle.answer.specs.Answers.{asked}
use Rattle.sheet.specs.Sheet.{SheetForm}
use Rattle.sheet.specs.Questions.{ask_sheet_in, SoundIn}

pub done-sound : (φ : SheetForm) (t : List ℕ) (a : Answer) → asked a ≡ ask_sheet_in φ t → a ≡ Done → SoundIn φ t
done-sound φ t a e d = sym e ∙ ap asked d
