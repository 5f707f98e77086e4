-- What callers may rely on (item 2 of document 02): a call that asks the sheet's questions first answers what they refuse.
use Rattle.std.specs.Prelude.{◌≡◌, List, ℕ}
use Rattle.answer.specs.Asked.{Asked, refused}
use Rattle.sheet.specs.Questions.{ask_sheet}

-- The questions of a call, as a function of the sheet passed to it.
pub record AsksSheetFirst {A : Type 0} (call : List ℕ → Asked A) : Type 0 where
  pub first : (sheet : List ℕ) (number place : ℕ) → ask_sheet sheet ≡ refused number place → call sheet ≡ refused number place
