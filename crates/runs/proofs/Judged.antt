-- A sheet keeps a book exactly when judge answers done.
use mathlib.Core.Path.{◌≡◌}
use mathlib.Core.Logic.{◌↔◌}
use mathlib.Core.List.{List}
use Prim.Native.Nat.{ℕ}
use Rattle.answer.specs.Asked.{passed, ◌>>=◌, ◌>>◌}
use Rattle.sheet.specs.Sheet.{graph_of}
use Rattle.sheet.specs.Questions.{ask_sheet}
use Rattle.text.specs.Reading.{text_limits}
use Rattle.text.specs.Questions.{ask_book}
use Rattle.judge.specs.Questions.{ask_sheet_and_book, ask_rules, ask_judge}
use Rattle.runs.specs.Run.{Keeps}
use Rattle.answer.proofs.AskedLaws.{bind-passed, then-passed}
use Rattle.judge.proofs.QuestionLaws.{hold-asked, asked-hold}

pub judge_says_kept : (sheet book : List ℕ) → (ask_judge sheet book ≡ passed tt) ↔ Keeps book sheet
unfolding ask_judge ask_sheet_and_book ◌>>=◌ ◌>>◌
judge_says_kept sheet book = (keeps, judged) where
  keeps : ask_judge sheet book ≡ passed tt → Keeps book sheet
  keeps e =
      let (rules, asked, hold) = bind-passed (ask_sheet_and_book sheet book) (λ rules. ask_rules (graph_of sheet) rules 0) tt e in
      let (u, sound, read) = then-passed (ask_sheet sheet) (ask_book (text_limits (graph_of sheet).n) book) rules asked in
      record { sound = sound; rules = rules; book_read = read; hold = asked-hold (graph_of sheet) rules 0 hold }

  judged : Keeps book sheet → ask_judge sheet book ≡ passed tt
  judged k = rw (k.sound, k.book_read) (hold-asked (graph_of sheet) k.rules 0 k.hold)
