-- Many calls check sheet and book first: the answers of the two checks settle `ask_sheet_and_book`, and what that settles for the rules.
use mathlib.Core.Path.{◌≡◌, refl, sym, ap, ◌∙◌}
use mathlib.Core.List.{List}
use Prim.Native.Nat.{ℕ}
use lib.ListN.{length}
use native.Mathlib.Omega.{arith}
use Rattle.logic.specs.Syntax.{Expr, rule}
use Rattle.logic.specs.Limits.{ranges}
use Rattle.answer.specs.declared.Refusal.{Refusal}
use Rattle.answer.specs.declared.Answer.{Answer}
use Rattle.answer.specs.declared.Answer.TheVariants.{Done, Refused}
use Rattle.answer.specs.Asked.{Asked, passed, refused, ◌>>◌, outcome}
use Rattle.answer.specs.Answers.{asked, refusal_number_def, refusal_place_def}
use Rattle.answer.proofs.AnswerLaws.{Learned, learned, not-learned}
use Rattle.sheet.specs.Sheet.{graph_of}
use Rattle.sheet.specs.Questions.{ask_sheet, Sound}
use Rattle.text.specs.Reading.{text_limits}
use Rattle.text.specs.Questions.{ask_book}
use Rattle.judge.specs.Questions.{ask_sheet_and_book}
use Rattle.judge.specs.Judging.{RulesStand}
use Rattle.judge.proofs.RulesJudged.{read-book-stands}

-- An answer to some questions that is done, and one that is a refusal.
module _ {A : Type 0} {q : Asked A} {a : Answer} (h : asked a ≡ outcome q) where
  pub done-learned : a ≡ Done → Learned q
  done-learned d = learned q (sym (ap asked d) ∙ h)

  pub refused-asked : {r : Refusal} → a ≡ Refused r → q ≡ refused (refusal_number_def r) (refusal_place_def r)
  refused-asked e = not-learned q _ _ (sym (ap asked e) ∙ h)

module _ (sheet book : List ℕ) where
  pub sheet-refused : {a : Answer} {r : Refusal} → asked a ≡ ask_sheet sheet → a ≡ Refused r → ask_sheet_and_book sheet book ≡ refused (refusal_number_def r) (refusal_place_def r)
  sheet-refused h e = unfold ask_sheet_and_book ◌>>◌ in rw (← h, e)

  module _ {n : ℕ} (sound : Sound sheet) (count : n ≡ (graph_of sheet).n) where
    book-same : ask_sheet_and_book sheet book ≡ ask_book (text_limits n) book
    book-same = unfold ask_sheet_and_book ◌>>◌ in rw (sound, count)

    module _ {a : Answer} (h : asked a ≡ outcome (ask_book (text_limits n) book)) where
      pub book-refused : {r : Refusal} → a ≡ Refused r → ask_sheet_and_book sheet book ≡ refused (refusal_number_def r) (refusal_place_def r)
      book-refused e = book-same ∙ refused-asked h e

      pub book-learned : a ≡ Done → Learned (ask_sheet_and_book sheet book)
      book-learned d = let l = done-learned h d in record { what = l.what; is = book-same ∙ l.is }

  module _ {rules : List (Expr rule)} (e : ask_sheet_and_book sheet book ≡ passed rules) where
    both-passed : Sound sheet × (ask_book (text_limits (graph_of sheet).n) book ≡ passed rules)
    unfolding ask_sheet_and_book ◌>>◌
    both-passed = go (ask_sheet sheet) e where
      go : (x : Asked (Unit {0})) → (x >> ask_book (text_limits (graph_of sheet).n) book) ≡ passed rules → (x ≡ passed tt) × (ask_book (text_limits (graph_of sheet).n) book ≡ passed rules)
      go (passed u) p = (refl, p)
      go (refused q o) p = let z : ◌≡◌ {A = ℕ} 0 1 = cc in absurd (omega arith)

    pub sheet-sound : Sound sheet
    sheet-sound = both-passed.0

    pub book-passed : ask_book (text_limits (graph_of sheet).n) book ≡ passed rules
    book-passed = both-passed.1

    pub rules_stand : RulesStand (ranges (graph_of sheet).n) book 0 (length book) rules
    rules_stand = read-book-stands (text_limits (graph_of sheet).n) book-passed
