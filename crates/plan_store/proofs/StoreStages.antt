-- What the calls answer and leave, by where they stop.
use mathlib.Core.Path.{◌≡◌, sym}
use mathlib.Core.List.{List}
use Prim.Native.Nat.{ℕ}
use Rattle.answer.specs.Asked.{Asked, passed, ◌>>◌, after}
use Rattle.answer.specs.Answers.{asked}
use Rattle.answer.specs.declared.Refusal.{Refusal}
use Rattle.answer.specs.declared.Answer.{Answer}
use Rattle.answer.specs.declared.Answer.TheVariants.{Refused}
use Rattle.sheet.specs.Questions.{Sound}
use Rattle.judge.specs.Questions.{ask_sheet_and_book, ask_judge}
use Rattle.plan_store.specs.Questions.{ask_kept}

-- a question refuses: the buffer stays; all pass: it holds what the call makes
module _ (x : Asked (Unit {0})) (made before : List ℕ) where
  pub stops : {a : Answer} {r : Refusal} → a ≡ Refused r → asked a ≡ x → (asked a ≡ x) × (before ≡ after x (λ u. made) before)
  stops e s = unfold after in (s, rw (← s, e))

  pub goes : {t : List ℕ} → x ≡ passed tt → t ≡ made → (passed tt ≡ x) × (t ≡ after x (λ u. made) before)
  goes e d = unfold after in (sym e, rw e d)

-- for a sound kept sheet, reading the book with its n and judging it there is judge
pub kept-judged : (kept book : List ℕ) → Sound kept → ask_judge kept book ≡ ask_kept kept book
kept-judged kept book sound = unfold ask_judge ask_kept ask_sheet_and_book ◌>>◌ in rw sound
