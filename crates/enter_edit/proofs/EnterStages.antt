-- Where entering stops, and what sheet and scratch then hold.
use mathlib.Core.Path.{◌≡◌, refl, ◌∙◌, ap}
use mathlib.Core.List.{List}
use Prim.Native.Nat.{ℕ}
use lib.ListN.{length}
use Rattle.answer.specs.Asked.{Asked, passed, refused, ◌>>=◌, ◌>>◌, after, outcome}
use Rattle.answer.specs.Answers.{asked, refusal_number_def, refusal_place_def}
use Rattle.answer.specs.declared.Refusal.{Refusal}
use Rattle.answer.specs.declared.Answer.{Answer}
use Rattle.answer.specs.declared.Answer.TheVariants.{Done, Refused}
use Rattle.logic.specs.Syntax.{Expr, rule, Edit}
use Rattle.logic.specs.Carry.{carried_book}
use Rattle.logic.specs.Limits.{ranges}
use Rattle.sheet.specs.Sheet.{graph_of}
use Rattle.text.specs.Reading.{text_limits}
use Rattle.text.specs.Questions.{ask_edit}
use Rattle.text.proofs.TextSpelling.{rules-in-range, book-is-spelled, read-edit-stands}
use Rattle.judge.specs.Questions.{ask_rules, ask_sheet_and_book}
use Rattle.judge.proofs.SheetAndBook.{book-passed}
use Rattle.runs.specs.Scratch.{ask_scratch, writings}
use Rattle.enter_edit.specs.Singly.{BothRead, Singly}
use Rattle.apply.specs.Apply.{after_steps}
use Rattle.runs.specs.Enter.{ask_before41, ask_enter, enter_answer, enter_sheet, enter_scratch}

-- Sheet, book and edit have passed their questions.
pub record AllRead (s b e : List ℕ) : Type 0 where
  pub rules : List (Expr rule)
  pub steps : Edit
  pub book-is : ask_sheet_and_book s b ≡ passed rules
  pub steps-are : ask_edit (text_limits (graph_of s).n) e ≡ passed steps

pub both_read : {s b e : List ℕ} (k : AllRead s b e) → BothRead (ranges (graph_of s).n) b e k.rules k.steps
both_read {s} {b} k =
    let l = text_limits (graph_of s).n in let h = (book-is-spelled l b k.rules (book-passed s b k.book-is)).spells in
    record { is = h.text-is; range = rules-in-range l k.rules h.rules; few = h.few; stands = read-edit-stands l k.steps-are }

module _ (s b e scratch : List ℕ) where
  -- What enter answers and leaves, by its contract.
  abbrev pub Left : Answer → List ℕ → List ℕ → Type 0
  Left a s' scratch' = (asked a ≡ enter_answer s b e (length scratch)) × ((s' ≡ enter_sheet s b e (length scratch)) × (scratch' ≡ enter_scratch s b e scratch))

  -- A refusal before 41 leaves everything as it was: for sheet or book, or for the edit.
  pub book-stops : {a : Answer} {r : Refusal} → ask_sheet_and_book s b ≡ refused (refusal_number_def r) (refusal_place_def r) → a ≡ Refused r → Left a s scratch
  book-stops q p = unfold enter_sheet enter_scratch ask_enter ask_before41 after outcome ◌>>=◌ in rw (p, q) (refl, (refl, refl))

  pub edit-stops : {rules : List (Expr rule)} {a : Answer} {r : Refusal} → ask_sheet_and_book s b ≡ passed rules
      → ask_edit (text_limits (graph_of s).n) e ≡ refused (refusal_number_def r) (refusal_place_def r) → a ≡ Refused r → Left a s scratch
  edit-stops h q p = unfold enter_sheet enter_scratch ask_enter ask_before41 after outcome ◌>>=◌ in rw (p, h, q) (refl, (refl, refl))

  module _ (k : AllRead s b e) {a : Answer} {scratch' : List ℕ} (j : Singly (graph_of s) (carried_book k.steps k.rules) a scratch scratch') where
    -- All questions have been asked: the sheet is as the answer says.
    ends : (s' : List ℕ) → s' ≡ after (asked a) (λ u. after_steps k.steps s) s → Left a s' scratch'
    unfolding enter_sheet enter_scratch ask_enter ask_before41 after outcome ◌>>=◌ ◌>>◌
    ends s' m = go _ _ refl refl j.answer_is (m ∙ ap (λ x. after x (λ u. after_steps k.steps s) s) j.answer_is) j.scratch_is where
      -- 31 to 33, and 41
      go : (size hold : Asked (Unit {0})) → size ≡ ask_scratch (carried_book k.steps k.rules) (length scratch) → hold ≡ ask_rules (graph_of s) (carried_book k.steps k.rules) 0
          → asked a ≡ (size >> hold) → s' ≡ after (size >> hold) (λ u. after_steps k.steps s) s
          → scratch' ≡ after size (λ u. writings (graph_of s) (carried_book k.steps k.rules) scratch) scratch → Left a s' scratch'
      go (passed u) (passed v) p q x y z = rw (k.book-is, k.steps-are, ← p, ← q) (x, (y, z))
      go (passed u) (refused n o) p q x y z = rw (k.book-is, k.steps-are, ← p, ← q) (x, (y, z))
      go (refused n o) hold p q x y z = rw (k.book-is, k.steps-are, ← p) (x, (y, z))

    pub carried-stops : {r : Refusal} → a ≡ Refused r → Left a s scratch'
    carried-stops p = unfold after in ends s (rw p)

    pub settles : {s' : List ℕ} → a ≡ Done → s' ≡ after_steps k.steps s → Left Done s' scratch'
    settles {s'} p m = unfold after in rw p at (ends s' (rw p m))
