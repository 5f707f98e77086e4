-- Judge's answer and part, by what its questions about sheet and book found.
use mathlib.Core.Path.{◌≡◌, refl}
use mathlib.Core.List.{List}
use Prim.Native.Nat.{ℕ}
use Rattle.logic.specs.Syntax.{Expr, rule}
use Rattle.answer.specs.Asked.{Asked, passed, refused, ◌>>=◌, after}
use Rattle.sheet.specs.Sheet.{graph_of}
use Rattle.text.specs.Part.{Part, no_part}
use Rattle.judge.specs.Questions.{ask_rules, ask_sheet_and_book, ask_judge}
use Rattle.judge.specs.Judging.{broken_part, judged_part}

module _ (sheet book : List ℕ) where
  abbrev pub Says : Asked (Unit {0}) → Part → Type 0
  Says x p = (x ≡ ask_judge sheet book) × (p ≡ judged_part sheet book)

  pub judge-refused : {q p : ℕ} → ask_sheet_and_book sheet book ≡ refused q p → Says (refused q p) no_part
  judge-refused e = unfold ask_judge judged_part ◌>>=◌ after in rw e (refl, refl)

  pub judge-found : {rules : List (Expr rule)} {x : Asked (Unit {0})} {p : Part} → ask_sheet_and_book sheet book ≡ passed rules
      → (x ≡ ask_rules (graph_of sheet) rules 0) × (p ≡ broken_part (graph_of sheet) rules 0) → Says x p
  judge-found e f = unfold ask_judge judged_part ◌>>=◌ after in rw e f
