-- The part that judge returns lies in the book.
use mathlib.Core.Path.{◌≡◌, refl, ap}
use mathlib.Core.Bool.{Bool, true, false}
use mathlib.Core.List.{List, [], ◌∷◌}
use Prim.Native.Nat.{ℕ, ◌+◌, ◌≤◌}
use native.Mathlib.Omega.{arith}
use lib.ListN.{length, length-append}
use Rattle.answer.specs.Asked.{Asked, passed, refused, ◌>>◌, after}
use Rattle.logic.specs.Syntax.{Expr, rule}
use Rattle.logic.specs.Graph.{Graph}
use Rattle.logic.specs.Meaning.{value}
use Rattle.sheet.specs.Sheet.{graph_of}
use Rattle.sheet.specs.Questions.{ask_sheet}
use Rattle.text.specs.Code.{code, book_code}
use Rattle.text.specs.Part.{Part, no_part}
use Rattle.text.specs.Reading.{text_limits}
use Rattle.text.specs.Questions.{ask_book}
use Rattle.text.proofs.TextSpelling.{book-is-spelled}
use Rattle.judge.specs.Questions.{ask_sheet_and_book}
use Rattle.judge.specs.Judging.{broken_part, judged_part}

abbrev pub EndsBy : Part → ℕ → Type 0
EndsBy p end = p.start + p.size ≤ end

broken-inside : (g : Graph) (rules : List (Expr rule)) (at : ℕ) → EndsBy (broken_part g rules at) (at + length (book_code rules))
unfolding broken_part book_code
broken-inside g [] at = omega arith
broken-inside g (K ∷ rules) at = go (value g K) (broken-inside g rules (at + length (code K))) where
  go : (b : Bool) → EndsBy (broken_part g rules (at + length (code K))) (at + length (code K) + length (book_code rules))
      → EndsBy (elim b as (λ c. Part) [ true ↦ broken_part g rules (at + length (code K)) | false ↦ record { start = at; size = length (code K) } ]) (at + length (book_code (K ∷ rules)))
  go true h = omega (arith, length-append (code K) (book_code rules))
  go false h = omega (arith, length-append (code K) (book_code rules))

pub judged-inside : (sheet book : List ℕ) → EndsBy (judged_part sheet book) (length book)
unfolding judged_part ask_sheet_and_book after ◌>>◌
judged-inside sheet book = go (ask_sheet sheet) (ask_book (text_limits (graph_of sheet).n) book) refl where
  go : (s : Asked (Unit {0})) (b : Asked (List (Expr rule))) → ask_book (text_limits (graph_of sheet).n) book ≡ b → EndsBy (after (s >> b) (λ rules. broken_part (graph_of sheet) rules 0) no_part) (length book)
  go (refused n p) b e = omega arith
  go (passed u) (refused n p) e = omega arith
  go (passed u) (passed rules) e =
      omega (arith, broken-inside (graph_of sheet) rules 0, ap length (book-is-spelled (text_limits (graph_of sheet).n) book rules e).spells.text-is)
