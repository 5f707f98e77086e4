-- The first broken rule as a part of the book itself; and rules that stand one after the other in a text.
use Rattle.std.specs.Prelude.{◌≡◌, true, false, List, [], ◌∷◌, ◌++◌, ℕ, ◌+◌, length, drop}
use Rattle.answer.specs.Asked.{after}
use Rattle.logic.specs.Syntax.{Expr, rule}
use Rattle.logic.specs.Graph.{Graph}
use Rattle.logic.specs.Meaning.{value}
use Rattle.logic.specs.Limits.{Ranges}
use Rattle.sheet.specs.Sheet.{graph_of}
use Rattle.text.specs.Code.{code, book_code}
use Rattle.text.specs.Part.{Part, no_part}
use Rattle.text.specs.Stands.{RulesInRange}
use Rattle.judge.specs.Questions.{ask_sheet_and_book}
use Rattle.judge.specs.declared.Verdict.{Verdict}

-- The first broken rule at its place, where the rules start at a given place; no part when all hold.
unfoldable pub broken_part : Graph → List (Expr rule) → ℕ → Part
broken_part g [] at = no_part
broken_part g (K ∷ book) at = elim (value g K) [ true ↦ broken_part g book (at + length (code K)) | false ↦ record { start = at; size = length (code K) } ]

-- What judge hands back: the first broken rule as a part of the book; no part in every other outcome.
unfoldable pub judged_part : List ℕ → List ℕ → Part
judged_part sheet book = after (ask_sheet_and_book sheet book) (λ rules. broken_part (graph_of sheet) rules 0) no_part

-- The part that a verdict names.
abbrev pub part_named : Verdict → Part
part_named v = record { start = v.start; size = v.size }

-- Rules that stand from a place to an end. An inner function requires some such rules and promises its result for all of them.
pub record RulesStand (r : Ranges) (text : List ℕ) (at end : ℕ) (rules : List (Expr rule)) : Type 0 where
  pub rest : List ℕ
  pub here : drop at text ≡ book_code rules ++ rest
  pub ends : end ≡ at + length (book_code rules)
  pub range : RulesInRange r rules

pub record SomeRulesStand (r : Ranges) (text : List ℕ) (at end : ℕ) : Type 0 where
  pub what : List (Expr rule)
  pub stand : RulesStand r text at end what
