-- A scratch that holds one carried rule at a time (item 10 of document 02): how long it must be, and what is written into it.
use Rattle.std.specs.Prelude.{true, false, List, [], ◌∷◌, map, ℕ, max, leb, length}
use Rattle.answer.specs.Asked.{Asked, ◌>>◌, is}
use Rattle.answer.specs.Outputs.{written_at_start}
use Rattle.logic.specs.Syntax.{Expr, rule}
use Rattle.logic.specs.Graph.{Graph}
use Rattle.logic.specs.Meaning.{value}
use Rattle.text.specs.Code.{code}
use Rattle.carry.specs.Carrying.{ask_carried}

-- The length of the longest of some texts; 0 where there are none.
unfoldable pub longest : List (List ℕ) → ℕ
longest [] = 0
longest (text ∷ texts) = max (length text) (longest texts)

-- The length of the longest single rule of a book.
abbrev pub longest_rule_def : List (Expr rule) → ℕ
longest_rule_def book = longest (map code book)

-- 31 and 32 for the whole carried book; then 33 for the scratch and the longest single carried rule.
unfoldable pub ask_scratch : List (Expr rule) → ℕ → Asked (Unit {0})
ask_scratch carried room = do
  ask_carried carried
  is (leb (longest_rule_def carried) room) 33 (longest_rule_def carried)

-- The rules up to and including the first that is broken on the graph; all of them where none is.
unfoldable pub up_to_broken : Graph → List (Expr rule) → List (Expr rule)
up_to_broken g [] = []
up_to_broken g (K ∷ rules) = K ∷ elim (value g K) [ true ↦ up_to_broken g rules | false ↦ [] ]

-- What a buffer holds after texts were written at its start, each over the previous one.
unfoldable pub overwritten : List (List ℕ) → List ℕ → List ℕ
overwritten [] buffer = buffer
overwritten (text ∷ texts) buffer = overwritten texts (written_at_start text buffer)

-- What the writings of item 10 leave in a scratch: carried rules, written and judged one by one up to the first broken one.
abbrev pub writings : Graph → List (Expr rule) → List ℕ → List ℕ
writings g carried scratch = overwritten (map code (up_to_broken g carried)) scratch
