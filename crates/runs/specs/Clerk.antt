-- The plain clerk ("The run" of document 01). He is fed the opening sheet, the book and, for each call, the edit and the length
-- of its scratch; never an answer.
use Rattle.std.specs.Prelude.{List, [], ◌∷◌, ℕ}
use Rattle.answer.specs.Asked.{Asked, passed, ◌>>=◌, ◌>>◌, after, outcome}
use Rattle.logic.specs.Syntax.{Expr, rule}
use Rattle.logic.specs.Graph.{Graph}
use Rattle.logic.specs.Steps.{run}
use Rattle.logic.specs.Carry.{carried_book}
use Rattle.sheet.specs.Sheet.{store, graph_of}
use Rattle.text.specs.Reading.{text_limits}
use Rattle.text.specs.Questions.{ask_book, ask_edit}
use Rattle.judge.specs.Questions.{ask_rules}
use Rattle.runs.specs.Scratch.{ask_scratch}

-- What he is fed for a call.
pub record Fed : Type 0 where
  pub edit : List ℕ
  pub room : ℕ

-- A line of a log: the edit of a call, the answer, and the sheet after the call.
pub record Line : Type 0 where
  pub edit : List ℕ
  pub answer : Asked (Unit {0})
  pub sheet : List ℕ

-- The rules that a book within the limits for n says.
unfoldable pub rules_of : ℕ → List ℕ → List (Expr rule)
rules_of n book = after (ask_book (text_limits n) book) (λ rules. rules) []

-- He asks 21 to 26 of the edit, then 31 and 32 of the book carried back through it and 33 of its longest single rule; then he makes the edit's steps
-- on a copy.
unfoldable pub clerk_copy : List (Expr rule) → Graph → Fed → Asked Graph
clerk_copy rules g c = do
  Z ← ask_edit (text_limits g.n) c.edit
  ask_scratch (carried_book Z rules) c.room
  passed (run Z g)

-- If a rule of the book doesn't hold on the copy, he answers 41 with the first such rule; else done.
unfoldable pub clerk_asks : List (Expr rule) → Graph → Fed → Asked Graph
clerk_asks rules g c = do
  copy ← clerk_copy rules g c
  ask_rules copy rules 0
  passed copy

-- After done the copy is his graph; else his graph stays.
unfoldable pub clerk_graph : List (Expr rule) → Graph → Fed → Graph
clerk_graph rules g c = after (clerk_asks rules g c) (λ copy. copy) g

-- His line of the log. His sheet is the one that stores his graph.
abbrev pub clerk_line : List (Expr rule) → Graph → Fed → Line
clerk_line rules g c = record { edit = c.edit; answer = outcome (clerk_asks rules g c); sheet = store (clerk_graph rules g c) }

-- His log from a graph on.
unfoldable pub clerk_log : List (Expr rule) → Graph → List Fed → List Line
clerk_log rules g [] = []
clerk_log rules g (c ∷ cs) = clerk_line rules g c ∷ clerk_log rules (clerk_graph rules g c) cs

-- At first his graph is the opening sheet's.
unfoldable pub clerk : (opening book : List ℕ) → List Fed → List Line
clerk opening book calls = clerk_log (rules_of (graph_of opening).n book) (graph_of opening) calls
