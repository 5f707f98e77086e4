-- Closing and opening a node of a sheet under a book (item 6 of document 02): calls, not steps of an edit. "The order is sheet, book, range (7), 54, 41."
use Rattle.std.specs.Prelude.{cond, List, ℕ, ltb}
use Rattle.answer.specs.Asked.{Asked, passed, ◌>>=◌, ◌>>◌, is, after}
use Rattle.logic.specs.Syntax.{Expr, rule}
use Rattle.logic.specs.Closing.{close_node_def, open_node_def, can_close_def}
use Rattle.sheet.specs.Sheet.{store, graph_of}
use Rattle.judge.specs.Questions.{ask_sheet_and_book, ask_rules}

-- Sheet, then book, then the node's number. The result is the rules.
unfoldable pub ask_node : (sheet book : List ℕ) (node : ℕ) → Asked (List (Expr rule))
ask_node sheet book node = do
  rules ← ask_sheet_and_book sheet book
  is (ltb node (graph_of sheet).n) 7 0
  passed rules

-- "Closing a closed node or opening an open one is done unjudged"; else both judge the graph that they would leave.
unfoldable pub ask_close : (sheet book : List ℕ) (node : ℕ) → Asked (Unit {0})
ask_close sheet book node = do
  rules ← ask_node sheet book node
  cond ((graph_of sheet).in_use node) (is (can_close_def (graph_of sheet) node) 54 node >> ask_rules (close_node_def (graph_of sheet) node) rules 0) (passed tt)

unfoldable pub ask_open : (sheet book : List ℕ) (node : ℕ) → Asked (Unit {0})
ask_open sheet book node = do
  rules ← ask_node sheet book node
  cond ((graph_of sheet).in_use node) (passed tt) (ask_rules (open_node_def (graph_of sheet) node) rules 0)

-- The sheet afterwards: after done the one that stores the graph with the node closed, or open; else as it was.
unfoldable pub closed_sheet : (sheet book : List ℕ) (node : ℕ) → List ℕ
closed_sheet sheet book node = after (ask_close sheet book node) (λ u. store (close_node_def (graph_of sheet) node)) sheet

unfoldable pub opened_sheet : (sheet book : List ℕ) (node : ℕ) → List ℕ
opened_sheet sheet book node = after (ask_open sheet book node) (λ u. store (open_node_def (graph_of sheet) node)) sheet
