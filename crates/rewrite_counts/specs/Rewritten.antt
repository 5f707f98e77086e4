-- Counts that say nothing (document 02, item 3): the terms without them, and a stored book rewritten.
use Rattle.std.specs.Prelude.{cond, List, map, ℕ, leb, ltb, eqb}
use Rattle.answer.specs.Asked.{Asked, passed, ◌>>=◌}
use Rattle.answer.specs.Outputs.{ask_room}
use Rattle.logic.specs.Syntax.{Sort, node, arrow, rule, Expr, all, none, label, nominal, complement, and, or, some, every, at_least, at_most, arrow_kind, reversed, union, common, minus, ending_in, pair, sub_nodes, sub_arrows, node_in, pair_in, both, either, not_rule}
use Rattle.logic.specs.Limits.{max_nodes}
use Rattle.text.specs.Code.{book_code}
use Rattle.text.specs.Reading.{former_limits_def}
use Rattle.text.specs.Questions.{ask_book}

-- 0A m R E: 01 when m is 0, 02 when it is above 60.
unfoldable pub least_rewritten : ℕ → Expr arrow → Expr node → Expr node
least_rewritten m R E = cond (eqb m 0) all (cond (leb m max_nodes) (at_least m R E) none)

-- 0B m R E: 01 when m is 60 or more.
unfoldable pub most_rewritten : ℕ → Expr arrow → Expr node → Expr node
most_rewritten m R E = cond (ltb m max_nodes) (at_most m R E) all

-- From the inside out.
unfoldable pub rewritten : {s : Sort} → Expr s → Expr s
rewritten all = all
rewritten none = none
rewritten (label k) = label k
rewritten (nominal i) = nominal i
rewritten (complement E) = complement (rewritten E)
rewritten (and E F) = and (rewritten E) (rewritten F)
rewritten (or E F) = or (rewritten E) (rewritten F)
rewritten (some R E) = some (rewritten R) (rewritten E)
rewritten (every R E) = every (rewritten R) (rewritten E)
rewritten (at_least m R E) = least_rewritten m (rewritten R) (rewritten E)
rewritten (at_most m R E) = most_rewritten m (rewritten R) (rewritten E)
rewritten (arrow_kind a) = arrow_kind a
rewritten (reversed R) = reversed (rewritten R)
rewritten (union R S) = union (rewritten R) (rewritten S)
rewritten (common R S) = common (rewritten R) (rewritten S)
rewritten (minus R S) = minus (rewritten R) (rewritten S)
rewritten (ending_in R E) = ending_in (rewritten R) (rewritten E)
rewritten (pair i j) = pair i j
rewritten (sub_nodes E F) = sub_nodes (rewritten E) (rewritten F)
rewritten (sub_arrows R S) = sub_arrows (rewritten R) (rewritten S)
rewritten (node_in i E) = node_in i (rewritten E)
rewritten (pair_in i j R) = pair_in i j (rewritten R)
rewritten (both K L) = both (rewritten K) (rewritten L)
rewritten (either K L) = either (rewritten K) (rewritten L)
rewritten (not_rule K) = not_rule (rewritten K)

abbrev pub rewritten_book : List (Expr rule) → List (Expr rule)
rewritten_book rules = map rewritten rules

-- A stored book, read by the former ranges with n as 60: 11 to 16. The result is the rewritten book.
unfoldable pub ask_rewritten : List ℕ → Asked (List ℕ)
ask_rewritten book = do
  rules ← ask_book (former_limits_def max_nodes) book
  passed (book_code (rewritten_book rules))

-- The rewriter: then 33.
unfoldable pub ask_rewrite : List ℕ → (room : ℕ) → Asked (List ℕ)
ask_rewrite book room = do
  bytes ← ask_rewritten book
  ask_room bytes room
