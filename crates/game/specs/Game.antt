-- Dispatcher against disruption (item 13 of document 02), on graphs.
use Rattle.std.specs.Prelude.{Bool, true, not, ◌&&◌, ◌||◌, cond, List, [], ◌∷◌, ℕ, zero, suc, ltb, length, get_or}
use Rattle.logic.specs.Syntax.{Expr, rule, Edit, finish}
use Rattle.logic.specs.Graph.{Graph, Nodes, any_below, all_below, implies}
use Rattle.logic.specs.Meaning.{value, hold_all}
use Rattle.logic.specs.Steps.{run}

-- "dispatcher first and then by turns"
pub data Side : Type 0 where
  dispatcher disruption : Side

-- "Given a sheet, a book, a goal rule, 1 to 4 dispatcher edits and 0 to 4 disruption edits": all except the sheet.
pub record Game : Type 0 where
  pub book : List (Expr rule)
  pub goal : Expr rule
  pub dispatchers : List Edit
  pub disruptions : List Edit

-- A pass, or the side's edit of this number, from 0.
pub data Move : Type 0 where
  pass : Move
  edit : (i : ℕ) → Move

abbrev pub edits_of : Game → Side → List Edit
edits_of G dispatcher = G.dispatchers
edits_of G disruption = G.disruptions

-- The graph that a move leaves.
unfoldable pub leaves : Game → Side → Graph → Move → Graph
leaves G s g pass = g
leaves G s g (edit i) = run (get_or (edits_of G s) i finish) g

-- "the dispatcher's edits go through enter, the disruption's are carried out without the book": whether a side may leave this graph.
unfoldable pub may_leave_def : Game → Side → Graph → Bool
may_leave_def G dispatcher h = hold_all h G.book
may_leave_def G disruption h = true

-- Whether edit i of a side can be made.
unfoldable pub can_make : Game → Side → Graph → Nodes
can_make G s g i = ltb i (length (edits_of G s)) && may_leave_def G s (leaves G s g (edit i))

-- "Whoever has no edit that can be made passes": a side passes exactly when none of its edits can be made.
unfoldable pub legal : Game → Side → Graph → Move → Bool
legal G s g pass = not (any_below (length (edits_of G s)) (can_make G s g))
legal G s g (edit i) = can_make G s g i

-- Whether some move that can be made is in f; whether every such move is.
unfoldable pub some_move : Game → Side → Graph → (Move → Bool) → Bool
some_move G s g f = any_below (length (edits_of G s)) (λ i. legal G s g (edit i) && f (edit i)) || (legal G s g pass && f pass)

unfoldable pub every_move : Game → Side → Graph → (Move → Bool) → Bool
every_move G s g f = all_below (length (edits_of G s)) (λ i. implies (legal G s g (edit i)) (f (edit i))) && implies (legal G s g pass) (f pass)

-- Whether a win can be forced with m moves left and side s to move. "The dispatcher wins when the goal holds after the last move."
unfoldable pub forced : Game → ℕ → Side → Graph → Bool
forced G zero s g = value g G.goal
forced G (suc m) dispatcher g = some_move G dispatcher g (λ x. forced G m disruption (leaves G dispatcher g x))
forced G (suc m) disruption g = every_move G disruption g (λ x. forced G m dispatcher (leaves G disruption g x))

-- The lowest number below n in a set, if it has one.
pub data Lowest : Type 0 where
  nothing : Lowest
  at : (i : ℕ) → Lowest

unfoldable pub lowest_below : ℕ → Nodes → Lowest
lowest_below zero v = nothing
lowest_below (suc n) v = elim (lowest_below n v) [ at i ↦ at i | nothing ↦ cond (v n) (at n) nothing ]

-- "State whether a win can be forced, and if so the lowest-numbered first edit, from 0, that forces it, or a pass"
pub data Outcome : Type 0 where
  cannot : Outcome
  first : (x : Move) → Outcome

-- The lowest-numbered of n edits that is in f; else a pass, if that is in f.
unfoldable pub lowest_move : ℕ → (Move → Bool) → Outcome
lowest_move n f = elim (lowest_below n (λ i. f (edit i))) [ at i ↦ first (edit i) | nothing ↦ cond (f pass) (first pass) cannot ]

-- This move can be made, and it forces a win with m moves left after it.
unfoldable pub forces_by : Game → ℕ → Graph → Move → Bool
forces_by G m g x = legal G dispatcher g x && forced G m disruption (leaves G dispatcher g x)

-- The answer for m + 1 moves.
unfoldable pub answer : Game → ℕ → Graph → Outcome
answer G m g = lowest_move (length G.dispatchers) (forces_by G m g)
