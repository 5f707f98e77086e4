-- Strategies of the dispatcher, replies of the disruption, and the play that they give (item 13 of document 02). proofs/Answer proves `Right`.
use Rattle.std.specs.Prelude.{◌≡◌, true, false, not, ◌↔◌, List, [], ◌∷◌, ℕ, zero, suc, ◌<◌, T}
use Rattle.logic.specs.Graph.{Graph}
use Rattle.logic.specs.Meaning.{value}
use Rattle.game.specs.Game.{Side, dispatcher, disruption, Game, Move, pass, edit, leaves, legal, forced, cannot, first, answer}

-- The moves of both sides so far, the earliest first.
abbrev pub History : Type 0
History = List Move

-- A strategy of the dispatcher: its next move, from the moves so far.
abbrev pub Strategy : Type 0
Strategy = History → Move

-- The rest of the strategy once the move x is made: the moves so far begin with x.
abbrev pub continued : Strategy → Move → Strategy
continued p x = λ history. p (x ∷ history)

-- Replies of the disruption: its moves in order, one for each of its turns.
abbrev pub Replies : Type 0
Replies = List Move

-- How a strategy fares against replies: the graph after the last move, or the side whose move was the first that could not be made.
pub data Course : Type 0 where
  ended : (h : Graph) → Course
  wrong : (s : Side) → Course

-- The strategy against the replies, with m moves left and side s to move.
unfoldable pub course : Game → ℕ → Side → Graph → Strategy → Replies → Course
course G zero s g p q = ended g
course G (suc m) dispatcher g p q = elim (legal G dispatcher g (p [])) [ true ↦ course G m disruption (leaves G dispatcher g (p [])) (continued p (p [])) q | false ↦ wrong dispatcher ]
course G (suc m) disruption g p [] = wrong disruption
course G (suc m) disruption g p (x ∷ q) = elim (legal G disruption g x) [ true ↦ course G m dispatcher (leaves G disruption g x) (continued p x) q | false ↦ wrong disruption ]

-- The strategy never names a move that cannot be made.
abbrev pub Legal : Course → Type 0
Legal (ended h) = Unit {0}
Legal (wrong dispatcher) = ⊥
Legal (wrong disruption) = Unit {0}

-- The goal holds after the last move. A strategy that names a move that cannot be made has not won; replies that cannot be made do not count.
abbrev pub Won : Game → Course → Type 0
Won G (ended h) = T (value h G.goal)
Won G (wrong dispatcher) = ⊥
Won G (wrong disruption) = Unit {0}

-- Every move can be made, and the goal is broken after the last.
abbrev pub Broken : Game → Course → Type 0
Broken G (ended h) = T (not (value h G.goal))
Broken G (wrong s) = ⊥

-- The strategy wins against all replies of the disruption.
abbrev pub Wins : Game → ℕ → Side → Graph → Strategy → Type 0
Wins G m s g p = (q : Replies) → Won G (course G m s g p q)

-- The strategy can be followed against all replies.
abbrev pub AlwaysLegal : Game → ℕ → Side → Graph → Strategy → Type 0
AlwaysLegal G m s g p = (q : Replies) → Legal (course G m s g p q)

-- Against this strategy, some replies of the disruption leave the goal broken.
abbrev pub SomeBreaks : Game → ℕ → Side → Graph → Strategy → Type 0
SomeBreaks G m s g p = (q : Replies) × Broken G (course G m s g p q)

-- Some strategy that begins with the move x wins.
abbrev pub Begins : Game → ℕ → Graph → Move → Type 0
Begins G m g x = (p : Strategy) × (p [] ≡ x) × Wins G (suc m) dispatcher g p

-- Item 13, for a game of m + 1 moves on the graph g.
pub record Right (G : Game) (m : ℕ) (g : Graph) : Type 0 where
  -- "State whether a win can be forced": exactly when some strategy wins against all replies.
  pub can : T (forced G (suc m) dispatcher g) ↔ ((p : Strategy) × Wins G (suc m) dispatcher g p)
  -- "can't" exactly when, however the dispatcher plays, some play of the disruption (none where it has no move) leaves the goal broken
  pub cannot_when : (answer G m g ≡ cannot) ↔ ((p : Strategy) → AlwaysLegal G (suc m) dispatcher g p → SomeBreaks G (suc m) dispatcher g p)
  -- The answer is "can't" exactly when no win can be forced.
  pub cannot_forced : (answer G m g ≡ cannot) ↔ T (not (forced G (suc m) dispatcher g))
  -- "the lowest-numbered first edit, from 0, that forces it,
  pub first_edit : (i : ℕ) → (answer G m g ≡ first (edit i)) ↔ (Begins G m g (edit i) × ((j : ℕ) → j < i → ¬ Begins G m g (edit j)))
  -- or a pass"
  pub first_pass : (answer G m g ≡ first pass) ↔ Begins G m g pass
  -- A strategy that can be followed exists, and so do replies to it: none of the above holds merely because there is none.
  pub some_strategy : (p : Strategy) × AlwaysLegal G (suc m) dispatcher g p
  pub some_replies : (p : Strategy) → AlwaysLegal G (suc m) dispatcher g p → (q : Replies) × (h : Graph) × (course G (suc m) dispatcher g p q ≡ ended h)
