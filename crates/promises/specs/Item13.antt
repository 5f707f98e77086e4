-- Item 13 of document 02: dispatcher against disruption. proofs/Item13 proves it.
use Rattle.std.specs.Prelude.{◌≡◌, List, ℕ}
use Rattle.answer.specs.Asked.{passed}
use Rattle.bitset.specs.Words.{Bytes}
use Rattle.game.specs.Game.{Game, Outcome}
use Rattle.play.specs.Questions.{cut, ask_game, ask_play}
use Rattle.play.specs.Right.{PlayRight}
use Rattle.promises.specs.Played.{PlayedByCalls}
use Rattle.promises.specs.Course.{Lent, OverBytes, StatedByCalls}

-- What the moves of a call's game are made with: the book, and the edits' texts, the dispatcher's first.
abbrev pub lent_to : (book edits lengths : List ℕ) (dispatchers : ℕ) → Lent
lent_to book edits lengths dispatchers = record { book = book; texts = cut edits lengths; dispatchers = dispatchers }

pub record Item13 : Type 0 where
  -- "the dispatcher's edits go through enter, the disruption's are carried out without the book": for a single move, on every sheet that a game may reach.
  pub moves : PlayedByCalls
  -- "dispatcher first and then by turns"; "Whoever has no edit that can be made passes. The dispatcher wins when the goal holds after the last move":
  -- a course of play whose moves are calls of enter and apply, with passes exactly where no edit can be made, ends on a sheet whose graph is the game's,
  -- and the dispatcher has won exactly when judge answers done for the goal there; and each course of the game is such a course of calls.
  pub courses : (sheet book goal edits lengths : List ℕ) (dispatchers moves : ℕ) (G : Game) → ask_game sheet book goal edits lengths dispatchers moves ≡ passed G → Bytes sheet
      → OverBytes sheet goal (lent_to book edits lengths dispatchers) G
  -- "State whether a win can be forced, and if so the lowest-numbered first edit, from 0, that forces it, or a pass; 'can't' exactly when, however the
  -- dispatcher plays, some play of the disruption (none where it has no move) leaves the goal broken": the answer of play, over such courses of calls,
  pub stated : (sheet book goal edits lengths : List ℕ) (dispatchers moves : ℕ) (x : Outcome) → ask_play sheet book goal edits lengths dispatchers moves ≡ passed x → Bytes sheet
      → StatedByCalls sheet goal (lent_to book edits lengths dispatchers) moves x
  -- and on graphs, with a strategy to follow and replies to it.
  pub right : PlayRight
