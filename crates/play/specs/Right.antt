-- Item 13 over bytes: what the call's outcome means, whenever all questions have passed. proofs/Right proves it.
use Rattle.std.specs.Prelude.{◌≡◌, ◌↔◌, List, ℕ, suc, ◌-◌, ◌<◌, T, length, get_or}
use Rattle.answer.specs.Asked.{passed}
use Rattle.logic.specs.Syntax.{finish}
use Rattle.logic.specs.Graph.{Graph}
use Rattle.logic.specs.Carry.{carried_book}
use Rattle.sheet.specs.Sheet.{graph_of}
use Rattle.judge.specs.Questions.{ask_rules}
use Rattle.game.specs.Game.{Game, dispatcher, can_make, Outcome, answer}
use Rattle.game.specs.Strategies.{Right}
use Rattle.carry.specs.Carrying.{ask_carried}
use Rattle.play.specs.Questions.{ask_game, ask_play}

-- x is the outcome for these inputs.
pub record Answered (sheet book goal edits lengths : List ℕ) (dispatchers moves : ℕ) (x : Outcome) : Type 0 where
  -- It is the answer of the game that the texts describe, with the given number of moves,
  pub game : Game
  pub read : ask_game sheet book goal edits lengths dispatchers moves ≡ passed game
  pub as_many_moves : suc (moves - 1) ≡ moves
  pub is : x ≡ answer game (moves - 1) (graph_of sheet)
  -- which is right in the words of item 13;
  pub right : Right game (moves - 1) (graph_of sheet)
  -- and "the dispatcher's edits go through enter": 31 and 32 pass for each of them, and one can be made on a graph exactly when 41 passes there
  -- for the rules carried back through it.
  pub fit : (i : ℕ) → i < length game.dispatchers → ask_carried (carried_book (get_or game.dispatchers i finish) game.book) ≡ passed tt
  pub entered : (g : Graph) (i : ℕ) → i < length game.dispatchers
      → T (can_make game dispatcher g i) ↔ (ask_rules g (carried_book (get_or game.dispatchers i finish) game.book) 0 ≡ passed tt)

pub record PlayRight : Type 0 where
  pub answered : (sheet book goal edits lengths : List ℕ) (dispatchers moves : ℕ) (x : Outcome)
      → ask_play sheet book goal edits lengths dispatchers moves ≡ passed x → Answered sheet book goal edits lengths dispatchers moves x
