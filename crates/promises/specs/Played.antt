-- "The dispatcher's edits go through enter, the disruption's are carried out without the book" (item 13 of document 02), on the bytes of the calls.
-- proofs/Played proves it.
use Rattle.std.specs.Prelude.{◌≡◌, ◌↔◌, List, [], ℕ, ◌+◌, ◌≤◌, ◌<◌, T, length, get_or}
use Rattle.answer.specs.Asked.{passed, outcome}
use Rattle.logic.specs.Syntax.{finish}
use Rattle.logic.specs.Carry.{carried_book}
use Rattle.sheet.specs.Sheet.{graph_of}
use Rattle.sheet.specs.Questions.{Sound}
use Rattle.runs.specs.Scratch.{longest_rule_def}
use Rattle.apply.specs.Apply.{ask_apply, applied_sheet}
use Rattle.runs.specs.Enter.{enter_answer, enter_sheet}
use Rattle.bitset.specs.Words.{Bytes}
use Rattle.game.specs.Game.{Side, dispatcher, disruption, Game, edit, leaves, can_make}
use Rattle.play.specs.Questions.{cut, ask_game}

-- A sheet that a game may reach: sound, with as many nodes as the given one.
pub record Held (nodes : ℕ) (sheet : List ℕ) : Type 0 where
  pub are_bytes : Bytes sheet
  pub sound : Sound sheet
  pub as_many : (graph_of sheet).n ≡ nodes

-- A call made a side's move by edit i: the sheet afterwards is again one that the game may reach, with the graph that the move leaves.
pub record Made (nodes : ℕ) (G : Game) (s : Side) (i : ℕ) (before after : List ℕ) : Type 0 where
  pub held : Held nodes after
  pub graph : graph_of after ≡ leaves G s (graph_of before) (edit i)

-- For a game read from a book and these texts of edits, the dispatcher's first, on a sheet that it may reach.
pub record ByCalls (nodes : ℕ) (book : List ℕ) (texts : List (List ℕ)) (G : Game) (sheet : List ℕ) : Type 0 where
  -- "the dispatcher's edits go through enter": with a scratch that is long enough, one can be made exactly when enter answers done,
  pub made_when : (i : ℕ) → i < length G.dispatchers → (room : ℕ) → longest_rule_def (carried_book (get_or G.dispatchers i finish) G.book) ≤ room
      → T (can_make G dispatcher (graph_of sheet) i) ↔ (enter_answer sheet book (get_or texts i []) room ≡ passed tt)
  -- and whatever the scratch, whenever enter answers done,
  pub made_if : (i : ℕ) → i < length G.dispatchers → (room : ℕ) → enter_answer sheet book (get_or texts i []) room ≡ passed tt → T (can_make G dispatcher (graph_of sheet) i)
  -- which then makes the move.
  pub entered : (i : ℕ) → i < length G.dispatchers → (room : ℕ) → enter_answer sheet book (get_or texts i []) room ≡ passed tt
      → Made nodes G dispatcher i sheet (enter_sheet sheet book (get_or texts i []) room)
  -- "the disruption's are carried out without the book": apply answers done for each, and makes the move.
  pub applies : (i : ℕ) → i < length G.disruptions → outcome (ask_apply sheet (get_or texts (length G.dispatchers + i) [])) ≡ passed tt
  pub applied : (i : ℕ) → i < length G.disruptions → Made nodes G disruption i sheet (applied_sheet sheet (get_or texts (length G.dispatchers + i) []))

-- Whenever the questions of a game have passed: the given sheet is one that the game may reach, and the above holds for each such sheet.
pub record PlayedByCalls : Type 0 where
  pub given : (sheet book goal edits lengths : List ℕ) (dispatchers moves : ℕ) (G : Game) → ask_game sheet book goal edits lengths dispatchers moves ≡ passed G
      → Bytes sheet → Held (graph_of sheet).n sheet
  pub each : (sheet book goal edits lengths : List ℕ) (dispatchers moves : ℕ) (G : Game) → ask_game sheet book goal edits lengths dispatchers moves ≡ passed G
      → (held : List ℕ) → Held (graph_of sheet).n held → ByCalls (graph_of sheet).n book (cut edits lengths) G held
