-- For the inner functions: edits that stand one after the other in a text, a game whose texts have been read, and what a search has found; and what the
-- call's result says about its questions (`found_asked`).
use Rattle.std.specs.Prelude.{◌≡◌, Bool, cond, List, [], ◌∷◌, ℕ, ◌+◌, ◌≤◌, length, Result, Ok, Err}
use Rattle.answer.specs.Asked.{Asked, passed, refused}
use Rattle.answer.specs.Answers.{refusal_number_def, refusal_place_def}
use Rattle.logic.specs.Syntax.{Edit}
use Rattle.logic.specs.Steps.{run}
use Rattle.logic.specs.Limits.{Ranges, ranges}
use Rattle.text.specs.Code.{edit_code}
use Rattle.text.specs.Reading.{longest_text}
use Rattle.text.specs.Stands.{EditStands}
use Rattle.judge.specs.Judging.{RulesStand}
use Rattle.sheet.specs.Sheet.{graph_of}
use Rattle.game.specs.Game.{Game, edits_of, pass, edit, Outcome, cannot, first}
use Rattle.game.specs.Search.{side_of}
use Rattle.play.specs.declared.questions.AtEdit.{AtEdit}
use Rattle.play.specs.declared.search.Lists.{Lists}
use Rattle.play.specs.declared.search.Found.{Found}
use Rattle.play.specs.declared.search.Found.TheVariants.{Cannot, Edit as EditFound, Pass}

-- Edits that stand from a place on, each within the length of a text.
unfoldable pub EditsStand : Ranges → List ℕ → ℕ → List Edit → Type 0
EditsStand r text at [] = Unit {0}
EditsStand r text at (Z ∷ Zs) = EditStands r text at Z × (length (edit_code Z) ≤ longest_text) × EditsStand r text (at + length (edit_code Z)) Zs

-- How many edits a side has, and where they start.
abbrev pub count_of : Lists → Bool → ℕ
count_of l ours = cond ours l.ours l.theirs

abbrev pub start_of : Lists → Bool → ℕ
start_of l ours = cond ours 0 l.second

-- The texts are those of this game, for n nodes.
pub record GameStands (n : ℕ) (book goal edits : List ℕ) (lists : Lists) (G : Game) : Type 0 where
  pub rules : RulesStand (ranges n) book 0 (length book) G.book
  pub aim : RulesStand (ranges n) goal 0 (length goal) (G.goal ∷ [])
  pub stand : (ours : Bool) → EditsStand (ranges n) edits (start_of lists ours) (edits_of G (side_of ours))
  pub counted : (ours : Bool) → count_of lists ours ≡ length (edits_of G (side_of ours))

pub record SomeGame (n : ℕ) (book goal edits : List ℕ) (lists : Lists) : Type 0 where
  pub what : Game
  pub stands : GameStands n book goal edits lists what

-- An edit was made on a copy of a sheet; `next` is the place after it.
pub record OnCopy (at : ℕ) (Z : Edit) (next : ℕ) (sheet copy : List ℕ) : Type 0 where
  pub graph : graph_of copy ≡ run Z (graph_of sheet)
  pub ends : next ≡ at + length (edit_code Z)

-- What a search has found, as an outcome of the game.
abbrev pub outcome_of : Found → Outcome
outcome_of Cannot = cannot
outcome_of (EditFound i) = first (edit i)
outcome_of Pass = first pass

-- What a result says about the questions, where a refusal stands beside the edit that it is about.
abbrev pub at_edit_asked : {A : Type 0} → Result A AtEdit → Asked A
at_edit_asked (Ok a) = passed a
at_edit_asked (Err e) = refused (refusal_number_def e.refusal) (refusal_place_def e.refusal)

-- The same for the call: its questions result in the game's outcome.
abbrev pub found_asked : Result Found AtEdit → Asked Outcome
found_asked (Ok f) = passed (outcome_of f)
found_asked (Err e) = refused (refusal_number_def e.refusal) (refusal_place_def e.refusal)

-- Some edits, `count` of them, stand at the start of a text, whatever the ranges of their numbers.
pub record EditsAt (text : List ℕ) (count : ℕ) (Zs : List Edit) : Type 0 where
  pub limits : Ranges
  pub stand : EditsStand limits text 0 Zs
  pub enough : count ≤ length Zs

pub record SomeEdits (text : List ℕ) (count : ℕ) : Type 0 where
  pub what : List Edit
  pub are : EditsAt text count what
