-- Play over bytes (item 13 of document 02): a course of play in which every move is a call on the sheet then held. proofs/Course proves it.
use Rattle.std.specs.Prelude.{◌≡◌, ◌↔◌, List, [], ◌∷◌, ℕ, zero, suc, ◌+◌, ◌<◌, length, get_or}
use Rattle.answer.specs.Asked.{passed, refused, outcome}
use Rattle.logic.specs.Graph.{Graph}
use Rattle.sheet.specs.Sheet.{graph_of}
use Rattle.judge.specs.Questions.{ask_judge}
use Rattle.apply.specs.Apply.{ask_apply, applied_sheet}
use Rattle.runs.specs.Enter.{enter_answer, enter_sheet}
use Rattle.game.specs.Game.{Side, dispatcher, disruption, Game, Move, pass, edit, Outcome, cannot, first}
use Rattle.game.specs.Strategies.{Strategy, continued, Replies, ended, course, Won, Wins, AlwaysLegal, SomeBreaks}
use Rattle.promises.specs.Played.{Held}

-- The book, and the texts of the edits, of which the first `dispatchers` are the dispatcher's.
pub record Lent : Type 0 where
  pub book : List ℕ
  pub texts : List (List ℕ)
  pub dispatchers : ℕ

-- A call makes edit i of a side on a sheet, and leaves the next: "the dispatcher's edits go through enter, the disruption's are carried out without the
-- book". The scratch may have any length with which enter answers done.
unfoldable pub Makes : Lent → Side → (sheet : List ℕ) → ℕ → (next : List ℕ) → Type 0
Makes l dispatcher sheet i next =
    (i < l.dispatchers)
    × (room : ℕ) × (enter_answer sheet l.book (get_or l.texts i []) room ≡ passed tt) × (next ≡ enter_sheet sheet l.book (get_or l.texts i []) room)
Makes l disruption sheet i next =
    (l.dispatchers + i < length l.texts)
    × (outcome (ask_apply sheet (get_or l.texts (l.dispatchers + i) [])) ≡ passed tt)
    × (next ≡ applied_sheet sheet (get_or l.texts (l.dispatchers + i) []))

-- A move: such a call, or a pass, which leaves the sheet as it is. "Whoever has no edit that can be made passes", and a side that has one does not.
unfoldable pub Moves : Lent → Side → (sheet : List ℕ) → Move → (next : List ℕ) → Type 0
Moves l s sheet (edit i) next = Makes l s sheet i next
Moves l s sheet pass next = ((i : ℕ) (other : List ℕ) → ¬ Makes l s sheet i other) × (next ≡ sheet)

-- Strategy against replies with m moves left, this side to move on this sheet, ends on the last sheet: `course` (game/specs/Strategies.antt) by calls.
unfoldable pub Calls : Lent → ℕ → Side → (sheet : List ℕ) → Strategy → Replies → (last : List ℕ) → Type 0
Calls l zero s sheet p q last = last ≡ sheet
Calls l (suc m) dispatcher sheet p q last = (next : List ℕ) × Moves l dispatcher sheet (p []) next × Calls l m disruption next (continued p (p [])) q last
Calls l (suc m) disruption sheet p [] last = ⊥
Calls l (suc m) disruption sheet p (x ∷ q) last = (next : List ℕ) × Moves l disruption sheet x next × Calls l m dispatcher next (continued p x) q last

-- The strategy can be followed by calls, whatever moves the disruption makes.
unfoldable pub Follows : Lent → ℕ → Side → (sheet : List ℕ) → Strategy → Type 0
Follows l zero s sheet p = Unit {0}
Follows l (suc m) dispatcher sheet p = (next : List ℕ) × Moves l dispatcher sheet (p []) next × Follows l m disruption next (continued p (p []))
Follows l (suc m) disruption sheet p = (x : Move) (next : List ℕ) → Moves l disruption sheet x next → Follows l m dispatcher next (continued p x)

-- It wins by calls: it can be followed, and whatever the disruption replies, judge answers done for the goal on the sheet that the course ends on.
pub record WinsByCalls (l : Lent) (m : ℕ) (sheet goal : List ℕ) (p : Strategy) : Type 0 where
  pub follows : Follows l m dispatcher sheet p
  pub wins : (q : Replies) (last : List ℕ) → Calls l m dispatcher sheet p q last → ask_judge last goal ≡ passed tt

-- Some replies of the disruption to it leave the goal broken: judge answers 41.
abbrev pub BrokenByCalls : Lent → ℕ → (sheet goal : List ℕ) → Strategy → Type 0
BrokenByCalls l m sheet goal p = (q : Replies) × (last : List ℕ) × Calls l m dispatcher sheet p q last × (ask_judge last goal ≡ refused 41 0)

-- For a game G that was read for this sheet, this goal and these texts.
pub record OverBytes (sheet goal : List ℕ) (lent : Lent) (G : Game) : Type 0 where
  -- A course by calls ends on a sound sheet with the same number of nodes, whose graph is the one that the game ends on: each of its moves can be made there.
  pub held : (m : ℕ) (p : Strategy) (q : Replies) (last : List ℕ) → Calls lent m dispatcher sheet p q last → Held (graph_of sheet).n last
  pub ends : (m : ℕ) (p : Strategy) (q : Replies) (last : List ℕ) → Calls lent m dispatcher sheet p q last → course G m dispatcher (graph_of sheet) p q ≡ ended (graph_of last)
  -- The dispatcher has won exactly when judge answers done for the goal there.
  pub won : (m : ℕ) (p : Strategy) (q : Replies) (last : List ℕ) → Calls lent m dispatcher sheet p q last → Won G (course G m dispatcher (graph_of sheet) p q) ↔ (ask_judge last goal ≡ passed tt)
  -- Each course of the game that ends is such a course by calls.
  pub each : (m : ℕ) (p : Strategy) (q : Replies) (h : Graph) → course G m dispatcher (graph_of sheet) p q ≡ ended h
      → (last : List ℕ) × Calls lent m dispatcher sheet p q last × (graph_of last ≡ h)
  -- So strategies and replies have the same outcome by calls as in the game.
  pub follows : (m : ℕ) (p : Strategy) → Follows lent m dispatcher sheet p ↔ AlwaysLegal G m dispatcher (graph_of sheet) p
  pub wins : (m : ℕ) (p : Strategy) → WinsByCalls lent m sheet goal p ↔ Wins G m dispatcher (graph_of sheet) p
  pub broken : (m : ℕ) (p : Strategy) → BrokenByCalls lent m sheet goal p ↔ SomeBreaks G m dispatcher (graph_of sheet) p

-- Some strategy that begins with this move wins by calls.
abbrev pub BeginsByCalls : Lent → ℕ → (sheet goal : List ℕ) → Move → Type 0
BeginsByCalls l m sheet goal x = (p : Strategy) × (p [] ≡ x) × WinsByCalls l m sheet goal p

-- An outcome with m moves, by calls.
pub record StatedByCalls (sheet goal : List ℕ) (l : Lent) (m : ℕ) (x : Outcome) : Type 0 where
  -- "State whether a win can be forced": the outcome is not can't exactly when some strategy wins;
  pub can_when : (¬ (x ≡ cannot)) ↔ ((p : Strategy) × WinsByCalls l m sheet goal p)
  -- "and if so the lowest-numbered first edit, from 0, that forces it,
  pub first_edit : (i : ℕ) → (x ≡ first (edit i)) ↔ (BeginsByCalls l m sheet goal (edit i) × ((j : ℕ) → j < i → ¬ BeginsByCalls l m sheet goal (edit j)))
  -- or a pass;
  pub first_pass : (x ≡ first pass) ↔ BeginsByCalls l m sheet goal pass
  -- 'can't' exactly when, however the dispatcher plays, some play of the disruption (none where it has no move) leaves the goal broken."
  pub cannot_when : (x ≡ cannot) ↔ ((p : Strategy) → Follows l m dispatcher sheet p → BrokenByCalls l m sheet goal p)
