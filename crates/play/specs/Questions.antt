-- The questions of a game, in item 13's order, and the answer when all have passed.
use Rattle.std.specs.Prelude.{Bool, ◌&&◌, List, [], ◌∷◌, ℕ, suc, ◌+◌, ◌-◌, eqb, leb, length, take, drop}
use Rattle.answer.specs.Asked.{Asked, passed, ◌>>=◌, ◌>>◌, is, after}
use Rattle.logic.specs.Syntax.{Expr, rule, Edit}
use Rattle.logic.specs.Carry.{carried_book}
use Rattle.sheet.specs.Sheet.{graph_of}
use Rattle.text.specs.Reading.{Limits, text_limits}
use Rattle.text.specs.Questions.{ask_rule, ask_edit}
use Rattle.carry.specs.Carrying.{ask_carried}
use Rattle.judge.specs.Questions.{ask_sheet_and_book}
use Rattle.game.specs.Game.{Game, Outcome, cannot, first, pass, edit, answer}

-- "1 to 4 dispatcher edits and 0 to 4 disruption edits, and 1 to 6 moves"; the first `dispatchers` of `count` edits are the dispatcher's.
abbrev pub most_edits : ℕ
most_edits = 4

abbrev pub most_moves : ℕ
most_moves = 6

unfoldable pub in_range : (count dispatchers moves : ℕ) → Bool
in_range count dispatchers moves =
    leb 1 dispatchers && (leb dispatchers most_edits && (leb dispatchers count && (leb (count - dispatchers) most_edits && (leb 1 moves && leb moves most_moves))))

-- The sum of the lengths, as a whole number: it does not have to fit a word.
unfoldable pub total : (lengths : List ℕ) → ℕ
total [] = 0
total (l ∷ ls) = l + total ls

-- 62 requires the ranges, and that the lengths together are the length of the bytes passed as edits.
unfoldable pub lists_right_def : (edits lengths : List ℕ) (dispatchers moves : ℕ) → Bool
lists_right_def edits lengths dispatchers moves = in_range (length lengths) dispatchers moves && eqb (total lengths) (length edits)

-- Sheet and book, then the goal: "empty it is 12, and bytes after its one rule are 16". The result is the rules of the book, and the goal.
unfoldable pub ask_aims : (sheet book goal : List ℕ) → Asked (List (Expr rule) × Expr rule)
ask_aims sheet book goal = do
  rules ← ask_sheet_and_book sheet book
  aim ← ask_rule (text_limits (graph_of sheet).n) goal
  passed (rules, aim)

-- The edits, each a text of its own: they stand one after the other, and once 62 has passed they fill the given bytes.
unfoldable pub cut : (edits lengths : List ℕ) → List (List ℕ)
cut edits [] = []
cut edits (l ∷ ls) = take l edits ∷ cut (drop l edits) ls

-- 21 to 26 for each, with the place in its own text.
unfoldable pub ask_edits : Limits → List (List ℕ) → Asked (List Edit)
ask_edits l [] = passed []
ask_edits l (t ∷ ts) = do
  Z ← ask_edit l t
  Zs ← ask_edits l ts
  passed (Z ∷ Zs)

-- "then 31 or 32, place 0, for the first dispatcher edit through which the carried book doesn't fit"
unfoldable pub ask_fits : List (Expr rule) → List Edit → Asked (Unit {0})
ask_fits rules [] = passed tt
ask_fits rules (Z ∷ Zs) = do
  ask_carried (carried_book Z rules)
  ask_fits rules Zs

-- All questions: 62, "asked before the sheet", sheet, book, goal, edits, 31 and 32. The result is the game.
unfoldable pub ask_game : (sheet book goal edits lengths : List ℕ) (dispatchers moves : ℕ) → Asked Game
ask_game sheet book goal edits lengths dispatchers moves = do
  is (lists_right_def edits lengths dispatchers moves) 62 0
  aims ← ask_aims sheet book goal
  Zs ← ask_edits (text_limits (graph_of sheet).n) (cut edits lengths)
  ask_fits aims.0 (take dispatchers Zs)
  passed (record { book = aims.0; goal = aims.1; dispatchers = take dispatchers Zs; disruptions = drop dispatchers Zs })

-- The place, from 0, of the first in a list that is refused; the list's length where none is.
unfoldable pub first_refused_def : {A B : Type 0} → (A → Asked B) → List A → ℕ
first_refused_def ask [] = 0
first_refused_def ask (x ∷ xs) = after (ask x) (λ b. suc (first_refused_def ask xs)) 0

-- The edit that a refusal is about, by its place in the list of edits: after 21 to 26 the first whose text is refused, after 31 and 32 the first
-- dispatcher edit through which the carried book doesn't fit. 0 after the earlier refusals: 62, sheet, book and goal.
unfoldable pub faulty_edit : (sheet book goal edits lengths : List ℕ) (dispatchers moves : ℕ) → ℕ
faulty_edit sheet book goal edits lengths dispatchers moves =
    let limits = text_limits (graph_of sheet).n in
    let texts = cut edits lengths in
    after (is (lists_right_def edits lengths dispatchers moves) 62 0 >> ask_aims sheet book goal) (λ aims.
    after (ask_edits limits texts) (λ Zs. first_refused_def (λ Z. ask_carried (carried_book Z aims.0)) (take dispatchers Zs)) (first_refused_def (ask_edit limits) texts)) 0

-- The call: the game's answer for these moves.
unfoldable pub ask_play : (sheet book goal edits lengths : List ℕ) (dispatchers moves : ℕ) → Asked Outcome
ask_play sheet book goal edits lengths dispatchers moves = do
  G ← ask_game sheet book goal edits lengths dispatchers moves
  passed (answer G (moves - 1) (graph_of sheet))

-- An outcome in numbers: 0 can't, 1 an edit, 2 a pass, and 3 after a refusal; and the edit, 0 where there is none.
abbrev pub outcome_number : Outcome → ℕ
outcome_number cannot = 0
outcome_number (first (edit i)) = 1
outcome_number (first pass) = 2

abbrev pub no_outcome : ℕ
no_outcome = 3

abbrev pub outcome_edit : Outcome → ℕ
outcome_edit cannot = 0
outcome_edit (first (edit i)) = i
outcome_edit (first pass) = 0
