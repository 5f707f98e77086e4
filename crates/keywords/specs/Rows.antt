-- What follows a word, as numbers: an item is a byte, and a row of items is a number with the first item in its lowest byte.
use Rattle.std.specs.Prelude.{◌≡◌, cond, List, [], ◌∷◌, ◌++◌, ℕ, zero, suc, ◌+◌, ◌-◌, ◌/◌, ◌%◌, ◌^◌, ◌≤◌, ◌<◌, eqb, leb, get_or}
use Rattle.logic.specs.Syntax.{node, arrow, rule}
use Rattle.logic.specs.Limits.{Kind, label_number, arrow_number, node_number, least_count, most_count}
use Rattle.names.specs.Token.{Token, ascii}
use Rattle.notation.specs.Grammar.{at_else, at_end, text_end, Slot, expr, steps, Goal, mark, number, thing}

-- The marks, items 1 to 3.
unfoldable pub mark_of : ℕ → Token
mark_of item = get_or (ascii "(" ∷ ascii "," ∷ ascii ")" ∷ []) (item - 1) []

-- The names and counts, items 4 to 8.
unfoldable pub kind_of : ℕ → Kind
kind_of item = get_or (label_number ∷ arrow_number ∷ node_number ∷ least_count ∷ most_count ∷ []) (item - 4) label_number

-- The things, items 9 to 17; the first five are one level deeper.
abbrev pub things : List Slot
things =
    expr node ∷ expr arrow ∷ expr rule ∷ steps at_else ∷ steps at_end
    ∷ steps at_else ∷ steps at_end ∷ steps text_end ∷ expr rule ∷ []

unfoldable pub slot_of : ℕ → Slot
slot_of item = get_or things (item - 9) (expr rule)

unfoldable pub level_of : (item level : ℕ) → ℕ
level_of item d = cond (leb item 13) (suc d) d

unfoldable pub goal_of : (item level : ℕ) → Goal
goal_of item d = cond (leb item 3) (mark (mark_of item)) (cond (leb item 8) (number (kind_of item)) (thing (slot_of item) (level_of item d)))

-- The goals of a row at a level, for at most `most` items. A thing at the row's own level ends the row.
unfoldable pub goals_of : (most row level : ℕ) → List Goal
goals_of zero row d = []
goals_of (suc n) row d = cond (eqb row 0) [] (goal_of (row % 256) d ∷ cond (leb 14 (row % 256)) [] (goals_of n (row / 256) d))

abbrev pub row_goals : (row level : ℕ) → List Goal
row_goals row d = goals_of 8 row d

-- The goals of the rows at the levels above, from level 1 on.
unfoldable pub goals_above : (rows : List ℕ) (level : ℕ) → List Goal
goals_above rows zero = []
goals_above rows (suc zero) = []
goals_above rows (suc (suc d)) = row_goals (get_or rows (suc d) 0) (suc d) ++ goals_above rows (suc d)

-- All that is wanted: what remains of a level's row, then what remains of those above it.
abbrev pub wanted : (rows : List ℕ) (row level : ℕ) → List Goal
wanted rows row d = row_goals row d ++ goals_above rows d

-- The rows of the phrases.
unfoldable pub row_table : List ℕ
row_table =
    0x00000000000000 ∷  -- all
    0x00000000000000 ∷  -- none
    0x00000000030901 ∷  -- not ( E )
    0x00000309020901 ∷  -- and ( E , E )
    0x00000309020901 ∷  -- or ( E , E )
    0x00000309020A01 ∷  -- some ( R , E )
    0x00000309020A01 ∷  -- every ( R , E )
    0x0309020A020701 ∷  -- at-least ( m , R , E )
    0x0309020A020801 ∷  -- at-most ( m , R , E )
    0x00000000030A01 ∷  -- reversed ( R )
    0x0000030A020A01 ∷  -- or ( R , R )
    0x0000030A020A01 ∷  -- and ( R , R )
    0x0000030A020A01 ∷  -- without ( R , R )
    0x00000309020A01 ∷  -- to ( R , E )
    0x00000306020601 ∷  -- pair ( i , i )
    0x00000309020901 ∷  -- each ( E , E )
    0x0000030A020A01 ∷  -- each-arrow ( R , R )
    0x00000309020601 ∷  -- is ( i , E )
    0x030A0206020601 ∷  -- joined ( i , i , R )
    0x0000030B020B01 ∷  -- and ( K , K )
    0x0000030B020B01 ∷  -- or ( K , K )
    0x00000000030B01 ∷  -- not ( K )
    0x000E0309020401 ∷  -- mark ( k , E ) Z
    0x000E0309020401 ∷  -- unmark ( k , E ) Z
    0x000E030A020501 ∷  -- add ( a , R ) Z
    0x000E030A020501 ∷  -- take ( a , R ) Z
    0x000E0D0C030B01 ∷  -- if ( K ) P Q Z
    []

-- What is added to a step's row so that its last item is that of the steps around it.
abbrev pub closings : List ℕ
closings = 0 ∷ 0 ∷ 0 ∷ 0 ∷ 0x010000000000 ∷ 0 ∷ 0x010000000000 ∷ 0x020000000000 ∷ 0 ∷ []

unfoldable pub closing_of : ℕ → ℕ
closing_of item = get_or closings (item - 9) 0

unfoldable pub row_of : (item p : ℕ) → ℕ
row_of item p = get_or row_table p 0 + closing_of item

-- A row at a level: each byte is an item, and steps up to the text's end are wanted at level 1 only.
pub data Items (d : ℕ) : (row : ℕ) → Type 0 where
  none : Items d 0
  more : (row : ℕ) → 1 ≤ row % 256 → row % 256 < 18 → (row % 256 ≡ 16 → d ≡ 1) → Items d (row / 256) → Items d row

pub record Row (d row : ℕ) : Type 0 where
  pub small : row < 2 ^ 64
  pub items : Items d row
