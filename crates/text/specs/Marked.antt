-- Marked examples 1 to 10 of document 01 on sheet T, and texts with faults: from the bytes as printed, through reading, meaning,
-- carrying and running, to the printed result.
use Rattle.std.specs.Prelude.{◌≡◌, Bool, true, false, ◌&&◌, ◌||◌, cond, List, [], ◌∷◌, ◌++◌, map, ℕ, zero, suc, ltb, eqb}
use Rattle.answer.specs.Asked.{Asked, passed, refused, ◌>>=◌}
use Rattle.logic.specs.Syntax.{node}
use Rattle.logic.specs.Limits.{max_nodes}
use Rattle.logic.specs.Graph.{Graph, Nodes}
use Rattle.logic.specs.Meaning.{value}
use Rattle.logic.specs.Steps.{run}
use Rattle.logic.specs.Carry.{carry}
use Rattle.text.specs.Code.{code}
use Rattle.text.specs.Reading.{Limits, text_limits, former_limits_def, expr, read_as}
use Rattle.text.specs.Questions.{whole, ask_book, ask_first, ask_edit, ask_rule_end}

-- Sheet T: 3 nodes, label 0 has nodes 0 and 1, label 1 has node 2, arrow 0 goes from 0 to 2 and from 1 to 2.
unfoldable pub sheet_t : Graph
sheet_t = record { n = 3; in_use = λ i. ltb i 3; labelled = λ k i. (eqb k 0 && ltb i 2) || (eqb k 1 && eqb i 2); joined = λ a i j. eqb a 0 && (ltb i 2 && eqb j 2) }

-- The nodes below n in a set, as the examples print them.
unfoldable pub members : ℕ → Nodes → List ℕ
members zero v = []
members (suc n) v = members n v ++ cond (v n) (n ∷ []) []

-- What an example shows: nodes; whether a rule holds; or the carried text, whether it holds on T, and whether the rule holds after the edit.
pub data Shown : Type 0 where
  nodes : List ℕ → Shown
  holds : Bool → Shown
  carried : (text : List ℕ) (before after : Bool) → Shown

-- A row of a table: what the definitions give, and what is expected.
pub record Row (A : Type 0) : Type 0 where
  pub given : A
  pub printed : A

infix 68 ◌gives◌
abbrev pub ◌gives◌ : {A : Type 0} → A → A → Row A
x gives y = record { given = x; printed = y }

-- The table is right: in each row the two are equal.
abbrev pub Right : {A : Type 0} → List (Row A) → Type 0
Right rows = map (λ r. r.given) rows ≡ map (λ r. r.printed) rows

-- A node expression, a rule, and a rule through an edit, each from its bytes. The count in example 6 is one that document 01 allowed: the
-- expression still means what the example shows, though books and edits may no longer contain it.
unfoldable pub read_on_t : Limits → List ℕ → Asked Shown
read_on_t l t = do
  E ← whole 20 (read_as l (expr node) t 0)
  passed (nodes (members 3 (value sheet_t E)))

abbrev pub on_t : List ℕ → Asked Shown
on_t t = read_on_t (text_limits 3) t

abbrev pub former_on_t : List ℕ → Asked Shown
former_on_t t = read_on_t (former_limits_def 3) t

unfoldable pub judged_on_t : List ℕ → Asked Shown
judged_on_t t = do
  K ← ask_first (text_limits 3) t
  passed (holds (value sheet_t K))

unfoldable pub through_on_t : List ℕ → List ℕ → Asked Shown
through_on_t t z = do
  Z ← ask_edit (text_limits 3) z
  K ← ask_first (text_limits 3) t
  passed (carried (code (carry Z K)) (value sheet_t (carry Z K)) (value (run Z sheet_t) K))

abbrev pub B : List ℕ
B = 0x21 ∷ 0x03 ∷ 0x00 ∷ 0x08 ∷ 0x11 ∷ 0x00 ∷ 0x03 ∷ 0x01 ∷ []

unfoldable pub examples : List (Row (Asked Shown))
examples =
    -- 1
    on_t (0x05 ∷ 0x03 ∷ 0x00 ∷ []) gives passed (nodes (2 ∷ []))
    -- 2
    ∷ on_t (0x08 ∷ 0x11 ∷ 0x00 ∷ 0x03 ∷ 0x01 ∷ []) gives passed (nodes (0 ∷ 1 ∷ []))
    -- 3
    ∷ on_t (0x09 ∷ 0x11 ∷ 0x00 ∷ 0x02 ∷ []) gives passed (nodes (2 ∷ []))
    -- 4
    ∷ on_t (0x0A ∷ 0x02 ∷ 0x12 ∷ 0x11 ∷ 0x00 ∷ 0x01 ∷ []) gives passed (nodes (2 ∷ []))
    -- 5
    ∷ on_t (0x0B ∷ 0x00 ∷ 0x11 ∷ 0x00 ∷ 0x01 ∷ []) gives passed (nodes (2 ∷ []))
    -- 6
    ∷ former_on_t (0x0A ∷ 0x00 ∷ 0x11 ∷ 0x00 ∷ 0x02 ∷ []) gives passed (nodes (0 ∷ 1 ∷ 2 ∷ []))
    -- 7
    ∷ judged_on_t B gives passed (holds true)
    -- 8
    ∷ through_on_t B (0x32 ∷ 0x01 ∷ 0x04 ∷ 0x02 ∷ 0x30 ∷ []) gives passed (carried (0x21 ∷ 0x03 ∷ 0x00 ∷ 0x08 ∷ 0x11 ∷ 0x00 ∷ 0x06 ∷ 0x03 ∷ 0x01 ∷ 0x05 ∷ 0x04 ∷ 0x02 ∷ []) false false)
    -- 9
    ∷ through_on_t B (0x32 ∷ 0x01 ∷ 0x04 ∷ 0x02 ∷ 0x31 ∷ 0x01 ∷ 0x04 ∷ 0x02 ∷ 0x30 ∷ []) gives passed (carried (0x21 ∷ 0x03 ∷ 0x00 ∷ 0x08 ∷ 0x11 ∷ 0x00 ∷ 0x07 ∷ 0x06 ∷ 0x03 ∷ 0x01 ∷ 0x05 ∷ 0x04 ∷ 0x02 ∷ 0x04 ∷ 0x02 ∷ []) true true)
    -- 10
    ∷ through_on_t (0x21 ∷ 0x03 ∷ 0x01 ∷ 0x03 ∷ 0x00 ∷ []) (0x35 ∷ 0x23 ∷ 0x00 ∷ 0x03 ∷ 0x01 ∷ 0x31 ∷ 0x00 ∷ 0x04 ∷ 0x02 ∷ 0x30 ∷ 0x30 ∷ 0x30 ∷ []) gives passed (carried (0x25 ∷ 0x26 ∷ 0x27 ∷ 0x23 ∷ 0x00 ∷ 0x03 ∷ 0x01 ∷ 0x21 ∷ 0x03 ∷ 0x01 ∷ 0x07 ∷ 0x03 ∷ 0x00 ∷ 0x04 ∷ 0x02 ∷ 0x26 ∷ 0x23 ∷ 0x00 ∷ 0x03 ∷ 0x01 ∷ 0x21 ∷ 0x03 ∷ 0x01 ∷ 0x03 ∷ 0x00 ∷ []) false false)
    ∷ []

-- the same bytes a number of times, and then others
unfoldable pub times : ℕ → List ℕ → List ℕ → List ℕ
times zero bytes rest = rest
times (suc m) bytes rest = bytes ++ times m bytes rest

-- What reading finds in a book, in an edit, and in the first rule of a text, without the result.
pub data Found : Type 0 where
  sound : Found
  no : (number place : ℕ) → Found

unfoldable pub found : {A : Type 0} → Asked A → Found
found (passed a) = sound
found (refused q p) = no q p

abbrev pub book_of : ℕ → List ℕ → Found
book_of n t = found (ask_book (text_limits n) t)

abbrev pub edit_of : ℕ → List ℕ → Found
edit_of n t = found (ask_edit (text_limits n) t)

abbrev pub first_of : List ℕ → Found
first_of t = found (ask_rule_end t)

-- a stored book, read with the former ranges
abbrev pub stored_of : List ℕ → Found
stored_of t = found (ask_book (former_limits_def max_nodes) t)

-- Texts that show the places and the order of the questions, each with what reading finds.
unfoldable pub texts : List (Row Found)
texts =
    -- an empty book is sound, an empty edit is 22, an empty text has no first rule
    book_of 3 [] gives sound
    ∷ edit_of 3 [] gives no 22 0
    ∷ first_of [] gives no 12 0
    -- 12: the place is the length
    ∷ book_of 3 (0x21 ∷ 0x01 ∷ []) gives no 12 2
    ∷ book_of 3 (0x24 ∷ 0x00 ∷ []) gives no 12 2
    -- 13: 01 is not a rule, 03 not an arrow, 30 and 00 are nothing that a book has
    ∷ book_of 3 (0x01 ∷ []) gives no 13 0
    ∷ book_of 3 (0x23 ∷ 0x02 ∷ 0x08 ∷ 0x03 ∷ []) gives no 13 3
    ∷ book_of 3 (0x30 ∷ []) gives no 13 0
    ∷ book_of 3 (0x23 ∷ 0x02 ∷ 0x01 ∷ 0x00 ∷ []) gives no 13 3
    ∷ book_of 3 (0x0C ∷ 0x18 ∷ 0x20 ∷ 0x28 ∷ 0x2F ∷ 0x36 ∷ []) gives no 13 0
    -- 15 for a number before the next byte is looked at; label 47 and 48, arrow 15 and 16, node below n
    ∷ book_of 3 (0x24 ∷ 0x3C ∷ []) gives no 15 1
    ∷ book_of 3 (0x23 ∷ 0x03 ∷ []) gives no 15 1
    ∷ book_of 4 (0x23 ∷ 0x03 ∷ 0x01 ∷ []) gives sound
    ∷ book_of 3 (0x23 ∷ 0x00 ∷ 0x03 ∷ 0x30 ∷ []) gives no 15 3
    ∷ book_of 3 (0x23 ∷ 0x00 ∷ 0x03 ∷ 0x2F ∷ []) gives sound
    ∷ book_of 3 (0x22 ∷ 0x11 ∷ 0x0F ∷ 0x11 ∷ 0x10 ∷ []) gives no 15 4
    -- the byte of a count is not a code
    ∷ book_of 3 (0x23 ∷ 0x00 ∷ 0x0A ∷ 0x03 ∷ 0x11 ∷ 0x00 ∷ 0x01 ∷ []) gives sound
    -- the count of an 0A: 1 to 60, whatever n; example 6 in a book is 15
    ∷ book_of 3 (0x23 ∷ 0x00 ∷ 0x0A ∷ 0x00 ∷ 0x11 ∷ 0x00 ∷ 0x02 ∷ []) gives no 15 3
    ∷ book_of 3 (0x23 ∷ 0x00 ∷ 0x0A ∷ 0x01 ∷ 0x11 ∷ 0x00 ∷ 0x02 ∷ []) gives sound
    ∷ book_of 3 (0x23 ∷ 0x00 ∷ 0x0A ∷ 0x3C ∷ 0x11 ∷ 0x00 ∷ 0x01 ∷ []) gives sound
    ∷ book_of 3 (0x23 ∷ 0x00 ∷ 0x0A ∷ 0x3D ∷ []) gives no 15 3
    -- the count of an 0B: 0 to 59
    ∷ book_of 3 (0x23 ∷ 0x00 ∷ 0x0B ∷ 0x00 ∷ 0x11 ∷ 0x00 ∷ 0x01 ∷ []) gives sound
    ∷ book_of 3 (0x23 ∷ 0x00 ∷ 0x0B ∷ 0x3B ∷ 0x11 ∷ 0x00 ∷ 0x01 ∷ []) gives sound
    ∷ book_of 3 (0x23 ∷ 0x00 ∷ 0x0B ∷ 0x3C ∷ 0x11 ∷ 0x00 ∷ 0x01 ∷ []) gives no 15 3
    -- the same in an edit and in a first rule; a stored book may have any count, and nodes below 60
    ∷ edit_of 3 (0x31 ∷ 0x00 ∷ 0x0A ∷ 0x00 ∷ 0x11 ∷ 0x00 ∷ 0x02 ∷ 0x30 ∷ []) gives no 25 3
    ∷ edit_of 3 (0x31 ∷ 0x00 ∷ 0x0B ∷ 0x3C ∷ 0x11 ∷ 0x00 ∷ 0x02 ∷ 0x30 ∷ []) gives no 25 3
    ∷ first_of (0x23 ∷ 0x00 ∷ 0x0A ∷ 0x3D ∷ 0x11 ∷ 0x00 ∷ 0x01 ∷ []) gives no 15 3
    ∷ stored_of (0x23 ∷ 0x3B ∷ 0x0A ∷ 0x00 ∷ 0x11 ∷ 0x00 ∷ 0x0B ∷ 0xFF ∷ 0x11 ∷ 0x00 ∷ 0x02 ∷ []) gives sound
    ∷ stored_of (0x23 ∷ 0x3C ∷ 0x01 ∷ []) gives no 15 1
    -- level 32 and 33; 13 before 14 before 15; 12 before all of them
    ∷ book_of 3 (times 31 (0x27 ∷ []) (0x23 ∷ 0x00 ∷ 0x01 ∷ [])) gives no 14 33
    ∷ book_of 3 (times 30 (0x27 ∷ []) (0x23 ∷ 0x00 ∷ 0x01 ∷ [])) gives sound
    ∷ book_of 3 (times 32 (0x27 ∷ []) (0x01 ∷ [])) gives no 13 32
    ∷ book_of 3 (times 32 (0x27 ∷ []) (0x23 ∷ 0x03 ∷ [])) gives no 14 32
    ∷ book_of 3 (times 32 (0x27 ∷ []) []) gives no 12 32
    ∷ book_of 3 (0x23 ∷ 0x01 ∷ times 31 (0x05 ∷ []) []) gives no 12 33
    -- Z is at the level of its step: forty steps
    ∷ edit_of 3 (times 40 (0x32 ∷ 0x01 ∷ 0x04 ∷ 0x02 ∷ []) (0x30 ∷ [])) gives sound
    -- P is one level deeper
    ∷ edit_of 3 (times 30 (0x35 ∷ 0x23 ∷ 0x00 ∷ 0x01 ∷ []) (0x30 ∷ [])) gives no 22 121
    ∷ edit_of 3 (times 31 (0x35 ∷ 0x23 ∷ 0x00 ∷ 0x01 ∷ []) (0x30 ∷ [])) gives no 24 123
    -- K of a 35 is at level 2
    ∷ edit_of 3 (0x35 ∷ times 30 (0x27 ∷ []) (0x23 ∷ 0x00 ∷ 0x01 ∷ 0x30 ∷ 0x30 ∷ 0x30 ∷ [])) gives no 24 33
    ∷ edit_of 3 (0x35 ∷ times 29 (0x27 ∷ []) (0x23 ∷ 0x00 ∷ 0x01 ∷ 0x30 ∷ 0x30 ∷ 0x30 ∷ [])) gives sound
    -- 16 before the first byte of a 33rd rule is read, after the faults of rules 0 to 31
    ∷ book_of 3 (times 32 (0x23 ∷ 0x00 ∷ 0x01 ∷ []) []) gives sound
    ∷ book_of 3 (times 32 (0x23 ∷ 0x00 ∷ 0x01 ∷ []) (0xFF ∷ [])) gives no 16 96
    ∷ book_of 3 (times 31 (0x23 ∷ 0x00 ∷ 0x01 ∷ []) (0x23 ∷ 0x00 ∷ 0x02 ∷ 0x23 ∷ [])) gives no 16 96
    ∷ book_of 3 (times 31 (0x23 ∷ 0x00 ∷ 0x01 ∷ []) (0x23 ∷ 0x03 ∷ 0x02 ∷ 0x23 ∷ [])) gives no 15 94
    -- 26: the first byte after the edit
    ∷ edit_of 3 (0x30 ∷ 0x30 ∷ []) gives no 26 1
    ∷ edit_of 3 (0x31 ∷ 0x00 ∷ 0x01 ∷ 0x30 ∷ 0xFF ∷ []) gives no 26 4
    -- the same questions about an edit are 21 to 25
    ∷ edit_of 3 (0x31 ∷ 0x30 ∷ []) gives no 25 1
    ∷ edit_of 3 (0x21 ∷ 0x01 ∷ 0x01 ∷ []) gives no 23 0
    -- only the first rule is read, n as 60, and the place of 12 is the whole text's length
    ∷ first_of (0x23 ∷ 0x3B ∷ 0x01 ∷ 0xFF ∷ []) gives sound
    ∷ first_of (0x23 ∷ 0x3C ∷ 0x01 ∷ 0xFF ∷ []) gives no 15 1
    ∷ first_of (0x21 ∷ 0x01 ∷ []) gives no 12 2
    -- 11 and 21 before all others
    ∷ book_of 3 (times 4097 (0x01 ∷ []) []) gives no 11 0
    ∷ edit_of 3 (times 4097 (0x01 ∷ []) []) gives no 21 0
    ∷ first_of (0x23 ∷ 0x00 ∷ 0x01 ∷ times 4094 (0x01 ∷ []) []) gives no 11 0
    ∷ book_of 3 (times 4096 (0x01 ∷ []) []) gives no 13 0
    ∷ []
