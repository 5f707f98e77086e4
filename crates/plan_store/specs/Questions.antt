-- The questions of the calls (item 7 of document 02): "55 when the store's length, head, a filled sheet or an unfilled place is unsound, 56 when the name
-- isn't 1 to 7, 57 when it is unfilled for return or drop, in that order after the sheet's questions, place 0."
use Rattle.std.specs.Prelude.{◌≡◌, Bool, true, false, ◌&&◌, cond, List, ℕ, ◌-◌, eqb, leb, ltb, length, get_or, take}
use Rattle.answer.specs.Asked.{Asked, passed, refused, ◌>>=◌, ◌>>◌, is}
use Rattle.logic.specs.Graph.{all_below}
use Rattle.bitset.specs.Words.{member}
use Rattle.seal.specs.Seal.{block_bytes, modulo257, seal_right_def}
use Rattle.sheet.specs.Sheet.{sheet_bytes, graph_of}
use Rattle.sheet.specs.Questions.{ask_sheet}
use Rattle.sheet.specs.Masks.{zeros_at}
use Rattle.text.specs.Reading.{text_limits}
use Rattle.text.specs.Questions.{ask_book}
use Rattle.judge.specs.Questions.{ask_rules}
use Rattle.plan_store.specs.Store.{plan_count, store_bytes, place_start, place_in, filled_in}

abbrev pub is_passed : Asked (Unit {0}) → Bool
is_passed (passed u) = true
is_passed (refused q p) = false

-- Byte 0 is 4, bit 7 of byte 1 is clear, the rest of the body is zero, and the sums are right.
unfoldable pub head_right_def : List ℕ → Bool
head_right_def k = seal_right_def modulo257 k && (eqb (get_or k 0 0) 4 && (ltb (get_or k 1 0) 128 && zeros_at k 2 506))

-- A filled place is a sound sheet, an unfilled one is all zero.
unfoldable pub place_right_def : List ℕ → ℕ → Bool
place_right_def t i = cond (member (get_or t 1 0) i) (is_passed (ask_sheet (place_in t i))) (zeros_at t (place_start i) sheet_bytes)

-- The store's length, its head, and all seven places are right.
unfoldable pub store_right : List ℕ → Bool
store_right t = eqb (length t) store_bytes && (head_right_def (take block_bytes t) && all_below plan_count (place_right_def t))

-- 55
unfoldable pub ask_store : List ℕ → Asked (Unit {0})
ask_store t = is (store_right t) 55 0

-- A sound store is one that passes 55.
abbrev pub SoundStore : List ℕ → Type 0
SoundStore t = ask_store t ≡ passed tt

-- "names 1 to 7"
abbrev pub name_right : ℕ → Bool
name_right name = leb 1 name && leb name plan_count

-- 55 and 56.
unfoldable pub ask_name_def : List ℕ → (name : ℕ) → Asked (Unit {0})
ask_name_def store name = do
  ask_store store
  is (name_right name) 56 0

-- Then 57: the name is filled.
unfoldable pub ask_filled_def : List ℕ → (name : ℕ) → Asked (Unit {0})
ask_filled_def store name = do
  ask_name_def store name
  is (filled_in store (name - 1)) 57 0

-- "the present book is first read with the kept sheet's n and judged on it"
unfoldable pub ask_kept : (kept book : List ℕ) → Asked (Unit {0})
ask_kept kept book = do
  rules ← ask_book (text_limits (graph_of kept).n) book
  ask_rules (graph_of kept) rules 0

-- The questions of blank, keep, return and drop.
unfoldable pub ask_blank_store : (length : ℕ) → Asked (Unit {0})
ask_blank_store len = is (eqb len store_bytes) 55 0

unfoldable pub ask_keep : (sheet store : List ℕ) (name : ℕ) → Asked (Unit {0})
ask_keep sheet store name = do
  ask_sheet sheet
  ask_name_def store name

unfoldable pub ask_return : (sheet store : List ℕ) (name : ℕ) (book : List ℕ) → Asked (Unit {0})
ask_return sheet store name book = do
  ask_sheet sheet
  ask_filled_def store name
  ask_kept (place_in store (name - 1)) book

abbrev pub ask_drop : (store : List ℕ) (name : ℕ) → Asked (Unit {0})
ask_drop store name = ask_filled_def store name
