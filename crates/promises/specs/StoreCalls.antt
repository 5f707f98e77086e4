-- The calls that write a store (item 7 of document 02), one after the other on one store. Each takes its own sheet and book, so whatever was
-- entered between two of them is covered. proofs/GivenBack proves `GivesBack`, and Item7 of the crate `promises` says it.
use Rattle.std.specs.Prelude.{◌≡◌, ◌&&◌, cond, List, [], ◌∷◌, ℕ, ◌-◌, eqb, length}
use Rattle.answer.specs.Asked.{passed, after}
use Rattle.plan_store.specs.Store.{place_in, filled_in}
use Rattle.plan_store.specs.Questions.{name_right, ask_blank_store, ask_keep, ask_return, ask_drop}
use Rattle.plan_store.specs.Calls.{blank_store_def, kept_store, returned_sheet, dropped_store}
use Rattle.bitset.specs.Words.{Bytes}

-- "Blank [..], keep, return, drop"
pub data StoreCall : Type 0 where
  blank : StoreCall
  keep : (sheet : List ℕ) (name : ℕ) → StoreCall
  return : (sheet : List ℕ) (name : ℕ) (book : List ℕ) → StoreCall
  drop : (name : ℕ) → StoreCall

-- A sheet that is kept is the contents of a buffer of bytes; nothing is required of the other sheets or of the books.
abbrev pub KeepsBytes : StoreCall → Type 0
KeepsBytes blank = Unit {0}
KeepsBytes (keep sheet name) = Bytes sheet
KeepsBytes (return sheet name book) = Unit {0}
KeepsBytes (drop name) = Unit {0}

-- The store after a call, and after all of them: a return leaves it as it is.
abbrev pub store_after : (store : List ℕ) → StoreCall → List ℕ
store_after t blank = blank_store_def t
store_after t (keep sheet name) = kept_store sheet t name
store_after t (return sheet name book) = t
store_after t (drop name) = dropped_store t name

unfoldable pub store_at_end : (store : List ℕ) → List StoreCall → List ℕ
store_at_end t [] = t
store_at_end t (c ∷ cs) = store_at_end (store_after t c) cs

-- What is kept under a name: nothing, or a sheet.
pub data Kept : Type 0 where
  nothing : Kept
  some : (sheet : List ℕ) → Kept

-- After one more call, from the call and its answer alone: a blank that is done leaves nothing, a keep that is done the sheet passed to it, a
-- drop that is done nothing, and no other call changes it.
abbrev pub told : (name : ℕ) → Kept → (store : List ℕ) → StoreCall → Kept
told v k t blank = after (ask_blank_store (length t)) (λ u. nothing) k
told v k t (keep sheet w) = cond (eqb w v) (after (ask_keep sheet t w) (λ u. some sheet) k) k
told v k t (return sheet w book) = k
told v k t (drop w) = cond (eqb w v) (after (ask_drop t w) (λ u. nothing) k) k

unfoldable pub last_kept : (name : ℕ) → Kept → (store : List ℕ) → List StoreCall → Kept
last_kept v k t [] = k
last_kept v k t (c ∷ cs) = last_kept v (told v k t c) (store_after t c) cs

-- What a store that comes from elsewhere holds at the start.
abbrev pub held_in : (store : List ℕ) (name : ℕ) → Kept
held_in t v = cond (name_right v && filled_in t (v - 1)) (some (place_in t (v - 1))) nothing

-- "a return that is done gives back, byte for byte, the sheet last kept under that name", where k was kept at the start.
abbrev pub GivesBack : Kept → (store : List ℕ) → List StoreCall → (name : ℕ) → Type 0
GivesBack k t calls name = (sheet book : List ℕ) → ask_return sheet (store_at_end t calls) name book ≡ passed tt
    → last_kept name k t calls ≡ some (returned_sheet sheet (store_at_end t calls) name book)
