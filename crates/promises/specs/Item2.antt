-- Item 2 of document 02: check bytes that miss 00 against FF. proofs/Item2 proves it.
use Rattle.std.specs.Prelude.{◌≡◌, false, List, [], ◌∷◌, ℕ, suc, ◌/◌, ◌%◌, ◌<◌, drop, get_or, set}
use Rattle.answer.specs.Asked.{Asked, refused}
use Rattle.seal.specs.Seal.{block_bytes, Form, modulo255, exchanged}
use Rattle.sheet.specs.Sheet.{SheetForm, present, former, sheet_bytes, graph_in, graph_of}
use Rattle.sheet.specs.Questions.{block_of, SoundIn, Sound}
use Rattle.store.specs.Converted.{ask_convert, converted}
use Rattle.sheet.specs.Noticed.{AsksSheetFirst}
use Rattle.bitset.specs.Words.{Bytes}

-- A sound sheet of a form, block 1 of which has no arrows.
pub record WithoutArrows (φ : SheetForm) (t : List ℕ) : Type 0 where
  pub are_bytes : Bytes t
  pub sound : SoundIn φ t
  pub none : (i j : ℕ) → (graph_in φ t).joined 0 i j ≡ false

pub record Item2 : Type 1 where
  -- "each stored little-endian in two bytes, s at 508 and t at 510 [..] Block 1 without arrows has s 3 and t 238."
  pub block_1 : (sheet : List ℕ) → WithoutArrows present sheet → drop 508 (block_of sheet 1) ≡ 3 ∷ 0 ∷ 238 ∷ 0 ∷ []
  -- For the old form, which the converter checks, document 01: "Bytes 510 and 511: sums s and t [..] Block 1 without arrows has 3 and 254."
  pub old_block_1 : (card : List ℕ) → WithoutArrows (former modulo255) card → drop 510 (block_of card 1) ≡ 3 ∷ 254 ∷ []
  -- "Every caller may now rely on this: in a sound sheet, a change of any single byte, or an exchange of two unequal neighbours among a block's first 508,
  -- gives 2 for that block": for every call that checks the sheet first, as each does (`SheetFirst` of demand 1).
  pub change_noticed : {A : Type 0} (call : List ℕ → Asked A) → AsksSheetFirst call → (sheet : List ℕ) → Bytes sheet → Sound sheet → (p x : ℕ) → p < sheet_bytes → x < 256 → (x ≡ get_or sheet p 0 → ⊥)
      → call (set sheet p x) ≡ refused 2 (p / block_bytes)
  pub exchange_noticed : {A : Type 0} (call : List ℕ → Asked A) → AsksSheetFirst call → (sheet : List ℕ) → Bytes sheet → Sound sheet → (p : ℕ) → p < sheet_bytes → suc (p % block_bytes) < 508
      → (get_or sheet p 0 ≡ get_or sheet (suc p) 0 → ⊥) → call (exchanged sheet p) ≡ refused 2 (p / block_bytes)
  -- "Old cards go through a converter that works in the card's own buffer, asks 1 to 4 of the old form and keeps the graph."
  pub converted_is_sound : (f : Form) (card : List ℕ) → Bytes card → SoundIn (former f) card → Sound (converted f card)
  pub converted_keeps_the_graph : (f : Form) (card : List ℕ) → Bytes card → SoundIn (former f) card → graph_of (converted f card) ≡ graph_in (former f) card
  pub refused_card_stays : (f : Form) (card : List ℕ) (q p : ℕ) → ask_convert f card ≡ refused q p → converted f card ≡ card
