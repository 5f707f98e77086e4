-- The refusals of the calls of words, and their places.
use mathlib.Core.Path.{◌≡◌, refl, sym, ◌∙◌, subst}
use mathlib.Core.List.{List}
use mathlib.Core.Logic.{◌⊎◌, inl, inr}
use Prim.Native.Nat.{ℕ, ◌≤◌}
use native.Mathlib.Omega.{arith}
use native.Mathlib.Decide.{dec_lt}
use lib.Dec.{leb}
use lib.ListN.{length, take}
use borrow.Author.Tests.{leb-false}
use Rattle.answer.specs.Asked.{Asked, passed, refused, ◌>>=◌, ◌>>◌, is}
use Rattle.answer.specs.Outputs.{ask_room}
use Rattle.answer.proofs.AskedLaws.{bind-refused}
use Rattle.answer.proofs.Refusals.{Refuses, refuses}
use Rattle.text.specs.Code.{code}
use Rattle.text.specs.Reading.{most_rules}
use Rattle.text.specs.Questions.{ask_book, ask_first, ask_edit}
use Rattle.text.proofs.TextRefusals.{book-refuses, edit-refuses}
use Rattle.names.specs.Scan.{tokens}
use Rattle.names.specs.Names.{Naming, Entry, name_in, ask_names}
use Rattle.names.proofs.PlaceLaws.{tokens-inside}
use Rattle.notation.specs.Grammar.{Goal}
use Rattle.notation.specs.Words.{word_limits, rule_limits, book_goals, edit_goals, book_words, edit_words, rule_words, parse_text, ask_words, ask_book_to_words, ask_edit_to_words, ask_rule_to_words, ask_book_from_words, ask_edit_from_words}
use Rattle.notation.proofs.ParseRefusals.{parse-refuses}
use Rattle.notation.proofs.EditRefusals.{Not69, never-69}
use Rattle.notation.proofs.RoundTrip.{question-refused, words-passed}
use Rattle.notation.proofs.Calls.{room-refused, from_words}
use Rattle.runs.proofs.EnterRefusals.{refused-between}
use Rattle.promises.specs.Words.{ReadingRefused, wrong_words, too_long, PrintingRefused, wrong_codes}
use Rattle.promises.proofs.Witnesses.{first_refused}
use Rattle.promises.proofs.WrongTables.{wrong_table}

within : {A : Type 0} {from to most q p : ℕ} → Refuses from to most {A = A} (refused q p) → (from ≤ q) × (q ≤ to) × (p ≤ most)
within (refuses q p i j k) = (i, j, k)

parsed-numbers : (words : List ℕ) (g : List Goal) (m : ℕ) (name : Naming) (q p : ℕ) → parse_text word_limits name words g m ≡ refused q p → (64 ≤ q) × (q ≤ 69) × (p ≤ length words)
parsed-numbers words g m name q p f = within (subst (Refuses 64 69 (length words)) f (parse-refuses name word_limits (length words) (tokens words) g m (tokens-inside words)))

below : {q : ℕ} → (q ≡ 69 → ⊥) → q ≤ 69 → q ≤ 68
below {q} n j = elim (dec_lt q 69) [ yes h ↦ omega arith | no h ↦ absurd (n (omega arith)) ]

edit-numbers : (words : List ℕ) (name : Naming) (q p : ℕ) → parse_text word_limits name words edit_goals 0 ≡ refused q p → (64 ≤ q) × (q ≤ 68) × (p ≤ length words)
edit-numbers words name q p f =
    let (i, j, k) = parsed-numbers words edit_goals 0 name q p f in
    let n : (q ≡ 69 → ⊥) = subst Not69 f (never-69 name word_limits (length words) (tokens words) edit_goals 0 tt) in
    (i, below n j, k)

-- Reading.
module _ (table words : List ℕ) (g : List Goal) (m last : ℕ)
    (numbers : (name : Naming) (q p : ℕ) → parse_text word_limits name words g m ≡ refused q p → (64 ≤ q) × (q ≤ last) × (p ≤ length words)) where
  abbrev Parsed : Naming → Asked (List ℕ)
  Parsed name = parse_text word_limits name words g m

  abbrev Read : Naming → Asked (List ℕ)
  Read name = ask_words word_limits name words g m

  abbrev Result : (room q p : ℕ) → Type 0
  Result room q p = ReadingRefused table words Parsed last room q p

  by-words : (room : ℕ) {q p : ℕ} {names : List Entry} → ask_names table ≡ passed names → Read (name_in names) ≡ refused q p → Result room q p
  unfolding ask_words
  by-words room {q} {p} {names} t e = go (bind-refused (Parsed (name_in names)) (λ b. is (leb (length b) word_limits.longest) 70 (length b) >> passed b) e)
    where
      go : (Parsed (name_in names) ≡ refused q p) ⊎ ((b : List ℕ) × (Parsed (name_in names) ≡ passed b) × ((is (leb (length b) word_limits.longest) 70 (length b) >> passed b) ≡ refused q p))
          → Result room q p
      go (inl f) = let (i, j, k) = numbers (name_in names) q p f in wrong_words t f i j k
      go (inr (b, f, asked)) = let (i, n, o) = question-refused (leb (length b) word_limits.longest) 70 (length b) b asked in too_long t f (leb-false (length b) word_limits.longest i) (sym n) (sym o)

  reading : (room : ℕ) {q p : ℕ} → from_words table Read room ≡ refused q p → Result room q p
  reading room {q} {p} e = go (bind-refused (ask_names table) (λ es. Read (name_in es) >>= (λ bytes. ask_room bytes room)) e)
    where
      inner : (es : List Entry) → ask_names table ≡ passed es → (Read (name_in es) ≡ refused q p) ⊎ ((b : List ℕ) × (Read (name_in es) ≡ passed b) × (ask_room b room ≡ refused q p)) → Result room q p
      inner es t (inl f) = by-words room t f
      inner es t (inr (b, f, r)) =
          let (parsed, short) = words-passed word_limits (name_in es) words g m f in
          let (i, n, o) = room-refused b room r in
          ReadingRefused.no_room t parsed short i (sym n) (sym o)

      go : (ask_names table ≡ refused q p) ⊎ ((es : List Entry) × (ask_names table ≡ passed es) × ((Read (name_in es) >>= (λ bytes. ask_room bytes room)) ≡ refused q p)) → Result room q p
      go (inl t) = let (n, o, w) = wrong_table table q p t in ReadingRefused.wrong_table t n o
      go (inr (es, t, f)) = inner es t (bind-refused (Read (name_in es)) (λ bytes. ask_room bytes room) f)

-- Printing: the questions after the table.
module _ (table : List ℕ) {A : Type 0} (ask : Asked A) (from to : ℕ) (printed : Naming → A → List ℕ) (room : ℕ) where
  abbrev After : List Entry → Asked (List ℕ)
  After es = ask >>= (λ a. ask_room (printed (name_in es) a) room)

  printing : {q p : ℕ} → (ask ≡ refused q p → (from ≤ q) × (q ≤ to)) → (after : List Entry → Asked (List ℕ)) → ((es : List Entry) → after es ≡ After es) → (ask_names table >>= after) ≡ refused q p
      → PrintingRefused table ask from to printed room q p
  printing {q} {p} numbers after same e = go (bind-refused (ask_names table) after e)
    where
      inner : (es : List Entry) → ask_names table ≡ passed es → (ask ≡ refused q p) ⊎ ((a : A) × (ask ≡ passed a) × (ask_room (printed (name_in es) a) room ≡ refused q p))
          → PrintingRefused table ask from to printed room q p
      inner es t (inl f) = let (i, j) = numbers f in wrong_codes t f i j
      inner es t (inr (a, f, r)) = let (i, n, o) = room-refused (printed (name_in es) a) room r in PrintingRefused.no_room t f i (sym n) (sym o)

      go : (ask_names table ≡ refused q p) ⊎ ((es : List Entry) × (ask_names table ≡ passed es) × (after es ≡ refused q p)) → PrintingRefused table ask from to printed room q p
      go (inl t) = let (n, o, w) = wrong_table table q p t in PrintingRefused.wrong_table t n o
      go (inr (es, t, f)) = inner es t (bind-refused ask (λ a. ask_room (printed (name_in es) a) room) (sym (same es) ∙ f))

then_is : {A B : Type 0} (x : Asked A) (y : Asked B) → (x >> y) ≡ (x >>= (λ a. y))
unfolding ◌>>◌ ◌>>=◌
then_is (passed a) y = refl
then_is (refused q p) y = refl

-- The calls.
pub book_reading : (table words : List ℕ) (room q p : ℕ) → ask_book_from_words table words room ≡ refused q p
    → ReadingRefused table words (λ name. parse_text word_limits name words book_goals most_rules) 69 room q p
unfolding ask_book_from_words
book_reading table words room q p e = reading table words book_goals most_rules 69 (parsed-numbers words book_goals most_rules) room e

pub edit_reading : (table words : List ℕ) (room q p : ℕ) → ask_edit_from_words table words room ≡ refused q p
    → ReadingRefused table words (λ name. parse_text word_limits name words edit_goals 0) 68 room q p
unfolding ask_edit_from_words
edit_reading table words room q p e = reading table words edit_goals 0 68 (edit-numbers words) room e

pub book_printing : (table book : List ℕ) (room q p : ℕ) → ask_book_to_words table book room ≡ refused q p
    → PrintingRefused table (ask_book word_limits book) 11 16 (λ name rules. book_words name book) room q p
unfolding ask_book_to_words
book_printing table book room q p e =
    printing table (ask_book word_limits book) 11 16 (λ name rules. book_words name book) room (λ f. refused-between (book-refuses word_limits book) f) _
    (λ es. then_is (ask_book word_limits book) (ask_room (book_words (name_in es) book) room)) e

pub edit_printing : (table edit : List ℕ) (room q p : ℕ) → ask_edit_to_words table edit room ≡ refused q p
    → PrintingRefused table (ask_edit word_limits edit) 21 26 (λ name what. edit_words name edit) room q p
unfolding ask_edit_to_words
edit_printing table edit room q p e =
    printing table (ask_edit word_limits edit) 21 26 (λ name what. edit_words name edit) room (λ f. refused-between (edit-refuses word_limits edit) f) _
    (λ es. then_is (ask_edit word_limits edit) (ask_room (edit_words (name_in es) edit) room)) e

pub rule_printing : (table text : List ℕ) (room q p : ℕ) → ask_rule_to_words table text room ≡ refused q p
    → PrintingRefused table (ask_first rule_limits (take rule_limits.longest text)) 12 15 (λ name K. rule_words name (code K)) room q p
unfolding ask_rule_to_words
rule_printing table text room q p e =
    printing table (ask_first rule_limits (take rule_limits.longest text)) 12 15 (λ name K. rule_words name (code K)) room (λ f. first_refused rule_limits text f) _ (λ es. refl) e
