-- What the calls that print and read words have checked, by their answers.
use mathlib.Core.Path.{◌≡◌, refl, sym, ◌∙◌, ap, subst}
use mathlib.Core.List.{List}
use mathlib.Core.Logic.{◌⊎◌, inl, inr}
use Prim.Native.Nat.{ℕ, ◌≤◌, ◌<◌}
use native.Mathlib.Omega.{arith}
use lib.ListN.{length}
use lib.Dec.{leb}
use borrow.Author.Tests.{leb-true, leb-false}
use Rattle.answer.specs.Asked.{Asked, passed, refused, ◌>>=◌, ◌>>◌}
use Rattle.answer.specs.Outputs.{ask_room}
use Rattle.answer.proofs.AskedLaws.{passed-same, is-then, bind-on, then-on, bind-passed, then-passed, bind-refused}
use Rattle.answer.proofs.OutputLaws.{room-enough}
use Rattle.names.specs.Names.{Naming, Entry, name_in, ask_names}
use Rattle.names.proofs.NameLaws.{table-refused}
use Rattle.notation.proofs.RoundTrip.{question-refused}

pub room-passed : (bytes : List ℕ) (room : ℕ) {out : List ℕ} → ask_room bytes room ≡ passed out → (length out ≤ room) × (bytes ≡ out)
unfolding ask_room
room-passed bytes room e =
    let (short, f) = is-then (leb (length bytes) room) 33 (length bytes) (passed bytes) e in
    let same = passed-same f in
    (subst (λ z. length z ≤ room) same (leb-true (length bytes) room short), same)

pub room-given : (bytes : List ℕ) (room : ℕ) → length bytes ≤ room → ask_room bytes room ≡ passed bytes
room-given bytes room h = room-enough bytes room (length bytes) refl h

-- What a call that prints has checked; and one that reads.
pub record Printed (table : List ℕ) {A : Type 0} (ask : Asked A) (print : Naming → List ℕ) (words : List ℕ) : Type 0 where
  pub names : List Entry
  pub table_passes : ask_names table ≡ passed names
  pub what : A
  pub passes : ask ≡ passed what
  pub words_are : print (name_in names) ≡ words

module _ (table : List ℕ) {A : Type 0} (ask : Asked A) (print : Naming → List ℕ) (room : ℕ) where
  abbrev pub to_words : Asked (List ℕ)
  to_words = ask_names table >>= (λ es. ask >> ask_room (print (name_in es)) room)

  pub printed : {words : List ℕ} → to_words ≡ passed words → Printed table ask print words
  printed {words} e =
      let (es, t, f) = bind-passed (ask_names table) (λ es. ask >> ask_room (print (name_in es)) room) words e in
      let (a, p, r) = then-passed ask (ask_room (print (name_in es)) room) words f in
      record { names = es; table_passes = t; what = a; passes = p; words_are = (room-passed (print (name_in es)) room r).1 }

  pub prints : {es : List Entry} {a : A} → ask_names table ≡ passed es → ask ≡ passed a → length (print (name_in es)) ≤ room → to_words ≡ passed (print (name_in es))
  prints {es} t p h = bind-on t (λ es. ask >> ask_room (print (name_in es)) room) ∙ then-on p (ask_room (print (name_in es)) room) ∙ room-given (print (name_in es)) room h

pub record WasRead (table : List ℕ) (read : Naming → Asked (List ℕ)) (room : ℕ) (codes : List ℕ) : Type 0 where
  pub names : List Entry
  pub table_passes : ask_names table ≡ passed names
  pub reads : read (name_in names) ≡ passed codes
  pub fits : length codes ≤ room

module _ (table : List ℕ) (read : Naming → Asked (List ℕ)) (room : ℕ) where
  abbrev pub from_words : Asked (List ℕ)
  from_words = ask_names table >>= (λ es. read (name_in es) >>= (λ bytes. ask_room bytes room))

  pub was_read : {codes : List ℕ} → from_words ≡ passed codes → WasRead table read room codes
  was_read {codes} e =
      let (es, t, f) = bind-passed (ask_names table) (λ es. read (name_in es) >>= (λ bytes. ask_room bytes room)) codes e in
      let (b, p, r) = bind-passed (read (name_in es)) (λ bytes. ask_room bytes room) codes f in
      record { names = es; table_passes = t; reads = p ∙ ap passed (room-passed b room r).1; fits = (room-passed b room r).0 }

  pub reads_so : {es : List Entry} {codes : List ℕ} → ask_names table ≡ passed es → read (name_in es) ≡ passed codes → length codes ≤ room → from_words ≡ passed codes
  reads_so {codes = codes} t p h = bind-on t (λ es. read (name_in es) >>= (λ bytes. ask_room bytes room)) ∙ bind-on p (λ bytes. ask_room bytes room) ∙ room-given codes room h

-- Why a call that reads has refused: the words, if it is 64 to 70.
pub room-refused : (bytes : List ℕ) (room : ℕ) {q p : ℕ} → ask_room bytes room ≡ refused q p → (room < length bytes) × (33 ≡ q) × (length bytes ≡ p)
unfolding ask_room
room-refused bytes room e = let (f, n, o) = question-refused (leb (length bytes) room) 33 (length bytes) bytes e in (leb-false (length bytes) room f, n, o)

pub record WordsRefused (table : List ℕ) (read : Naming → Asked (List ℕ)) (q p : ℕ) : Type 0 where
  pub names : List Entry
  pub table_passes : ask_names table ≡ passed names
  pub refuses : read (name_in names) ≡ refused q p

module _ (table : List ℕ) (read : Naming → Asked (List ℕ)) (room : ℕ) {q p : ℕ} (low : 64 ≤ q) where
  pub words-refused : from_words table read room ≡ refused q p → WordsRefused table read q p
  words-refused e = go (bind-refused (ask_names table) (λ es. read (name_in es) >>= (λ bytes. ask_room bytes room)) e)
    where
      inner : (es : List Entry) → ask_names table ≡ passed es → (read (name_in es) ≡ refused q p) ⊎ ((b : List ℕ) × (read (name_in es) ≡ passed b) × (ask_room b room ≡ refused q p))
          → WordsRefused table read q p
      inner es t (inl f) = record { names = es; table_passes = t; refuses = f }
      inner es t (inr (b, f, r)) = let z = (room-refused b room r).1 in absurd (omega arith)

      go : (ask_names table ≡ refused q p) ⊎ ((es : List Entry) × (ask_names table ≡ passed es) × ((read (name_in es) >>= (λ bytes. ask_room bytes room)) ≡ refused q p)) → WordsRefused table read q p
      go (inl t) = let z = table-refused table t in absurd (omega arith)
      go (inr (es, t, f)) = inner es t (bind-refused (read (name_in es)) (λ bytes. ask_room bytes room) f)

-- One table has one list of names.
pub one_table : (table : List ℕ) {es es' : List Entry} → ask_names table ≡ passed es → ask_names table ≡ passed es' → es ≡ es'
one_table table t t' = passed-same (sym t ∙ t')
