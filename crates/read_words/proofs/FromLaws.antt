-- The calls that read words, in terms of their questions.
use mathlib.Core.Path.{◌≡◌, refl, sym, ◌∙◌, ap}
use mathlib.Core.List.{List, []}
use Prim.Native.Nat.{ℕ, ◌≤◌, ◌<◌}
use native.Mathlib.Omega.{arith}
use lib.Dec.{leb}
use lib.ListN.{length, take, drop}
use lib.Seq.{take_at}
use borrow.Author.Tests.{le-leb, lt-leb, lt-ltb, le-ltb, eq-eqb, ne_eqb}
use Rattle.answer.specs.Asked.{Asked, passed, refused, ◌>>=◌, ◌>>◌, is, outcome}
use Rattle.answer.specs.Outputs.{ask_room, written_length, written_at_start}
use Rattle.answer.proofs.AskedLaws.{bind-on, bind-ends, refused-not-passed}
use Rattle.answer.proofs.OutputLaws.{room-short, room-enough}
use Rattle.names.specs.Names.{Entry, name_in, ask_names}
use Rattle.names.proofs.NameLaws.{table-refused}
use Rattle.notation.specs.Words.{word_limits, parse_text, ask_words, too_many, rule_in_words_def, ask_book_from_words, ask_edit_from_words}
use Rattle.buffers.specs.Filled.{filled_from}
use Rattle.buffers.proofs.FilledLaws.{filled-at-start}
use Rattle.keywords.specs.Rows.{slot_of, level_of, goal_of, goals_of, row_goals}
use Rattle.name_table.specs.NameSlots.{Holds, Held}
use Rattle.read_words.specs.FromWords.{ask_from_words}

-- Words that were read: their codes, and how many; words that were not.
pub record Read (q : Asked (List ℕ)) (n : ℕ) : Type 0 where
  pub bytes : List ℕ
  pub is : q ≡ passed bytes
  pub count : n ≡ length bytes

pub was_read : (q : Asked (List ℕ)) (n : ℕ) → passed n ≡ written_length q → Read q n
unfolding written_length ◌>>=◌
was_read (passed bytes) n e = record { bytes = bytes; is = refl; count = cc }
was_read (refused m p) n e = refused-not-passed (sym e)

pub was-refused : (q : Asked (List ℕ)) (n p : ℕ) → refused n p ≡ written_length q → q ≡ refused n p
unfolding written_length ◌>>=◌
was-refused (passed bytes) n p e = refused-not-passed e
was-refused (refused m o) n p e = cc

-- Names that were read.
pub record Known (table held : List ℕ) : Type 0 where
  pub entries : List Entry
  pub are : ask_names table ≡ passed entries
  pub holds : Holds held (name_in entries)

pub known : (table held : List ℕ) → passed tt ≡ outcome (ask_names table) → Held (ask_names table) held → Known table held
unfolding outcome Held
known table held e h = go (ask_names table) refl e h where
  go : (q : Asked (List Entry)) → ask_names table ≡ q → passed tt ≡ outcome q → Held q held → Known table held
  go (passed es) i o k = record { entries = es; are = i; holds = k }
  go (refused n p) i o k = refused-not-passed (sym o)

module _ (start rules : ℕ) (table text : List ℕ) (room : ℕ) where
  pub names-wrong : {n p : ℕ} → ask_names table ≡ refused n p → ask_from_words start rules table text room ≡ refused n p
  names-wrong e = unfold ask_from_words in bind-ends e _

  module _ {held : List ℕ} (k : Known table held) where
    abbrev pub words_read : Asked (List ℕ)
    words_read = parse_text word_limits (name_in k.entries) text (row_goals start 1) rules

    abbrev rest : Asked (List ℕ)
    rest = ask_words word_limits (name_in k.entries) text (row_goals start 1) rules >>= (λ bytes. ask_room bytes room)

    from-here : ask_from_words start rules table text room ≡ rest
    from-here = unfold ask_from_words in bind-on k.are _

    pub words-wrong : {n p : ℕ} → words_read ≡ refused n p → ask_from_words start rules table text room ≡ refused n p
    unfolding ask_words
    words-wrong e = from-here ∙ bind-ends (bind-ends e (λ bytes. is (leb (length bytes) 4096) 70 (length bytes) >> passed bytes)) (λ bytes. ask_room bytes room)

    module _ {n : ℕ} (r : Read words_read n) where
      read-on : ask_words word_limits (name_in k.entries) text (row_goals start 1) rules ≡ (is (leb (length r.bytes) 4096) 70 (length r.bytes) >> passed r.bytes)
      read-on = unfold ask_words in bind-on r.is _

      pub words_long : 4096 < n → ask_from_words start rules table text room ≡ refused 70 n
      unfolding is ◌>>◌
      words_long h = from-here ∙ bind-ends (read-on ∙ rw (lt-leb (length r.bytes) 4096 (omega (arith, r.count))) (ap (refused 70) (sym r.count))) _

      module _ (h : n ≤ 4096) where
        within : ask_words word_limits (name_in k.entries) text (row_goals start 1) rules ≡ passed r.bytes
        unfolding is ◌>>◌
        within = read-on ∙ rw (le-leb (length r.bytes) 4096 (omega (arith, r.count)))

        pub words-short : room < n → ask_from_words start rules table text room ≡ refused 33 n
        words-short l = from-here ∙ bind-on within _ ∙ room-short r.bytes room n r.count l

        pub words-fit : n ≤ room → ask_from_words start rules table text room ≡ passed r.bytes
        words-fit l = from-here ∙ bind-on within _ ∙ room-enough r.bytes room n r.count l

-- A book, an edit.
pub book-is : (table text : List ℕ) (room : ℕ) → ask_from_words 0 32 table text room ≡ ask_book_from_words table text room
unfolding ask_from_words ask_book_from_words goals_of
book-is table text room = refl

pub edit-is : (table text : List ℕ) (room : ℕ) → ask_from_words 16 0 table text room ≡ ask_edit_from_words table text room
unfolding ask_from_words ask_edit_from_words goals_of goal_of slot_of level_of
edit-is table text room = refl

-- Where a rule begins.
module _ (table text : List ℕ) (i : ℕ) where
  pub no-such-rule : 32 ≤ i → length text ≡ rule_in_words_def table text i
  no-such-rule h = unfold rule_in_words_def in sym (rw (le-ltb i 32 h))

  module _ (h : i < 32) where
    pub no_names : {n p : ℕ} → ask_names table ≡ refused n p → length text ≡ rule_in_words_def table text i
    unfolding rule_in_words_def too_many ◌>>=◌
    no_names {n} {p} e = sym (rw (lt-ltb i 32 h, e, ne_eqb n 69 (λ q. absurd (omega (arith, table-refused table e)))))

    module _ {held : List ℕ} (k : Known table held) where
      by-words : (q : Asked (List ℕ)) → words_read 0 i table text 0 k ≡ q → too_many (length text) q ≡ rule_in_words_def table text i
      unfolding rule_in_words_def goals_of
      by-words q e = ap (too_many (length text)) (sym e ∙ sym (bind-on k.are (λ es. parse_text word_limits (name_in es) text [] i))) ∙ sym (rw (lt-ltb i 32 h))

      pub all-rules-read : {n : ℕ} → Read (words_read 0 i table text 0 k) n → length text ≡ rule_in_words_def table text i
      all-rules-read r = unfold too_many in by-words (passed r.bytes) r.is

      pub rule-there : {n p : ℕ} → n ≡ 69 → words_read 0 i table text 0 k ≡ refused n p → p ≡ rule_in_words_def table text i
      unfolding too_many
      rule-there {n} {p} g e = sym (rw (eq-eqb n 69 g)) ∙ by-words (refused n p) e

      pub other-fault : {n p : ℕ} → (n ≡ 69 → ⊥) → words_read 0 i table text 0 k ≡ refused n p → length text ≡ rule_in_words_def table text i
      unfolding too_many
      other-fault {n} {p} g e = sym (rw (ne_eqb n 69 g)) ∙ by-words (refused n p) e

-- The codes, copied from the buffer they were read into.
pub copied : (bytes codes zeros output : List ℕ) (n : ℕ) → n ≡ length bytes → n ≤ length zeros → n ≤ length output → codes ≡ filled_from 0 bytes zeros
    → filled_from 0 (take n codes) output ≡ written_at_start bytes output
copied bytes codes zeros output n e h l q =
    ap (λ b. filled_from 0 b output) (ap (take n) (q ∙ filled-at-start bytes zeros (omega arith)) ∙ take_at bytes (drop (length bytes) zeros) n (sym e))
    ∙ filled-at-start bytes output (omega arith)
