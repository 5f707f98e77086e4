-- The promises of words are kept.
use mathlib.Core.Path.{◌≡◌, sym, ◌∙◌, ap, subst}
use mathlib.Core.List.{List}
use Prim.Native.Nat.{ℕ, ◌≤◌}
use lib.ListN.{length, take}
use Rattle.answer.specs.Asked.{passed, refused, ◌>>=◌}
use Rattle.answer.specs.Outputs.{ask_room}
use Rattle.answer.proofs.AskedLaws.{bind-passed}
use Rattle.logic.specs.Syntax.{Expr, rule, Edit}
use Rattle.text.specs.Code.{code}
use Rattle.text.specs.Reading.{most_rules}
use Rattle.text.specs.Questions.{ask_book, ask_first, ask_edit}
use Rattle.names.specs.Scan.{tokens_of, tokens}
use Rattle.names.specs.Names.{Entry, name_in, ask_names}
use Rattle.names.proofs.NameLaws.{table-free}
use Rattle.notation.specs.Words.{word_limits, rule_limits, book_goals, edit_goals, book_words, edit_words, rule_words, read_book, read_edit, read_rule, ask_book_to_words, ask_edit_to_words, ask_rule_to_words, ask_book_from_words, ask_edit_from_words}
use Rattle.notation.specs.Grammar.{Goal}
use Rattle.notation.specs.Spell.{spell, uses}
use Rattle.notation.specs.Layout.{laid}
use Rattle.notation.specs.Faults.{SpelledBook, SpelledEdit}
use Rattle.notation.proofs.SameSpelling.{same-spelling}
use Rattle.notation.proofs.RoundTrip.{book-back, edit-back, rule-back, book_read, edit_read, book_fault, edit_fault}
use Rattle.notation.proofs.Calls.{room-passed, printed, prints, was_read, reads_so, words-refused, one_table}
use Rattle.promises.proofs.WrongTables.{wrong_table}
use Rattle.promises.proofs.WordRefusals.{book_reading, edit_reading, book_printing, edit_printing, rule_printing}
use Rattle.promises.proofs.WordRules.{rule_in_words, rule_placed, rules_before, not_after, later_words}
use Rattle.promises.specs.Words.{RuleComesBack, IsBook, IsEdit, HasWords, SameNames, FaultOf, WordPromises}

module _ (table : List ℕ) where
  book-again : (book words : List ℕ) (room enough : ℕ) → ask_book_to_words table book room ≡ passed words → length book ≤ enough → ask_book_from_words table words enough ≡ passed book
  unfolding ask_book_to_words ask_book_from_words
  book-again book words room enough e h =
      let p = printed table (ask_book word_limits book) (λ name. book_words name book) room e in
      let back = subst (λ z. read_book (name_in p.names) z ≡ passed book) p.words_are (book-back p.names (table-free table p.table_passes) book p.passes) in
      reads_so table (λ name. read_book name words) enough p.table_passes back h

  edit-again : (edit words : List ℕ) (room enough : ℕ) → ask_edit_to_words table edit room ≡ passed words → length edit ≤ enough → ask_edit_from_words table words enough ≡ passed edit
  unfolding ask_edit_to_words ask_edit_from_words
  edit-again edit words room enough e h =
      let p = printed table (ask_edit word_limits edit) (λ name. edit_words name edit) room e in
      let back = subst (λ z. read_edit (name_in p.names) z ≡ passed edit) p.words_are (edit-back p.names (table-free table p.table_passes) edit p.passes) in
      reads_so table (λ name. read_edit name words) enough p.table_passes back h

  rule-again : (text words : List ℕ) (room : ℕ) → ask_rule_to_words table text room ≡ passed words → RuleComesBack table text words
  unfolding ask_rule_to_words
  rule-again text words room e =
      let first = ask_first rule_limits (take rule_limits.longest text) in
      let (es, t, f) = bind-passed (ask_names table) (λ es. first >>= (λ K. ask_room (rule_words (name_in es) (code K)) room)) words e in
      let (K, p, r) = bind-passed first (λ K. ask_room (rule_words (name_in es) (code K)) room) words f in
      let same = (room-passed (rule_words (name_in es) (code K)) room r).1 in
      record { names = es; table_passes = t; K = K; is_first = p; comes_back = subst (λ z. read_rule (name_in es) z ≡ passed (code K)) same (rule-back es (table-free table t) (take rule_limits.longest text) p) }

  is-book : (words book : List ℕ) (room : ℕ) → ask_book_from_words table words room ≡ passed book → IsBook table words book
  unfolding ask_book_from_words
  is-book words book room e =
      let w = was_read table (λ name. read_book name words) room e in
      let (rules, passes, same) = book_read (name_in w.names) words w.reads in
      record { names = w.names; table_passes = w.table_passes; rules = rules; passes = passes; same_tokens = same }

  is-edit : (words edit : List ℕ) (room : ℕ) → ask_edit_from_words table words room ≡ passed edit → IsEdit table words edit
  unfolding ask_edit_from_words
  is-edit words edit room e =
      let w = was_read table (λ name. read_edit name words) room e in
      let (Z, passes, same) = edit_read (name_in w.names) words w.reads in
      record { names = w.names; table_passes = w.table_passes; what = Z; passes = passes; same_tokens = same }

  one-book : {words words' book : List ℕ} → IsBook table words book → IsBook table words' book → tokens_of (tokens words) ≡ tokens_of (tokens words')
  one-book {book = book} a b = a.same_tokens ∙ ap (λ es. spell (name_in es) book book_goals most_rules) (one_table table a.table_passes b.table_passes) ∙ sym b.same_tokens

  one-edit : {words words' edit : List ℕ} → IsEdit table words edit → IsEdit table words' edit → tokens_of (tokens words) ≡ tokens_of (tokens words')
  one-edit {edit = edit} a b = a.same_tokens ∙ ap (λ es. spell (name_in es) edit edit_goals 0) (one_table table a.table_passes b.table_passes) ∙ sym b.same_tokens

  book-in-words : (book : List ℕ) (es : List Entry) (rules : List (Expr rule)) → ask_names table ≡ passed es → ask_book word_limits book ≡ passed rules
      → HasWords (ask_book_to_words table) (ask_book_from_words table) book
  unfolding ask_book_to_words ask_book_from_words
  book-in-words book es rules t p =
      let text = book_words (name_in es) book in
      record {
        words = text;
        printed = λ room h. prints table (ask_book word_limits book) (λ name. book_words name book) room t p h;
        read_back = λ room h. reads_so table (λ name. read_book name text) room t (book-back es (table-free table t) book p) h;
      }

  edit-in-words : (edit : List ℕ) (es : List Entry) (Z : Edit) → ask_names table ≡ passed es → ask_edit word_limits edit ≡ passed Z
      → HasWords (ask_edit_to_words table) (ask_edit_from_words table) edit
  unfolding ask_edit_to_words ask_edit_from_words
  edit-in-words edit es Z t p =
      let text = edit_words (name_in es) edit in
      record {
        words = text;
        printed = λ room h. prints table (ask_edit word_limits edit) (λ name. edit_words name edit) room t p h;
        read_back = λ room h. reads_so table (λ name. read_edit name text) room t (edit-back es (table-free table t) edit p) h;
      }

  book-faulty : (words : List ℕ) (room q p : ℕ) → ask_book_from_words table words room ≡ refused q p → 64 ≤ q → q ≤ 69 → FaultOf SpelledBook table words p
  unfolding ask_book_from_words
  book-faulty words room q p e low high =
      let w = words-refused table (λ name. read_book name words) room low e in
      record { names = w.names; table_passes = w.table_passes; first_wrong = book_fault w.names (table-free table w.table_passes) words high w.refuses }

  edit-faulty : (words : List ℕ) (room q p : ℕ) → ask_edit_from_words table words room ≡ refused q p → 64 ≤ q → q ≤ 69 → FaultOf SpelledEdit table words p
  unfolding ask_edit_from_words
  edit-faulty words room q p e low high =
      let w = words-refused table (λ name. read_edit name words) room low e in
      record { names = w.names; table_passes = w.table_passes; first_wrong = edit_fault w.names (table-free table w.table_passes) words high w.refuses }

-- With another table: the tokens are the same, so the words are, too.
module _ (table table' : List ℕ) where
  by-another : (codes : List ℕ) (g : List Goal) (m : ℕ) (s : SameNames table table' (uses codes g m)) {es : List Entry} → ask_names table ≡ passed es
      → laid (spell (name_in es) codes g m) ≡ laid (spell (name_in s.names') codes g m)
  by-another codes g m s t = ap (λ es. laid (spell (name_in es) codes g m)) (one_table table t s.table_passes) ∙ ap laid (same-spelling (name_in s.names) (name_in s.names') codes g m s.same)

  another-book : (book words : List ℕ) (room enough : ℕ) → SameNames table table' (uses book book_goals most_rules) → ask_book_to_words table book room ≡ passed words → length book ≤ enough
      → ask_book_from_words table' words enough ≡ passed book
  unfolding ask_book_to_words ask_book_from_words
  another-book book words room enough s e h =
      let p = printed table (ask_book word_limits book) (λ name. book_words name book) room e in
      let same = sym (by-another book book_goals most_rules s p.table_passes) ∙ p.words_are in
      let back = subst (λ z. read_book (name_in s.names') z ≡ passed book) same (book-back s.names' (table-free table' s.table_passes') book p.passes) in
      reads_so table' (λ name. read_book name words) enough s.table_passes' back h

  another-edit : (edit words : List ℕ) (room enough : ℕ) → SameNames table table' (uses edit edit_goals 0) → ask_edit_to_words table edit room ≡ passed words → length edit ≤ enough
      → ask_edit_from_words table' words enough ≡ passed edit
  unfolding ask_edit_to_words ask_edit_from_words
  another-edit edit words room enough s e h =
      let p = printed table (ask_edit word_limits edit) (λ name. edit_words name edit) room e in
      let same = sym (by-another edit edit_goals 0 s p.table_passes) ∙ p.words_are in
      let back = subst (λ z. read_edit (name_in s.names') z ≡ passed edit) same (edit-back s.names' (table-free table' s.table_passes') edit p.passes) in
      reads_so table' (λ name. read_edit name words) enough s.table_passes' back h

pub word-promises : WordPromises
word-promises =
    record {
      book_has_words = book-in-words;
      edit_has_words = edit-in-words;
      book_comes_back = book-again;
      edit_comes_back = edit-again;
      rule_comes_back = rule-again;
      read_is_book = is-book;
      read_is_edit = is-edit;
      one_spelling_of_a_book = λ table words words' book room room' e f. one-book table (is-book table words book room e) (is-book table words' book room' f);
      one_spelling_of_an_edit = λ table words words' edit room room' e f. one-edit table (is-edit table words edit room e) (is-edit table words' edit room' f);
      book_normal = λ table words book room e. let b = is-book table words book room e in book-in-words table book b.names b.rules b.table_passes b.passes;
      edit_normal = λ table words edit room e. let b = is-edit table words edit room e in edit-in-words table edit b.names b.what b.table_passes b.passes;
      book_fault = book-faulty;
      edit_fault = edit-faulty;
      table_fault = wrong_table;
      book_reading = book_reading;
      edit_reading = edit_reading;
      book_printing = book_printing;
      edit_printing = edit_printing;
      rule_printing = rule_printing;
      rule_in_words = rule_in_words;
      rule_placed = rule_placed;
      rules_before = rules_before;
      not_after = not_after;
      later_words = later_words;
      book_by_another = another-book;
      edit_by_another = another-edit;
    }
