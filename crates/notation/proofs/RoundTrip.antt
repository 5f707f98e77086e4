-- What is printed is read back; what is read is a book or an edit, and the tokens are its spelling.
-- For one naming; `promises/proofs/Words.antt` says it for the calls.
use mathlib.Core.Path.{◌≡◌, refl, sym, ◌∙◌, ap, subst}
use mathlib.Core.Bool.{Bool, true, false, ◌&&◌, and-eq-true_iff}
use mathlib.Core.List.{List, [], ◌∷◌, ◌++◌}
use Prim.Native.Nat.{ℕ, ◌≤◌}
use native.Mathlib.Omega.{arith}
use lib.Dec.{leb, ltb→lt, leb→le}
use lib.ListN.{length, length-append}
use borrow.Author.Tests.{leb-true, le-leb}
use mathlib.Core.Logic.{◌⊎◌, inl, inr}
use Rattle.answer.specs.Asked.{refused, passed, ◌>>=◌, ◌>>◌, is}
use Rattle.answer.proofs.AskedLaws.{passed-same, so-then, is-then, bind-on, bind-passed, bind-refused, refused-not-passed}
use Rattle.logic.specs.Syntax.{Expr, rule, Edit}
use Rattle.logic.specs.Limits.{Kind, label_number, arrow_number, node_number, least_count, most_count, ranges, max_nodes}
use Rattle.logic.proofs.Bools.{is_true}
use Rattle.logic.proofs.ListLaws.{all_so}
use Rattle.text.specs.Code.{code}
use Rattle.text.specs.Reading.{Limits, edit, most_rules}
use Rattle.text.specs.Questions.{ask_book, ask_first, ask_edit}
use Rattle.text.proofs.Converse.{Allowed}
use Rattle.text.proofs.TextSpelling.{EachAllowed, SpellsRules, spelled-book-passes, spelled-edit-passes, book-is-spelled, edit-is-spelled, first-is-spelled}
use Rattle.names.specs.Token.{Token}
use Rattle.names.specs.Scan.{Placed, tokens_of, tokens}
use Rattle.names.specs.Names.{Naming, Entry, name_in}
use Rattle.names.proofs.NameLaws.{Free, names-words}
use Rattle.notation.specs.Grammar.{Goal}
use Rattle.notation.specs.Spell.{spell}
use Rattle.notation.specs.Layout.{at_start, laid}
use Rattle.notation.specs.Faults.{Spelled, SpelledBook, SpelledEdit, roomier, WrongAt, FirstWrong}
use Rattle.notation.specs.Words.{word_limits, rule_limits, book_goals, edit_goals, book_words, edit_words, rule_words, parse_text, ask_words, read_book, read_edit, read_rule}
use Rattle.notation.proofs.Says.{Says}
use Rattle.notation.proofs.ReadSays.{read-says}
use Rattle.notation.proofs.SaidRead.{Lawful, says-read}
use Rattle.notation.proofs.SaidSpelled.{says-spelled}
use Rattle.notation.proofs.SaidCode.{says-book, says-edit, book-passes, edit-passes}
use Rattle.notation.proofs.CodeSaid.{Said, book-said, edit-said, rule-said}
use Rattle.notation.proofs.LayoutLaws.{laid-scanned}
use Rattle.notation.proofs.Ended.{two_deeper, SomeNumber, Good}
use Rattle.notation.proofs.FaultPlace.{NoWordsAt, FirstFault, Located, located}
use Rattle.notation.proofs.TableNaming.{Small, lawful, Marks, says-proper}

pub small : Small (ranges max_nodes)
small label_number x f = omega (arith, ltb→lt x 48 f)
small arrow_number x f = omega (arith, ltb→lt x 16 f)
small node_number x f = omega (arith, ltb→lt x 60 f)
small least_count x f = omega (arith, leb-true x 60 ((and-eq-true_iff (leb 1 x) (leb x 60)).0 (is_true (leb 1 x && leb x 60) f)).1)
small most_count x f = omega (arith, leb→le x 59 f)

-- What is read, with its length checked last.
module _ (l : Limits) (name : Naming) (text : List ℕ) (g : List Goal) (m : ℕ) {bytes : List ℕ} where
  pub words-pass : parse_text l name text g m ≡ passed bytes → length bytes ≤ l.longest → ask_words l name text g m ≡ passed bytes
  unfolding ask_words
  words-pass e short = bind-on e (λ b. is (leb (length b) l.longest) 70 (length b) >> passed b) ∙ so-then 70 (length bytes) (passed bytes) (le-leb (length bytes) l.longest short)

  pub words-passed : ask_words l name text g m ≡ passed bytes → (parse_text l name text g m ≡ passed bytes) × (length bytes ≤ l.longest)
  unfolding ask_words
  words-passed e =
      let (b, parsed, asked) = bind-passed (parse_text l name text g m) (λ b. is (leb (length b) l.longest) 70 (length b) >> passed b) bytes e in
      let (short, same) = is-then (leb (length b) l.longest) 70 (length b) (passed b) asked in
      (parsed ∙ same, subst (λ z. length z ≤ l.longest) (passed-same same) (leb-true (length b) l.longest short))

-- What passes the questions says the same as its spelling; and what says so, given two levels more, passes with as many.
module _ (name : Naming) {bytes : List ℕ} {ts : List Token} where
  pub book-says : SpelledBook name word_limits bytes ts → Says name word_limits bytes ts book_goals most_rules
  book-says s =
      let b = book-is-spelled word_limits bytes s.rules s.passes in
      let h = subst (λ z. Said name word_limits z book_goals most_rules) (sym b.spells.text-is) (book-said name word_limits s.rules most_rules b.spells.few b.spells.rules) in
      subst (λ z. Says name word_limits bytes z book_goals most_rules) (sym (says-spelled name word_limits h.says) ∙ s.tokens_are) h.says

  pub edit-says : SpelledEdit name word_limits bytes ts → Says name word_limits bytes ts edit_goals 0
  edit-says s =
      let b = edit-is-spelled word_limits bytes s.what s.passes in
      let h = subst (λ z. Said name word_limits z edit_goals 0) (sym b.text-is) (edit-said name word_limits s.what b.within) in
      subst (λ z. Says name word_limits bytes z edit_goals 0) (sym (says-spelled name word_limits h.says) ∙ s.tokens_are) h.says

  pub said-book : Says name (two_deeper word_limits) bytes ts book_goals most_rules → SpelledBook name (roomier (length bytes)) bytes ts
  said-book h =
      let b = says-book name (two_deeper word_limits) h in
      let each : EachAllowed (roomier (length bytes)) b.book = all_so (λ K a. record { numbers_fit = a.numbers_fit; levels-fit = a.levels-fit }) b.book b.spells.rules in
      let spells : SpellsRules (roomier (length bytes)) most_rules bytes b.book = record { text-is = b.spells.text-is; few = b.spells.few; rules = each } in
      record { rules = b.book; passes = spelled-book-passes (roomier (length bytes)) bytes b.book (record { short = omega arith; spells = spells }); tokens_are = says-spelled name (two_deeper word_limits) h }

  pub said-edit : Says name (two_deeper word_limits) bytes ts edit_goals 0 → SpelledEdit name (roomier (length bytes)) bytes ts
  said-edit h =
      let b = says-edit name (two_deeper word_limits) h in
      let within : Allowed (roomier (length bytes)) edit 1 b.what = record { numbers_fit = b.within.numbers_fit; levels-fit = b.within.levels-fit } in
      record {
        what = b.what;
        passes = spelled-edit-passes (roomier (length bytes)) bytes b.what (record { text-is = b.is_code; short = omega arith; within = within });
        tokens_are = says-spelled name (two_deeper word_limits) h;
      }

-- What is printed is read back.
module _ (es : List Entry) (free : Free es) where
  laid-read : (l : Limits) → Small l.numbers → {bytes : List ℕ} {ts : List Token} {g : List Goal} {m : ℕ} → Says (name_in es) l bytes ts g m → Marks g → length bytes ≤ l.longest
      → ask_words l (name_in es) (laid (spell (name_in es) bytes g m)) g m ≡ passed bytes
  laid-read l few {bytes} {ts} {g} {m} h marks short =
      let spelled : spell (name_in es) bytes g m ≡ ts = says-spelled (name_in es) l h in
      let scanned : tokens_of (tokens (laid ts)) ≡ ts = laid-scanned at_start 0 0 ts (says-proper (name_in es) l (names-words es free) h marks) 0 in
      let text = laid (spell (name_in es) bytes g m) in
      words-pass l (name_in es) text g m (says-read (name_in es) l (lawful es free l few) (length text) h (tokens text) (ap (λ z. tokens_of (tokens (laid z))) spelled ∙ scanned)) short

  pub book-back : (bytes : List ℕ) {book : List (Expr rule)} → ask_book word_limits bytes ≡ passed book → read_book (name_in es) (book_words (name_in es) bytes) ≡ passed bytes
  book-back bytes {book} e = laid-read word_limits small (book-says (name_in es) (record { rules = book; passes = e; tokens_are = refl })) tt (book-is-spelled word_limits bytes book e).short

  pub edit-back : (bytes : List ℕ) {Z : Edit} → ask_edit word_limits bytes ≡ passed Z → read_edit (name_in es) (edit_words (name_in es) bytes) ≡ passed bytes
  edit-back bytes {Z} e = laid-read word_limits small (edit-says (name_in es) (record { what = Z; passes = e; tokens_are = refl })) tt (edit-is-spelled word_limits bytes Z e).short

  pub rule-back : (text : List ℕ) {K : Expr rule} → ask_first rule_limits text ≡ passed K → read_rule (name_in es) (rule_words (name_in es) (code K)) ≡ passed (code K)
  rule-back text {K} e =
      let b = first-is-spelled rule_limits text K e in
      let size : length text ≡ length (code K ++ b.rest) = ap length b.text-is in
      laid-read rule_limits small (rule-said (name_in es) rule_limits K b.within).says tt (let s = b.short in omega (arith, length-append (code K) b.rest))

-- What is read says the same as the words, whether or not a table has passed.
module _ (name : Naming) (text : List ℕ) {bytes : List ℕ} where
  pub book_read : read_book name text ≡ passed bytes → (book : List (Expr rule)) × (ask_book word_limits bytes ≡ passed book) × (tokens_of (tokens text) ≡ spell name bytes book_goals most_rules)
  book_read e =
      let (parsed, short) = words-passed word_limits name text book_goals most_rules e in
      let h = read-says name word_limits (length text) (tokens text) book_goals most_rules parsed in
      ((says-book name word_limits h).book, book-passes name word_limits short h, sym (says-spelled name word_limits h))

  pub edit_read : read_edit name text ≡ passed bytes → (Z : Edit) × (ask_edit word_limits bytes ≡ passed Z) × (tokens_of (tokens text) ≡ spell name bytes edit_goals 0)
  edit_read e =
      let (parsed, short) = words-passed word_limits name text edit_goals 0 e in
      let h = read-says name word_limits (length text) (tokens text) edit_goals 0 parsed in
      ((says-edit name word_limits h).what, edit-passes name word_limits short h, sym (says-spelled name word_limits h))

-- A fault is at the first wrong token.
some : (k : Kind) → SomeNumber word_limits k
some label_number = record { x = 0; in-range = tt }
some arrow_number = record { x = 0; in-range = tt }
some node_number = record { x = 0; in-range = tt }
some least_count = record { x = 1; in-range = tt }
some most_count = record { x = 0; in-range = tt }

pub question-refused : {A : Type 0} (b : Bool) (n o : ℕ) (a : A) {q p : ℕ} → (is b n o >> passed a) ≡ refused q p → (b ≡ false) × (n ≡ q) × (o ≡ p)
unfolding is ◌>>◌
question-refused true n o a e = refused-not-passed (sym e)
question-refused false n o a e = (refl, cc, cc)

module _ (es : List Entry) (free : Free es) (text : List ℕ) (g : List Goal) (m : ℕ) {q p : ℕ} where
  fault-placed : Good word_limits g → ask_words word_limits (name_in es) text g m ≡ refused q p → q ≤ 69 → FirstFault (name_in es) word_limits (length text) (tokens text) g m p
  unfolding ask_words
  fault-placed good e few = go (bind-refused (parse_text word_limits (name_in es) text g m) (λ b. is (leb (length b) word_limits.longest) 70 (length b) >> passed b) e)
    where
      law : Lawful (name_in es) word_limits
      law = lawful es free word_limits small

      go : (parse_text word_limits (name_in es) text g m ≡ refused q p) ⊎ ((b : List ℕ) × (parse_text word_limits (name_in es) text g m ≡ passed b) × ((is (leb (length b) word_limits.longest) 70 (length b) >> passed b) ≡ refused q p))
          → FirstFault (name_in es) word_limits (length text) (tokens text) g m p
      go (inl f) = subst (Located (name_in es) word_limits law some (length text) (tokens text) g m) f (located (name_in es) word_limits law some (length text) (tokens text) g m good)
      go (inr (b, parsed, asked)) = let z = (question-refused (leb (length b) word_limits.longest) 70 (length b) b asked).1 in absurd (omega arith)

-- The same, stated for codes that pass and their spelling.
module _ (name : Naming) (S : Spelled) (g : List Goal) (m : ℕ) where
  abbrev IsSaid : Type 0
  IsSaid = (bytes : List ℕ) (ts : List Token) → S word_limits bytes ts → Says name word_limits bytes ts g m

  abbrev IsSpelled : Type 0
  IsSpelled = (bytes : List ℕ) (ts : List Token) → Says name (two_deeper word_limits) bytes ts g m → S (roomier (length bytes)) bytes ts

  no_words : IsSaid → (end : ℕ) (before rest : List Placed) (p : ℕ) → NoWordsAt name word_limits end before rest g m p → WrongAt S end before rest p
  no_words to end before [] p w = (w.0, λ bytes s. w.1 bytes (to bytes _ s))
  no_words to end before (t ∷ rest) p w = (w.0, λ bytes more s. w.1 bytes more (to bytes _ s))

  first_wrong : IsSaid → IsSpelled → (words : List ℕ) (p : ℕ) → FirstFault name word_limits (length words) (tokens words) g m p → FirstWrong S words p
  first_wrong to from words p f =
      let b = f.begun in
      record { before = f.before; rest = f.rest; is = f.is; begun = record { more = b.more; bytes = b.bytes; spelled = from b.bytes _ b.says }; wrong = no_words to (length words) f.before f.rest p f.wrong }

module _ (es : List Entry) (free : Free es) (words : List ℕ) {q p : ℕ} (few : q ≤ 69) where
  pub book_fault : read_book (name_in es) words ≡ refused q p → FirstWrong (SpelledBook (name_in es)) words p
  book_fault e =
      first_wrong (name_in es) (SpelledBook (name_in es)) book_goals most_rules (λ b ts s. book-says (name_in es) s) (λ b ts s. said-book (name_in es) s) words p (fault-placed es free words book_goals most_rules tt e few)

  pub edit_fault : read_edit (name_in es) words ≡ refused q p → FirstWrong (SpelledEdit (name_in es)) words p
  edit_fault e =
      first_wrong (name_in es) (SpelledEdit (name_in es)) edit_goals 0 (λ b ts s. edit-says (name_in es) s) (λ b ts s. said-edit (name_in es) s) words p (fault-placed es free words edit_goals 0 (omega arith, refl) e few)
