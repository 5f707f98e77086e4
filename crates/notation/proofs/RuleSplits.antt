-- The words of a book, cut where one of its rules begins.
use mathlib.Core.Path.{◌≡◌, refl, sym, ◌∙◌, ap, ap₂, subst}
use mathlib.Core.List.{List, [], ◌∷◌, ◌++◌, append_assoc}
use mathlib.Core.Logic.{◌⊎◌, inl, inr}
use Prim.Native.Nat.{ℕ, ◌+◌, ◌-◌, ◌≤◌, ◌<◌}
use native.Mathlib.Omega.{arith}
use native.Mathlib.Decide.{dec_lt}
use lib.ListN.{length, take, drop, length-append, drop_of_length-le}
use lib.Seq.{take_all, take-append_seam, drop-append_seam}
use Rattle.answer.specs.Asked.{Asked, passed, refused}
use Rattle.answer.proofs.AskedLaws.{passed-same, refused-not-passed, bind-on}
use Rattle.logic.specs.Syntax.{Expr, rule}
use Rattle.logic.specs.Lists.{All}
use Rattle.logic.proofs.ListLaws.{all_so}
use Rattle.text.specs.Code.{code, book_code}
use Rattle.text.specs.Reading.{Limits, most_rules}
use Rattle.text.specs.Questions.{ask_book}
use Rattle.text.proofs.TextSpelling.{EachAllowed, book-is-spelled, spelled-book-passes}
use Rattle.names.specs.Scan.{Placed, scan, tokens}
use Rattle.names.specs.Names.{Entry, name_in, ask_names}
use Rattle.names.proofs.NameLaws.{Free}
use Rattle.names.proofs.PlaceLaws.{text-cut}
use Rattle.notation.specs.Spell.{spell}
use Rattle.notation.specs.Parse.{parse}
use Rattle.notation.specs.Words.{word_limits, parse_text, rule_in_words_def}
use Rattle.notation.proofs.ReadSays.{read-says}
use Rattle.notation.proofs.SaidRead.{Lawful}
use Rattle.notation.proofs.SaidSpelled.{says-spelled}
use Rattle.notation.proofs.SaidCode.{says-book}
use Rattle.notation.proofs.TableNaming.{lawful}
use Rattle.notation.proofs.RoundTrip.{small}
use Rattle.notation.proofs.RuleWords.{prefixed-passed, RuleCut, Stopped, stopped}
use Rattle.notation.proofs.RulePlaces.{read_more, rules-cut, place-over, place_none, rule-there}

pub all_both : {A : Type 0} (P : A → Type 0) (xs ys : List A) → All P xs → All P ys → All P (xs ++ ys)
all_both P [] ys h k = k
all_both P (x ∷ xs) ys h k = (h.0, all_both P xs ys h.1 k)

pub codes-append : (a b : List (Expr rule)) → book_code a ++ book_code b ≡ book_code (a ++ b)
unfolding book_code
codes-append [] b = refl
codes-append (K ∷ a) b = append_assoc (code K) (book_code a) (book_code b) ∙ ap (code K ++◌) (codes-append a b)

-- A book has one list of rules.
one-book : (a b : List (Expr rule)) → EachAllowed word_limits a → EachAllowed word_limits b → length a ≤ most_rules → length b ≤ most_rules → book_code a ≡ book_code b → a ≡ b
one-book a b f g m n e = passed-same (sym (passes a f m refl) ∙ passes b g n e)
  where
    l : Limits
    l = record { longest = length (book_code a); deepest = word_limits.deepest; numbers = word_limits.numbers }

    passes : (rules : List (Expr rule)) → EachAllowed word_limits rules → length rules ≤ most_rules → book_code a ≡ book_code rules → ask_book l (book_code a) ≡ passed rules
    passes rules each few e =
        let f : EachAllowed l rules = all_so (λ K h. record { numbers_fit = h.numbers_fit; levels-fit = h.levels-fit }) rules each in
        spelled-book-passes l (book_code a) rules (record { short = omega arith; spells = record { text-is = e; few = few; rules = f } })

module _ (es : List Entry) (free : Free es) where
  pub law : Lawful (name_in es) word_limits
  law = lawful es free word_limits small

  -- The tokens of a book, cut before rule i.
  pub record CutBefore (end : ℕ) (ps : List Placed) (rules : List (Expr rule)) (i : ℕ) : Type 0 where
    pub p : ℕ
    pub cut : RuleCut (name_in es) word_limits ps [] i p
    pub first-is : cut.bytes ≡ book_code (take i rules)
    pub rest_read : parse (name_in es) word_limits end (cut.t ∷ cut.rest) [] (most_rules - i) ≡ passed (book_code (drop i rules))
    pub one_left : i < length rules

  module _ (end : ℕ) (ps : List Placed) (rules : List (Expr rule)) (few : length rules ≤ most_rules) (each : EachAllowed word_limits rules)
      (read : parse (name_in es) word_limits end ps [] most_rules ≡ passed (book_code rules)) (i : ℕ) (below : i < most_rules) where
    all : i + (most_rules - i) ≡ most_rules
    all = omega arith

    -- some rules from i on are left
    some_left : (t : Placed) (rest : List Placed) (n : ℕ) (second : List (Expr rule)) → parse (name_in es) word_limits end (t ∷ rest) [] n ≡ passed (book_code second) → 0 < length second
    unfolding book_code spell
    some_left t rest n [] e = absurd (omega (arith, ap length (says-spelled (name_in es) word_limits (read-says (name_in es) word_limits end (t ∷ rest) [] n e))))
    some_left t rest n (K ∷ second) e = omega arith

    cut-before : {p : ℕ} → RuleCut (name_in es) word_limits ps [] i p → CutBefore end ps rules i
    cut-before {p} r =
        let (b, f, whole) = prefixed-passed r.bytes (parse (name_in es) word_limits end (r.t ∷ r.rest) [] (most_rules - i))
        (sym (r.onward end (most_rules - i) r.t r.rest) ∙ ap₂ (λ ts n. parse (name_in es) word_limits end ts [] n) (sym r.is) all ∙ read) in
        let a = rules-cut (name_in es) word_limits law r in
        let s = says-book (name_in es) word_limits (read-says (name_in es) word_limits end (r.t ∷ r.rest) [] (most_rules - i) f) in
        let codes : book_code rules ≡ book_code (a.rules ++ s.book) = whole ∙ ap₂ ◌++◌ a.text-is s.spells.text-is ∙ codes-append a.rules s.book in
        let size : length (a.rules ++ s.book) ≤ most_rules = omega (arith, length-append a.rules s.book, a.many, s.spells.few) in
        let are = one-book rules (a.rules ++ s.book) each (all_both _ a.rules s.book a.allowed s.spells.rules) few size codes in
        let first : take i rules ≡ a.rules = ap₂ (λ n z. take n z) (sym a.many) are ∙ take-append_seam a.rules s.book in
        let second : drop i rules ≡ s.book = ap₂ (λ n z. drop n z) (sym a.many) are ∙ drop-append_seam a.rules s.book in
        let left = some_left r.t r.rest (most_rules - i) s.book (f ∙ ap passed s.spells.text-is) in
        record {
          p = p;
          cut = r;
          first-is = a.text-is ∙ ap book_code (sym first);
          rest_read = f ∙ ap passed (s.spells.text-is ∙ ap book_code (sym second));
          one_left = omega (arith, ap length are, length-append a.rules s.book, a.many);
        }

    -- what is read with i rules has no more
    no_more : (b : List ℕ) → parse (name_in es) word_limits end ps [] i ≡ passed b → length rules ≤ i
    no_more b e =
        let s = says-book (name_in es) word_limits (read-says (name_in es) word_limits end ps [] i e) in
        let same : b ≡ book_code rules = passed-same (sym (read_more (name_in es) word_limits law end end ps ps [] i most_rules (omega arith) refl e) ∙ read) in
        let f = s.spells.few in
        let z = one-book rules s.book each s.spells.rules few (omega arith) (sym same ∙ s.spells.text-is) in
        omega (arith, ap length z)

    pub cut-or-not : ((length rules ≤ i) × (b : List ℕ) × (parse (name_in es) word_limits end ps [] i ≡ passed b)) ⊎ CutBefore end ps rules i
    cut-or-not = go (parse (name_in es) word_limits end ps [] i) refl (stopped (name_in es) word_limits end ps [] i)
      where
        go : (r : Asked (List ℕ)) → parse (name_in es) word_limits end ps [] i ≡ r → Stopped (name_in es) word_limits end ps [] i r
            → ((length rules ≤ i) × (b : List ℕ) × (parse (name_in es) word_limits end ps [] i ≡ passed b)) ⊎ CutBefore end ps rules i
        go (passed b) e s = inl (no_more b e, b, e)
        go (refused q p) e (inl (n, r)) = inr (cut-before r)
        go (refused q p) e (inr (n, s)) = refused-not-passed (sym (s (most_rules - i)) ∙ ap (parse (name_in es) word_limits end ps []) all ∙ read)

-- A place in words with the first i rules before it and the others from there on.
pub record SplitAt (es : List Entry) (words : List ℕ) (rules : List (Expr rule)) (i p : ℕ) : Type 0 where
  pub before-read : parse_text word_limits (name_in es) (take p words) [] most_rules ≡ passed (book_code (take i rules))
  pub from-read : parse_text word_limits (name_in es) (drop p words) [] most_rules ≡ passed (book_code (drop i rules))

-- It is a token's place if there is such a rule; else the words' end.
pub record HasToken (words : List ℕ) (p : ℕ) : Type 0 where
  pub before : List Placed
  pub t : Placed
  pub rest : List Placed
  pub is : tokens words ≡ before ++ t ∷ rest
  pub place_is : t.place ≡ p

pub record RuleSplit (es : List Entry) (words : List ℕ) (rules : List (Expr rule)) (i p : ℕ) : Type 0 where
  pub split : SplitAt es words rules i p
  pub there : i < length rules → HasToken words p
  pub not_there : length rules ≤ i → p ≡ length words

module _ (es : List Entry) (free : Free es) (words book : List ℕ) (rules : List (Expr rule)) (passes : ask_book word_limits book ≡ passed rules)
    (read : parse_text word_limits (name_in es) words [] most_rules ≡ passed book) where
  book-is : book ≡ book_code rules
  book-is = (book-is-spelled word_limits book rules passes).spells.text-is

  -- no rule is left
  at-end : (i : ℕ) → length rules ≤ i → RuleSplit es words rules i (length words)
  unfolding parse scan book_code
  at-end i h =
      record {
        split = record {
          before-read = ap (λ z. parse_text word_limits (name_in es) z [] most_rules) (take_all (length words) words (omega arith)) ∙ read ∙ ap passed (book-is ∙ ap book_code (sym (take_all i rules h)));
          from-read =
              ap (λ z. parse_text word_limits (name_in es) z [] most_rules) (drop_of_length-le words {i = length words} (omega arith))
              ∙ ap (λ z. passed (book_code z)) (sym (drop_of_length-le rules {i = i} h));
        };
        there = λ l. absurd (omega arith);
        not_there = λ l. refl;
      }

  -- rule i begins at a token
  at-token : (i : ℕ) → i < most_rules → (c : CutBefore es free (length words) (tokens words) rules i) → RuleSplit es words rules i c.cut.t.place
  at-token i few c =
      let r = c.cut in
      let at = r.t.place in
      let x = text-cut words r.before r.t r.rest r.is in
      let n : most_rules ≡ i + (most_rules - i) = omega arith in
      let before = ap₂ (λ ts n. parse (name_in es) word_limits (length (take at words)) ts [] n) x.before-are n ∙ r.before-read (length (take at words)) (most_rules - i) ∙ ap passed c.first-is in
      let from =
      read_more (name_in es) word_limits (law es free) (length words) (length (drop at words)) (r.t ∷ r.rest) (tokens (drop at words)) [] (most_rules - i) most_rules
      (omega arith) x.from-are c.rest_read in
      let l = c.one_left in
      record {
        split = record { before-read = before; from-read = from };
        there = λ l. record { before = r.before; t = r.t; rest = r.rest; is = r.is; place_is = refl };
        not_there = λ h. absurd (omega arith);
      }

  -- THE PLACE OF RULE i SPLITS THE WORDS AS IT SPLITS THE BOOK.
  module _ (table : List ℕ) (t : ask_names table ≡ passed es) (i : ℕ) where
    pub rule-splits : RuleSplit es words rules i (rule_in_words_def table words i)
    rule-splits = go (dec_lt i most_rules)
      where
        few : length rules ≤ most_rules
        few = (book-is-spelled word_limits book rules passes).spells.few

        by : i < most_rules → ((length rules ≤ i) × (b : List ℕ) × (parse_text word_limits (name_in es) words [] i ≡ passed b)) ⊎ CutBefore es free (length words) (tokens words) rules i
            → RuleSplit es words rules i (rule_in_words_def table words i)
        by h (inl (n, b, e)) = subst (RuleSplit es words rules i) (sym (place_none table words i (bind-on t (λ es. parse_text word_limits (name_in es) words [] i) ∙ e))) (at-end i n)
        by h (inr c) = subst (RuleSplit es words rules i) (sym (rule-there table words i t h c.cut c.cut.t c.cut.rest c.cut.is)) (at-token i h c)

        go : Dec (i < most_rules) → RuleSplit es words rules i (rule_in_words_def table words i)
        go (yes h) = by h (cut-or-not es free (length words) (tokens words) rules few (book-is-spelled word_limits book rules passes).spells.rules (read ∙ ap passed book-is) i h)
        go (no h) = let f = few in subst (RuleSplit es words rules i) (sym (place-over table words i (omega arith))) (at-end i (omega arith))
