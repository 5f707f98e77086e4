-- The rules of words: where one begins, the words before it say exactly the rules before it.
use mathlib.Core.Path.{◌≡◌, refl, sym, ◌∙◌, ap, subst}
use mathlib.Core.Bool.{Bool, true, false, cond}
use mathlib.Core.List.{List, [], ◌∷◌, ◌++◌}
use mathlib.Core.Logic.{inl, inr}
use Prim.Native.Nat.{ℕ, zero, suc, ◌+◌, ◌≤◌, ◌<◌}
use native.Mathlib.Omega.{arith}
use native.Mathlib.Decide.{dec_lt}
use lib.Dec.{eqb, ltb}
use lib.ListN.{length}
use borrow.Author.Tests.{ltb-true, lt-ltb, le-ltb, ne_eqb}
use Rattle.answer.specs.Asked.{Asked, passed, refused, ◌>>=◌}
use Rattle.answer.proofs.AskedLaws.{bind-on}
use Rattle.answer.proofs.Refusals.{Refuses, refuses}
use Rattle.logic.specs.Syntax.{Expr, rule}
use Rattle.text.specs.Code.{book_code}
use Rattle.text.specs.Reading.{Limits, most_rules}
use Rattle.text.proofs.TextSpelling.{EachAllowed, SpellsRules}
use Rattle.names.specs.Token.{Token}
use Rattle.names.specs.Scan.{Placed, tokens_of, tokens}
use Rattle.names.specs.Names.{Naming, Entry, name_in, ask_names}
use Rattle.names.proofs.NameLaws.{table-refused}
use Rattle.names.proofs.PlaceLaws.{tokens-inside}
use Rattle.notation.specs.Grammar.{Goal}
use Rattle.notation.specs.Spell.{spell}
use Rattle.notation.specs.Parse.{prefixed, parse}
use Rattle.notation.specs.Words.{word_limits, parse_text, too_many, rule_in_words_def}
use Rattle.notation.proofs.Says.{Says, nothing, a-mark, a-number, begin, last, one-rule}
use Rattle.notation.proofs.ReadSays.{read-says}
use Rattle.notation.proofs.SaidRead.{Lawful, says-read}
use Rattle.notation.proofs.SaidSpelled.{says-spelled}
use Rattle.notation.proofs.SaidCode.{says-book}
use Rattle.notation.proofs.CodeSaid.{book-said}
use Rattle.notation.proofs.ParseRefusals.{parse-refuses}
use Rattle.notation.proofs.RuleWords.{RuleCut, Stopped, stopped}

module _ (name : Naming) (l : Limits) where
  -- What says the same with m rules also says it when more may follow.
  pub says-more : {bytes : List ℕ} {ts : List Token} {g : List Goal} {m : ℕ} → Says name l bytes ts g m → (n : ℕ) → m ≤ n → Says name l bytes ts g n
  says-more nothing n h = nothing
  says-more (one-rule s) zero h = absurd (omega arith)
  says-more (one-rule s) (suc n) h = one-rule (says-more s n (omega arith))
  says-more (a-mark s) n h = a-mark (says-more s n h)
  says-more (a-number x f s) n h = a-number x f (says-more s n h)
  says-more (begin d b s) n h = begin d b (says-more s n h)
  says-more (last d s) n h = last d (says-more s n h)

  module _ (law : Lawful name l) where
    -- What is read with m rules is read with more, wherever the tokens are.
    pub read_more : (end end' : ℕ) (ps ps' : List Placed) (g : List Goal) (m n : ℕ) {bytes : List ℕ} → m ≤ n → tokens_of ps' ≡ tokens_of ps → parse name l end ps g m ≡ passed bytes
        → parse name l end' ps' g n ≡ passed bytes
    read_more end end' ps ps' g m n h e r = says-read name l law end' (says-more (read-says name l end ps g m r) n h) ps' e

    -- As many rules as there are suffice.
    as_many : (ps : List Placed) (j : ℕ) {bytes : List ℕ} {book : List (Expr rule)} → SpellsRules l j bytes book → Says name l bytes (tokens_of ps) [] j → parse name l 0 ps [] (length book) ≡ passed bytes
    as_many ps j {bytes} {book} b h =
        let s = book-said name l book (length book) (omega arith) b.rules in
        let same : tokens_of ps ≡ s.tokens = sym (says-spelled name l h) ∙ ap (λ z. spell name z [] j) b.text-is ∙ says-spelled name l (says-more s.says j b.few) in
        says-read name l law 0 s.says ps same ∙ ap passed (sym b.text-is)

    -- The rules before the cut are as many as were counted.
    pub record RulesCut (bytes : List ℕ) (j : ℕ) : Type 0 where
      pub rules : List (Expr rule)
      pub text-is : bytes ≡ book_code rules
      pub many : length rules ≡ j
      pub allowed : EachAllowed l rules

    pub rules-cut : {ts : List Placed} {j p : ℕ} (r : RuleCut name l ts [] j p) → RulesCut r.bytes j
    rules-cut {ts} {j} {p} r =
        let e : j + 0 ≡ j = omega arith in
        let says = read-says name l 0 r.before [] j (subst (λ n. parse name l 0 r.before [] n ≡ passed r.bytes) e (r.before-read 0 0)) in
        let b = says-book name l says in
        record {
          rules = b.book;
          text-is = b.spells.text-is;
          many = go (length b.book) b.spells.few (as_many r.before j b.spells says) (dec_lt (length b.book) j);
          allowed = b.spells.rules;
        }
      where
        go : (k : ℕ) → k ≤ j → parse name l 0 r.before [] k ≡ passed r.bytes → Dec (k < j) → k ≡ j
        go k few f (yes h) = absurd (r.no-fewer 0 k r.bytes h f)
        go k few f (no h) = omega arith

-- Where rule i begins, with a table that passes.
pub record RuleFound (table words : List ℕ) (i p : ℕ) : Type 0 where
  pub names : List Entry
  pub table_passes : ask_names table ≡ passed names
  pub few : i < most_rules
  pub there : RuleCut (name_in names) word_limits (tokens words) [] i p

abbrev ask_rule : (table words : List ℕ) (i : ℕ) → Asked (List ℕ)
ask_rule table words i = ask_names table >>= (λ es. parse_text word_limits (name_in es) words [] i)

-- the place is that of 69
module _ (table words : List ℕ) (i : ℕ) where
  place-by : i < most_rules → {p : ℕ} → ask_rule table words i ≡ refused 69 p → rule_in_words_def table words i ≡ p
  unfolding rule_in_words_def too_many
  place-by h e = rw (lt-ltb i most_rules h, e)

  pub rule_found : rule_in_words_def table words i < length words → RuleFound table words i (rule_in_words_def table words i)
  unfolding rule_in_words_def too_many ◌>>=◌
  rule_found h = go (ltb i most_rules) refl (ask_names table) refl h
    where
      place : Bool → Asked (List Entry) → ℕ
      place b t = cond b (too_many (length words) (t >>= (λ es. parse_text word_limits (name_in es) words [] i))) (length words)

      read : i < most_rules → (es : List Entry) → ask_names table ≡ passed es → (r : Asked (List ℕ)) → Stopped (name_in es) word_limits (length words) (tokens words) [] i r
          → too_many (length words) r < length words → RuleFound table words i (too_many (length words) r)
      read few es t (passed b) s h = absurd (omega arith)
      read few es t (refused q p) (inl (e, s)) h = subst (RuleFound table words i) (sym (ap (λ q. cond (eqb q 69) p (length words)) e)) (record { names = es; table_passes = t; few = few; there = s })
      read few es t (refused q p) (inr (l, s)) h = let f : eqb q 69 ≡ false = ne_eqb q 69 (λ e. omega arith) in let z : length words < length words = rw f at h in absurd (omega arith)

      go : (b : Bool) → ltb i most_rules ≡ b → (t : Asked (List Entry)) → ask_names table ≡ t → place b t < length words → RuleFound table words i (place b t)
      go true few (passed es) t h = read (ltb-true i most_rules few) es t (parse_text word_limits (name_in es) words [] i) (stopped (name_in es) word_limits (length words) (tokens words) [] i) h
      go true few (refused q p) t h = let f : eqb q 69 ≡ false = ne_eqb q 69 (λ e. let z = table-refused table t in omega arith) in let z : length words < length words = rw f at h in absurd (omega arith)
      go false few t e h = absurd (omega arith)

  -- where there is none
  pub place-over : most_rules ≤ i → rule_in_words_def table words i ≡ length words
  unfolding rule_in_words_def
  place-over h = rw (le-ltb i most_rules h)

  pub place_none : {b : List ℕ} → ask_rule table words i ≡ passed b → rule_in_words_def table words i ≡ length words
  unfolding rule_in_words_def too_many
  place_none e = go (ltb i most_rules)
    where
      go : (b : Bool) → cond b (too_many (length words) (ask_rule table words i)) (length words) ≡ length words
      go true = rw e
      go false = refl

  -- The words before it and a token after them put it there, whatever else follows.
  pub rule-there : {names : List Entry} → ask_names table ≡ passed names → i < most_rules → {ts : List Placed} {p : ℕ} (r : RuleCut (name_in names) word_limits ts [] i p) (u : Placed) (us : List Placed)
      → tokens words ≡ r.before ++ u ∷ us → rule_in_words_def table words i ≡ u.place
  unfolding parse prefixed
  rule-there {names} t few r u us e =
      let z : i + 0 ≡ i = omega arith in
      place-by few
      (bind-on t (λ es. parse_text word_limits (name_in es) words [] i)
      ∙ ap (λ ts. parse (name_in names) word_limits (length words) ts [] i) e
      ∙ subst (λ n. parse (name_in names) word_limits (length words) (r.before ++ u ∷ us) [] n ≡ refused 69 u.place) z (r.onward (length words) 0 u us))

  pub place_inside : rule_in_words_def table words i ≤ length words
  unfolding rule_in_words_def too_many ◌>>=◌
  place_inside = go (ltb i most_rules) (ask_names table) refl
    where
      hit : (b : Bool) (p : ℕ) → p ≤ length words → cond b p (length words) ≤ length words
      hit true p h = h
      hit false p h = omega arith

      read : (r : Asked (List ℕ)) → Refuses 64 69 (length words) r → too_many (length words) r ≤ length words
      read (passed b) s = omega arith
      read (refused q p) (refuses _ _ j k h) = hit (eqb q 69) p h

      wrong : (q p : ℕ) → (q ≡ 69 → ⊥) → too_many (length words) (refused q p) ≤ length words
      wrong q p h = rw (ne_eqb q 69 h) (omega arith)

      go : (b : Bool) → (t : Asked (List Entry)) → ask_names table ≡ t → cond b (too_many (length words) (t >>= (λ es. parse_text word_limits (name_in es) words [] i))) (length words) ≤ length words
      go true (passed es) e = read (parse_text word_limits (name_in es) words [] i) (parse-refuses (name_in es) word_limits (length words) (tokens words) [] i (tokens-inside words))
      go true (refused q p) e = wrong q p (λ f. let z = table-refused table e in omega arith)
      go false t e = omega arith
