-- Where a rule stands in the words of a book.
use mathlib.Core.Path.{◌≡◌, refl, sym, ◌∙◌, ap, ap₂, subst}
use mathlib.Core.List.{List, [], ◌∷◌, ◌++◌}
use Prim.Native.Nat.{ℕ, suc, ◌+◌, ◌-◌, ◌≤◌, ◌<◌}
use native.Mathlib.Omega.{arith}
use lib.ListN.{length, take, drop, length-append, take-append-drop}
use Rattle.answer.specs.Asked.{passed}
use Rattle.answer.proofs.AskedLaws.{passed-same}
use Rattle.logic.specs.Syntax.{Expr, rule}
use Rattle.logic.proofs.ListLaws.{all_so}
use Rattle.text.specs.Code.{book_code}
use Rattle.text.specs.Reading.{most_rules}
use Rattle.text.specs.Questions.{ask_book}
use Rattle.text.proofs.TextSpelling.{EachAllowed, book-is-spelled, spelled-book-passes}
use Rattle.names.specs.Scan.{Placed, tokens}
use Rattle.names.specs.Names.{Entry, name_in, ask_names}
use Rattle.names.proofs.NameLaws.{table-free}
use Rattle.names.proofs.PlaceLaws.{text-cut}
use Rattle.notation.specs.Parse.{parse}
use Rattle.notation.specs.Faults.{roomier}
use Rattle.notation.specs.Words.{word_limits, book_goals, parse_text, read_book, ask_book_from_words, rule_in_words_def}
use Rattle.notation.proofs.ReadSays.{read-says}
use Rattle.notation.proofs.SaidCode.{says-book}
use Rattle.notation.proofs.TableNaming.{lawful}
use Rattle.notation.proofs.RoundTrip.{small, words-pass, words-passed}
use Rattle.notation.proofs.Calls.{was_read, reads_so}
use Rattle.notation.proofs.RulePlaces.{rules-cut, rule_found, rule-there, place_inside}
use Rattle.notation.proofs.RuleSplits.{codes-append, HasToken, rule-splits}
use Rattle.notation.proofs.RuleTokens.{RulesThen, rules-then}
use Rattle.promises.specs.Words.{TokenAt, RuleStandsAt, RulesBefore}

token_at : {words : List ℕ} {p : ℕ} → HasToken words p → TokenAt words p
token_at h = record { before = h.before; t = h.t; rest = h.rest; is = h.is; place_is = h.place_is }

pub rule_in_words : (table words book : List ℕ) (rules : List (Expr rule)) (room i : ℕ) → ask_book_from_words table words room ≡ passed book → ask_book word_limits book ≡ passed rules
    → RuleStandsAt table words rules room i (rule_in_words_def table words i)
unfolding ask_book_from_words
rule_in_words table words book rules room i e q =
    let w = was_read table (λ name. read_book name words) room e in
    let (parsed, short) = words-passed word_limits (name_in w.names) words book_goals most_rules w.reads in
    let s = rule-splits w.names (table-free table w.table_passes) words book rules q parsed table w.table_passes i in
    let p = rule_in_words_def table words i in
    let codes : book ≡ book_code (take i rules) ++ book_code (drop i rules) =
    (book-is-spelled word_limits book rules q).spells.text-is ∙ ap book_code (sym (take-append-drop i rules)) ∙ sym (codes-append (take i rules) (drop i rules)) in
    let size : length book ≡ length (book_code (take i rules)) + length (book_code (drop i rules)) = ap length codes ∙ length-append (book_code (take i rules)) (book_code (drop i rules)) in
    let fits = w.fits in
    record {
      before_it =
          reads_so table (λ name. read_book name (take p words)) room w.table_passes
          (words-pass word_limits (name_in w.names) (take p words) book_goals most_rules s.split.before-read (omega arith)) (omega arith);
      from_it =
          reads_so table (λ name. read_book name (drop p words)) room w.table_passes
          (words-pass word_limits (name_in w.names) (drop p words) book_goals most_rules s.split.from-read (omega arith)) (omega arith);
      there = λ l. token_at (s.there l);
      not_there = s.not_there;
    }

-- rules within the limits, whatever their length
wider : (codes : List ℕ) (rules : List (Expr rule)) → codes ≡ book_code rules → length rules ≤ most_rules → EachAllowed word_limits rules → ask_book (roomier (length codes)) codes ≡ passed rules
wider codes rules e few each =
    let f : EachAllowed (roomier (length codes)) rules = all_so (λ K h. record { numbers_fit = h.numbers_fit; levels-fit = let k = h.levels-fit in omega arith }) rules each in
    spelled-book-passes (roomier (length codes)) codes rules (record { short = omega arith; spells = record { text-is = e; few = few; rules = f } })

pub rules_before : (table words : List ℕ) (i : ℕ) → rule_in_words_def table words i < length words → (i < most_rules) × RulesBefore table words i (rule_in_words_def table words i)
rules_before table words i h =
    let f = rule_found table words i h in
    let r = f.there in
    let few = f.few in
    let b = rules-cut (name_in f.names) word_limits (lawful f.names (table-free table f.table_passes) word_limits small) r in
    let c = text-cut words r.before r.t r.rest r.is in
    let n : most_rules ≡ i + (most_rules - i) = omega arith in
    let at = r.t.place in
    let read = ap₂ (λ ts n. parse (name_in f.names) word_limits (length (take at words)) ts [] n) c.before-are n ∙ r.before-read (length (take at words)) (most_rules - i) in (
      few,
      subst (RulesBefore table words i) (sym r.place_is)
          (record {
            token_at = record { before = r.before; t = r.t; rest = r.rest; is = r.is; place_is = refl };
            names = f.names;
            table_passes = f.table_passes;
            codes = r.bytes;
            before_it = read;
            rules = b.rules;
            rules_are = wider r.bytes b.rules b.text-is (omega (arith, b.many)) b.allowed;
            many = b.many;
          }),
    )

placed-after : (table words : List ℕ) (i : ℕ) {names : List Entry} → ask_names table ≡ passed names → i < most_rules → {before : List Placed} → RulesThen names before i
    → (t : Placed) (rest : List Placed) → tokens words ≡ before ++ t ∷ rest → rule_in_words_def table words i ≡ t.place
placed-after table words i passes few z t rest e = rule-there table words i passes few z.cut t rest (e ∙ ap (◌++ t ∷ rest) (sym z.before_is))

pub rule_placed : (table words : List ℕ) (i p : ℕ) → i < most_rules → RulesBefore table words i p → rule_in_words_def table words i ≡ p
rule_placed table words i p few h =
    let w = h.token_at in
    let t = w.t in
    let at = t.place in
    let name = name_in h.names in
    let free = table-free table h.table_passes in
    let c = text-cut words w.before t w.rest w.is in
    let read : parse name word_limits (length (take at words)) w.before [] most_rules ≡ passed h.codes =
    ap (λ ts. parse name word_limits (length (take at words)) ts [] most_rules) (sym c.before-are) ∙ ap (λ p. parse_text word_limits name (take p words) [] most_rules) w.place_is ∙ h.before_it in
    let b = says-book name word_limits (read-says name word_limits (length (take at words)) w.before [] most_rules read) in
    let are : b.book ≡ h.rules = passed-same (sym (wider h.codes b.book b.spells.text-is b.spells.few b.spells.rules) ∙ h.rules_are) in
    let many : length b.book ≡ i = ap length are ∙ h.many in
    let z = rules-then h.names free (length (take at words)) w.before b.book (omega arith) b.spells.rules (read ∙ ap passed b.spells.text-is) in
    ap (rule_in_words_def table words) (sym many) ∙ placed-after table words (length b.book) h.table_passes (omega arith) z t w.rest w.is ∙ w.place_is

pub later_words : (table words tail : List ℕ) (i : ℕ) → rule_in_words_def table words i < length words → rule_in_words_def table (take (suc (rule_in_words_def table words i)) words ++ tail) i ≡ rule_in_words_def table words i
later_words table words tail i h =
    let f = rule_found table words i h in
    let r = f.there in
    let o = (text-cut words r.before r.t r.rest r.is).onward tail in
    let other = take (suc r.t.place) words ++ tail in
    let here = rule-there table other i f.table_passes f.few r (record { place = r.t.place; token = o.token }) o.rest o.is in
    ap (λ p. rule_in_words_def table (take (suc p) words ++ tail) i) r.place_is ∙ here ∙ sym r.place_is

pub not_after : (table words : List ℕ) (i : ℕ) → rule_in_words_def table words i ≤ length words
not_after table words i = place_inside table words i
