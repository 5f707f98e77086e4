-- The loop over the rules of a text: what is judged so far and what is left.
use mathlib.Core.Path.{◌≡◌, refl, sym, ap, ◌∙◌, subst}
use mathlib.Core.Bool.{Bool, true, false}
use mathlib.Core.List.{List, [], ◌∷◌, ◌++◌, append_assoc, append-nil}
use Prim.Native.Nat.{ℕ, ◌+◌, ◌-◌, ◌≤◌, ◌<◌}
use native.Mathlib.Numerals.{add-one}
use native.Mathlib.Omega.{arith}
use lib.ListN.{length, drop, length-append}
use Rattle.answer.specs.Asked.{passed, refused}
use Rattle.logic.specs.Syntax.{Expr, rule}
use Rattle.logic.specs.Graph.{is_node}
use Rattle.logic.specs.Meaning.{value}
use Rattle.logic.specs.Limits.{max_nodes, ranges}
use Rattle.bitset.specs.Words.{Bytes, set_of}
use Rattle.sheet.specs.Sheet.{present, graph_of}
use Rattle.sheet.specs.Questions.{Sound}
use Rattle.sheet.proofs.SoundSheets.{sound-is-stored}
use Rattle.text.specs.Code.{code, book_code}
use Rattle.text.specs.Part.{no_part}
use Rattle.text.specs.Reading.{Limits}
use Rattle.text.specs.Questions.{ask_book}
use Rattle.text.specs.Stands.{Stands}
use Rattle.text.proofs.TextSpelling.{rules-in-range, book-is-spelled}
use Rattle.eval.specs.Evaluated.{Opened, IsTruth}
use Rattle.text.proofs.HeadLaws.{code-some}
use Rattle.text.proofs.StandingLaws.{behind, within}
use Rattle.judge.specs.Questions.{ask_rules}
use Rattle.judge.specs.Judging.{RulesStand, broken_part}
use Rattle.judge.proofs.QuestionLaws.{rule_holds, rule-broken}

-- What the evaluators require of the sheet.
pub opened : (sheet : List ℕ) (n all : ℕ) → Bytes sheet → Sound sheet → n ≡ (graph_of sheet).n → n ≤ max_nodes → all ≡ set_of (graph_of sheet).n (is_node (graph_of sheet)) → Opened sheet n all
opened sheet n all b s e f a = record { sound = s; count = e; few = f; nodes = a ∙ ap (λ (m : ℕ). set_of m (is_node (graph_of sheet))) (sym e); within = (sound-is-stored present sheet b s).within }

-- The rules of a book that was read stand in it.
pub read-book-stands : (l : Limits) {t : List ℕ} {rules : List (Expr rule)} → ask_book l t ≡ passed rules → RulesStand l.numbers t 0 (length t) rules
read-book-stands l {t} {rules} h =
    let s = (book-is-spelled l t rules h).spells in
    record { rest = []; here = s.text-is ∙ sym (append-nil (book_code rules)); ends = omega (arith, ap length s.text-is); range = rules-in-range l rules s.rules }

-- The ranges by the count that was read from the sheet.
pub for-count : (n m : ℕ) (text : List ℕ) (at end : ℕ) (rules : List (Expr rule)) → n ≡ m → RulesStand (ranges m) text at end rules → RulesStand (ranges n) text at end rules
for-count n m text at end rules e s = subst (λ (k : ℕ). RulesStand (ranges k) text at end rules) (sym e) s

-- The first of the rules that stand there.
pub record First (n : ℕ) (text : List ℕ) (at end : ℕ) (rules : List (Expr rule)) : Type 0 where
  pub K : Expr rule
  pub others : List (Expr rule)
  pub are : rules ≡ K ∷ others
  pub stands : Stands (ranges n) text at K
  pub stand : (next : ℕ) → next ≡ at + length (code K) → RulesStand (ranges n) text next end others
  pub inside : at + length (code K) ≤ end
  pub some : 0 < length (code K)

pub first_of : (n : ℕ) (text : List ℕ) (at end : ℕ) (rules : List (Expr rule)) → RulesStand (ranges n) text at end rules → at < end → First n text at end rules
unfolding book_code
first_of n text at end [] s h = absurd (omega (arith, s.ends))
first_of n text at end (K ∷ others) s h =
    let e : drop at text ≡ code K ++ (book_code others ++ s.rest) = s.here ∙ append_assoc (code K) (book_code others) s.rest in
    record {
      K = K;
      others = others;
      are = refl;
      stands = record { rest = book_code others ++ s.rest; here = e; range = s.range.0 };
      stand = λ next q. record {
        rest = s.rest;
        here = ap (λ (k : ℕ). drop k text) q ∙ behind text at (code K) (book_code others ++ s.rest) e;
        ends = omega (arith, s.ends, length-append (code K) (book_code others));
        range = s.range.1;
      };
      inside = omega (arith, s.ends, length-append (code K) (book_code others));
      some = code-some K;
    }

pub none_left : (n : ℕ) (text : List ℕ) (at end : ℕ) (rules : List (Expr rule)) → RulesStand (ranges n) text at end rules → end ≤ at → rules ≡ []
unfolding book_code
none_left n text at end [] s h = refl
none_left n text at end (K ∷ others) s h = absurd (omega (arith, s.ends, length-append (code K) (book_code others), code-some K))

pub ends-inside : (n : ℕ) (text : List ℕ) (end : ℕ) (rules : List (Expr rule)) → RulesStand (ranges n) text 0 end rules → end ≤ length text
ends-inside n text end rules s = omega (arith, s.ends, within text 0 (book_code rules) s.rest s.here)

module _ (sheet : List ℕ) (n : ℕ) (text : List ℕ) (end : ℕ) where
  -- Of the rules, those before `at` hold, i of them; the rest are left.
  pub record Reached (at i : ℕ) (rules : List (Expr rule)) : Type 0 where
    pub left : List (Expr rule)
    pub stand : RulesStand (ranges n) text at end left
    pub answer-same : ask_rules (graph_of sheet) rules 0 ≡ ask_rules (graph_of sheet) left i
    pub part_same : broken_part (graph_of sheet) rules 0 ≡ broken_part (graph_of sheet) left at

  pub reached-start : (rules : List (Expr rule)) → RulesStand (ranges n) text 0 end rules → Reached 0 0 rules
  reached-start rules s = record { left = rules; stand = s; answer-same = refl; part_same = refl }

  module _ (at i : ℕ) (rules : List (Expr rule)) (d : Reached at i rules) where
    abbrev first : at < end → First n text at end d.left
    first h = first_of n text at end d.left d.stand h

    module _ (b : Bool) (next : ℕ) (said : (e : Expr rule) → Stands (ranges n) text at e → IsTruth sheet at e b next) (h : at < end) where
      -- what the evaluator found for the first rule
      abbrev judged : IsTruth sheet at (first h).K b next
      judged = said (first h).K (first h).stands

      pub reached-next : b ≡ true → Reached next (i + 1) rules
      unfolding broken_part
      reached-next t =
          let f = first h in let v : value (graph_of sheet) f.K ≡ true = sym judged.truth ∙ t in
          record {
            left = f.others;
            stand = f.stand next judged.ends;
            answer-same = d.answer-same ∙ ap (λ (l : List (Expr rule)). ask_rules (graph_of sheet) l i) f.are ∙ rule_holds (graph_of sheet) _ f.others i v ∙ ap (ask_rules (graph_of sheet) f.others) (sym (add-one i));
            part_same = d.part_same ∙ ap (λ (l : List (Expr rule)). broken_part (graph_of sheet) l at) f.are ∙ rw (v, broken_part) (ap (broken_part (graph_of sheet) f.others) (sym judged.ends));
          }

      pub broken : b ≡ false → (refused 41 i ≡ ask_rules (graph_of sheet) rules 0) × (record { start = at; size = next - at } ≡ broken_part (graph_of sheet) rules 0)
      unfolding broken_part
      broken t =
          let f = first h in let v : value (graph_of sheet) f.K ≡ false = sym judged.truth ∙ t in
          let s : length (code f.K) ≡ next - at = omega (arith, judged.ends) in (
            sym (d.answer-same ∙ ap (λ (l : List (Expr rule)). ask_rules (graph_of sheet) l i) f.are ∙ rule-broken (graph_of sheet) _ f.others i v),
            sym (d.part_same ∙ ap (λ (l : List (Expr rule)). broken_part (graph_of sheet) l at) f.are ∙ rw (v, broken_part) (ap (λ (k : ℕ). record { start = at; size = k }) s)),
          )

    pub none-broken : end ≤ at → (passed tt ≡ ask_rules (graph_of sheet) rules 0) × (no_part ≡ broken_part (graph_of sheet) rules 0)
    unfolding ask_rules broken_part
    none-broken h =
        let e = none_left n text at end d.left d.stand h in
        (sym (d.answer-same ∙ ap (λ (l : List (Expr rule)). ask_rules (graph_of sheet) l i) e), sym (d.part_same ∙ ap (λ (l : List (Expr rule)). broken_part (graph_of sheet) l at) e))
