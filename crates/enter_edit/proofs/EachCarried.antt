-- The loop that writes and judges carried rules one by one: what is judged so far and what is left.
use mathlib.Core.Path.{◌≡◌, refl, sym, ap, ◌∙◌, subst}
use mathlib.Core.Bool.{true, false}
use mathlib.Core.List.{List, ◌∷◌, map}
use Prim.Native.Nat.{ℕ, ◌+◌, ◌≤◌, ◌<◌}
use native.Mathlib.Numerals.{add-one}
use native.Mathlib.Omega.{arith}
use lib.ListN.{length, drop}
use Rattle.answer.specs.Asked.{passed, refused}
use Rattle.answer.specs.Outputs.{written_at_start}
use Rattle.logic.specs.Syntax.{Expr, rule, Edit}
use Rattle.logic.specs.Graph.{Graph}
use Rattle.logic.specs.Meaning.{value}
use Rattle.logic.specs.Carry.{carry, carried_book}
use Rattle.logic.specs.Limits.{ranges, InRange, EditInRange}
use Rattle.text.specs.Code.{code}
use Rattle.text.specs.Stands.{Stands}
use Rattle.text.proofs.CarriedRanges.{carry-in}
use Rattle.ends.specs.Edits.{EditAt}
use Rattle.ends.specs.Books.{RuleAt}
use Rattle.write.specs.Rules.{SomeRuleFits, RuleWritten}
use Rattle.write.proofs.Rules.{at_start}
use Rattle.judge.specs.Questions.{ask_rules}
use Rattle.judge.specs.Judging.{RulesStand}
use Rattle.judge.proofs.QuestionLaws.{rule_holds, rule-broken}
use Rattle.judge.proofs.RulesJudged.{First, first_of, none_left}
use Rattle.runs.specs.Scratch.{longest, longest_rule_def, up_to_broken, overwritten, writings}
use Rattle.enter_edit.specs.Singly.{EachFits}
use Rattle.runs.proofs.ScratchLaws.{length-written}

heads : {x y : List ℕ} {xs ys : List (List ℕ)} → x ∷ xs ≡ y ∷ ys → x ≡ y
heads e = cc

tails : {x y : List ℕ} {xs ys : List (List ℕ)} → x ∷ xs ≡ y ∷ ys → xs ≡ ys
tails e = cc

module _ (g : Graph) (n : ℕ) (book edit : List ℕ) (from : ℕ) (scratch₀ : List ℕ) where
  -- Of the rules, those before `at` hold when carried, i of them; the rest are left.
  pub record Reached (at i : ℕ) (scratch : List ℕ) (rules : List (Expr rule)) (Z : Edit) : Type 0 where
    pub left : List (Expr rule)
    pub stand : RulesStand (ranges n) book at (length book) left
    pub what : Edit
    pub what_at : EditAt edit from what
    pub same : map code (carried_book what left) ≡ map code (carried_book Z left)
    pub range : EditInRange (ranges n) Z
    pub fits : longest_rule_def (carried_book Z left) ≤ length scratch
    pub answer-same : ask_rules g (carried_book Z rules) 0 ≡ ask_rules g (carried_book Z left) i
    pub scratch-same : writings g (carried_book Z rules) scratch₀ ≡ writings g (carried_book Z left) scratch

  pub reached-start : (m : ℕ) (rules : List (Expr rule)) (Z : Edit) → n ≡ m → EachFits (ranges m) book edit from (length scratch₀) rules Z → Reached 0 0 scratch₀ rules Z
  reached-start m rules Z e f = record {
    left = rules;
    stand = subst (λ (k : ℕ). RulesStand (ranges k) book 0 (length book) rules) (sym e) f.stand;
    what = f.what;
    what_at = f.what_at;
    same = f.same;
    range = subst (λ (k : ℕ). EditInRange (ranges k) Z) (sym e) f.range;
    fits = f.fits;
    answer-same = refl;
    scratch-same = refl;
  }

  -- While bytes of the book are left, so is a rule.
  pub record Next (at i : ℕ) (scratch : List ℕ) (rules : List (Expr rule)) (Z : Edit) : Type 0 where
    pub K : Expr rule
    pub stands : Stands (ranges n) book at K
    pub inside : at + length (code K) ≤ length book
    pub some : 0 < length (code K)
    pub what : Edit
    pub what_at : EditAt edit from what
    pub same : code (carry what K) ≡ code (carry Z K)
    pub range : InRange (ranges n) (carry Z K)
    pub fits : length (code (carry Z K)) ≤ length scratch
    pub more : (next : ℕ) (scratch' : List ℕ) → next ≡ at + length (code K) → scratch' ≡ written_at_start (code (carry Z K)) scratch → value g (carry Z K) ≡ true → Reached next (i + 1) scratch' rules Z
    pub broken-answer : value g (carry Z K) ≡ false → ask_rules g (carried_book Z rules) 0 ≡ refused 41 i
    pub broken-scratch : value g (carry Z K) ≡ false → writings g (carried_book Z rules) scratch₀ ≡ written_at_start (code (carry Z K)) scratch

  module _ {at i : ℕ} {scratch : List ℕ} {rules : List (Expr rule)} {Z : Edit} (d : Reached at i scratch rules Z) where
    pub next-rule : at < length book → Next at i scratch rules Z
    unfolding longest up_to_broken overwritten
    next-rule h =
        let f : First n book at (length book) d.left = first_of n book at (length book) d.left d.stand h in
        let same : map code (carried_book d.what (f.K ∷ f.others)) ≡ map code (carried_book Z (f.K ∷ f.others)) = subst (λ (l : List (Expr rule)). map code (carried_book d.what l) ≡ map code (carried_book Z l)) f.are d.same in
        let fits : longest_rule_def (carried_book Z (f.K ∷ f.others)) ≤ length scratch = subst (λ (l : List (Expr rule)). longest_rule_def (carried_book Z l) ≤ length scratch) f.are d.fits in
        let answer : ask_rules g (carried_book Z rules) 0 ≡ ask_rules g (carried_book Z (f.K ∷ f.others)) i = d.answer-same ∙ ap (λ (l : List (Expr rule)). ask_rules g (carried_book Z l) i) f.are in
        let written : writings g (carried_book Z rules) scratch₀ ≡ writings g (carried_book Z (f.K ∷ f.others)) scratch = d.scratch-same ∙ ap (λ (l : List (Expr rule)). writings g (carried_book Z l) scratch) f.are in
        record {
          K = f.K;
          stands = f.stands;
          inside = f.inside;
          some = f.some;
          what = d.what;
          what_at = d.what_at;
          same = heads same;
          range = carry-in (ranges n) Z f.K d.range f.stands.range;
          fits = omega (arith, fits);
          more = λ next scratch' e u v. record {
            left = f.others;
            stand = f.stand next e;
            what = d.what;
            what_at = d.what_at;
            same = tails same;
            range = d.range;
            fits = omega (arith, fits, ap length u, length-written (code (carry Z f.K)) scratch (omega (arith, fits)));
            answer-same = answer ∙ rule_holds g _ (carried_book Z f.others) i v ∙ ap (ask_rules g (carried_book Z f.others)) (sym (add-one i));
            scratch-same = written ∙ rw (v, up_to_broken, overwritten) (ap (overwritten (map code (up_to_broken g (carried_book Z f.others)))) (sym u));
          };
          broken-answer = λ v. answer ∙ rule-broken g _ (carried_book Z f.others) i v;
          broken-scratch = λ v. written ∙ rw (v, up_to_broken, overwritten);
        }

    pub all_hold : length book ≤ at → ask_rules g (carried_book Z rules) 0 ≡ passed tt
    unfolding ask_rules
    all_hold h = d.answer-same ∙ ap (λ (l : List (Expr rule)). ask_rules g (carried_book Z l) i) (none_left n book at (length book) d.left d.stand h)

    pub all-written : length book ≤ at → writings g (carried_book Z rules) scratch₀ ≡ scratch
    unfolding up_to_broken overwritten
    all-written h = d.scratch-same ∙ ap (λ (l : List (Expr rule)). writings g (carried_book Z l) scratch) (none_left n book at (length book) d.left d.stand h)

  module _ {at i : ℕ} {scratch : List ℕ} {rules : List (Expr rule)} {Z : Edit} (q : Next at i scratch rules Z) where
    pub rule-at : RuleAt book at q.K
    rule-at = record { limits = ranges n; place = q.stands }

    pub rule_fits : SomeRuleFits book at edit from 0 (length scratch)
    rule_fits = record { K = q.K; K-at = rule-at; Z = q.what; Z-at = q.what_at; fits = omega (arith, q.fits, ap length q.same) }

    module _ {at' pos' : ℕ} {scratch' : List ℕ} (f : (K : Expr rule) (Z : Edit) → RuleAt book at K → EditAt edit from Z → RuleWritten Z K at scratch 0 at' pos' scratch') where
      pub read : at' ≡ at + length (code q.K)
      read = (f q.K q.what rule-at q.what_at).read

      pub written : scratch' ≡ written_at_start (code (carry Z q.K)) scratch
      written = at_start (f q.K q.what rule-at q.what_at).wrote (omega (arith, q.fits, ap length q.same)) ∙ ap (λ (bytes : List ℕ). written_at_start bytes scratch) q.same

      pub stands-there : Stands (ranges n) scratch' 0 (carry Z q.K)
      stands-there = record { rest = drop (length (code (carry Z q.K))) scratch; here = written; range = q.range }
