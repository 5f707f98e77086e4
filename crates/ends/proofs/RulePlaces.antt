-- A rule in a text, and a book that has passed its questions.
use mathlib.Core.Path.{◌≡◌, refl, ap, ◌∙◌}
use Prim.Native.Nat.{ℕ, ◌+◌, ◌≤◌, ◌<◌}
use mathlib.Core.List.{List, [], ◌∷◌}
use native.Mathlib.Omega.{arith}
use lib.ListN.{length, drop, length-drop}
use Rattle.answer.specs.Asked.{passed}
use Rattle.logic.specs.Syntax.{rule, Expr}
use Rattle.logic.specs.Limits.{Ranges}
use Rattle.text.specs.Code.{code, book_code}
use Rattle.text.specs.Reading.{Limits}
use Rattle.text.specs.Questions.{ask_book}
use Rattle.text.specs.Stands.{RulesInRange}
use Rattle.text.proofs.StandingLaws.{behind}
use Rattle.text.proofs.TextSpelling.{rules-in-range, book-is-spelled}
use Rattle.tree.specs.Tree.{tree}
use Rattle.ends.specs.Shapes.{At}
use Rattle.ends.specs.Books.{RuleAt, BookIs}
use Rattle.ends.proofs.TreePlaces.{fits, inside, size-pos}
use Rattle.ends.proofs.Behind.{size-code, stands-tree}

pub rule-at : (text : List ℕ) (at : ℕ) (K : Expr rule) → RuleAt text at K → At text at (tree K)
rule-at text at K h = stands-tree K h.place

pub rule_fits : (text : List ℕ) (at : ℕ) (K : Expr rule) → RuleAt text at K → (0 < length (code K)) × (at + length (code K) ≤ length text)
rule_fits text at K h = let a = rule-at text at K h in (omega (arith, size-pos (tree K) a.formed, size-code K), omega (arith, fits text at (tree K) a, inside text at (tree K) a, size-code K))

-- whatever the limits
pub book-passed : (l : Limits) {t : List ℕ} {rules : List (Expr rule)} → ask_book l t ≡ passed rules → BookIs t rules
book-passed l {t} {rules} h = let s = book-is-spelled l t rules h in record { limits = l.numbers; is = s.spells.text-is; range = rules-in-range l rules s.spells.rules; few = s.spells.few }

-- What is left of a book at a place: the codes of these rules.
pub record RulesLeft (book : List ℕ) (at : ℕ) (left : List (Expr rule)) : Type 0 where
  pub limits : Ranges
  pub range : RulesInRange limits left
  pub here : drop at book ≡ book_code left

pub all_left : {book : List ℕ} {rules : List (Expr rule)} → BookIs book rules → RulesLeft book 0 rules
all_left b = record { limits = b.limits; range = b.range; here = b.is }

-- if bytes are left, a rule is left
pub record FirstLeft (book : List ℕ) (at : ℕ) (left : List (Expr rule)) : Type 0 where
  pub K : Expr rule
  pub others : List (Expr rule)
  pub are : left ≡ K ∷ others
  pub stands : RuleAt book at K
  pub next : (p : ℕ) → p ≡ at + length (code K) → RulesLeft book p others

pub first-left : {book : List ℕ} {at : ℕ} {left : List (Expr rule)} → at < length book → RulesLeft book at left → FirstLeft book at left
unfolding book_code
first-left {book = book} {at = at} {left = []} l h = absurd (omega (arith, ap length h.here, length-drop at book))
first-left {book = book} {at = at} {left = K ∷ Ks} l h = record {
  K = K;
  others = Ks;
  are = refl;
  stands = record { limits = h.limits; place = record { rest = book_code Ks; here = h.here; range = h.range.0 } };
  next = λ p e. record { limits = h.limits; range = h.range.1; here = ap (λ (x : ℕ). drop x book) e ∙ behind book at (code K) (book_code Ks) h.here };
}

pub none_left : {book : List ℕ} {at : ℕ} {left : List (Expr rule)} → length book ≤ at → RulesLeft book at left → left ≡ []
unfolding book_code
none_left {left = []} l h = refl
none_left {book = book} {at = at} {left = K ∷ Ks} l h = absurd (omega (arith, rule_fits book at K (record { limits = h.limits; place = record { rest = book_code Ks; here = h.here; range = h.range.0 } })))
