-- The loop over a book's rules that keeps the length of the longest carried one.
use mathlib.Core.Path.{◌≡◌}
use mathlib.Core.List.{List, ◌∷◌}
use Prim.Native.Nat.{ℕ, ◌+◌, max, ◌≤◌, ◌<◌}
use native.Mathlib.Omega.{arith}
use lib.ListN.{length}
use Rattle.logic.specs.Syntax.{rule, Expr, Edit}
use Rattle.logic.specs.Carry.{carry, carried_book}
use Rattle.text.specs.Code.{code, book_code}
use Rattle.ends.specs.Books.{RuleAt, BookIs}
use Rattle.ends.proofs.RulePlaces.{RulesLeft}
use Rattle.ends.proofs.RulePlaces as places
use Rattle.runs.specs.Scratch.{longest, longest_rule_def}
use Rattle.runs.proofs.ScratchLaws.{longest-short}

-- the rules not yet measured
pub record Left (book : List ℕ) (rules : List (Expr rule)) (Z : Edit) (at most : ℕ) : Type 0 where
  pub left : List (Expr rule)
  pub stand : RulesLeft book at left
  pub so : max most (longest_rule_def (carried_book Z left)) ≡ longest_rule_def (carried_book Z rules)

-- while bytes are left, so is a rule
pub record First (book : List ℕ) (rules : List (Expr rule)) (Z : Edit) (at most : ℕ) : Type 0 where
  pub K : Expr rule
  pub K-at : RuleAt book at K
  pub fits : length (code (carry Z K)) ≤ length (book_code (carried_book Z rules))
  pub more : (next most' : ℕ) → next ≡ at + length (code K) → most' ≡ max most (length (code (carry Z K))) → Left book rules Z next most'

pub first-left : {book : List ℕ} {rules : List (Expr rule)} {Z : Edit} {at most : ℕ} → at < length book → Left book rules Z at most → First book rules Z at most
unfolding longest
first-left {book} {rules} {Z} {at} {most} l h =
    let f = places.first-left l h.stand in
    let so : max most (longest_rule_def (carried_book Z (f.K ∷ f.others))) ≡ longest_rule_def (carried_book Z rules) = rw f.are at h.so in
    record {
      K = f.K;
      K-at = f.stands;
      fits = omega (arith, so, longest-short (carried_book Z rules));
      more = λ next most' n m. record { left = f.others; stand = f.next next n; so = omega (arith, so, m) };
    }

-- at the end none is
pub none_left : {book : List ℕ} {rules : List (Expr rule)} {Z : Edit} {at most : ℕ} → length book ≤ at → Left book rules Z at most → most ≡ longest_rule_def (carried_book Z rules)
unfolding longest
none_left {book} {rules} {Z} {at} {most} l h = omega (arith, rw (places.none_left l h.stand) at h.so)

pub left-first : {book : List ℕ} {rules : List (Expr rule)} (Z : Edit) → BookIs book rules → Left book rules Z 0 0
left-first {book} {rules} Z b = record { left = rules; stand = places.all_left b; so = omega arith }
