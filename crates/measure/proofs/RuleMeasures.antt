-- The rules of a book, measured, and the sizes of the rules they are carried to.
use mathlib.Core.Path.{◌≡◌, refl, sym, ap, ◌∙◌, subst}
use mathlib.Core.List.{List, [], ◌∷◌, append-nil}
use Prim.Native.Nat.{ℕ, ◌+◌, ◌-◌, max, ◌≤◌, ◌<◌}
use native.Mathlib.Omega.{arith}
use lib.ListN.{length, get_or, set, replicate, get_or-replicate}
use lib.Seq.{drop-length}
use Rattle.logic.specs.Syntax.{rule, Expr, Edit}
use Rattle.logic.specs.Carry.{carried_book}
use Rattle.text.specs.Code.{edit_code, book_code, book_levels}
use Rattle.tree.specs.Tree.{Tree, tree, size, height}
use Rattle.tree.specs.Sizes.{Measure, measure, back, together, nothing, measures, capped}
use Rattle.tree.proofs.BookMeasures.{together-nothing, together-comm, together-assoc, measured-book, len-codes, tall-levels}
use Rattle.tree.proofs.Measured.{same-measure, under_one}
use Rattle.ends.specs.Shapes.{At, cell}
use Rattle.ends.specs.Books.{RuleAt, BookIs, SomeBook}
use Rattle.measure.specs.State.{Holds, added, Scanned}
use Rattle.measure.specs.EditMeasures.{Backed}
use Rattle.measure.specs.Pruned.{pruned}
use Rattle.measure.specs.Book.{RuleAdded, BookAdded, BookSized, BookKept}
use Rattle.ends.proofs.NameCells.{named-lt}
use Rattle.ends.proofs.Behind.{size-code}
use Rattle.ends.proofs.RulePlaces.{rule-at, RulesLeft, all_left, FirstLeft, first-left, none_left}
use Rattle.measure.proofs.Held.{holds-is, holds-longer, longer}

zeros : Holds (replicate 130 0) nothing
unfolding nothing
zeros = record {
  len_at = get_or-replicate 130 128 0 0 (omega arith);
  tall_at = get_or-replicate 130 129 0 0 (omega arith);
  count_at = λ c k n. get_or-replicate 130 (cell c k) 0 0 (omega (arith, named-lt c k n));
  deep_at = λ c k n. get_or-replicate 130 (64 + cell c k) 0 0 (omega (arith, named-lt c k n));
}

-- a text put once at level 1, with its length, is added to the rest
put-once : (t : Tree) (x : ℕ) (M : Measure) → x ≡ size t → longer x (added 1 1 (measure t) M) ≡ together M (measure t)
unfolding added measure together
put-once t x M e = same-measure (ap (M.len +◌) e) (ap (max M.tall) (under_one (height t))) (λ c k. omega arith) (λ c k. ap (max (M.deeps c k)) (under_one ((measure t).deeps c k)))

pub rule-added : (text : List ℕ) (at : ℕ) (K : Expr rule) → RuleAt text at K → (next : ℕ) (l₀ l l' : List ℕ) → length l ≡ 130 → ((t : Tree) → At text at t → Scanned at 1 1 t next l₀ l)
    → (y : ℕ) → y ≡ capped (get_or l 128 0 + (next - at)) → l' ≡ set l 128 y → RuleAdded at K next l₀ l'
rule-added text at K h next l₀ l l' long f y e g =
    let s = f (tree K) (rule-at text at K h) in
    record {
      ends = s.ends ∙ ap (λ (n : ℕ). at + n) (size-code K);
      holds = λ M m. holds-is (put-once (tree K) (next - at) M (omega (arith, s.ends))) (subst (λ (u : List ℕ). Holds u (longer (next - at) (added 1 1 (measure (tree K)) M))) (sym g) (holds-longer l _ (next - at) y long e (s.state M m)));
    }

-- the rules of a book not yet added
pub record Left (book : List ℕ) (rules : List (Expr rule)) (at n : ℕ) (state : List ℕ) : Type 0 where
  pub left : List (Expr rule)
  pub stand : RulesLeft book at left
  pub number : n + length left ≡ length rules
  pub M : Measure
  pub holds : Holds state M
  pub all-together : together M (measures left) ≡ measures rules

pub record Adding (book state : List ℕ) (at n : ℕ) : Type 0 where
  pub long : length state ≡ 130
  pub some : SomeBook book
  pub each : (rules : List (Expr rule)) → BookIs book rules → Left book rules at n state

pub adding-first : (book state : List ℕ) → SomeBook book → state ≡ replicate 130 0 → Adding book state 0 0
adding-first book state s e = record {
  long = ap length e;
  some = s;
  each = λ rules h. record {
    left = rules;
    stand = all_left h;
    number = omega arith;
    M = nothing;
    holds = subst (λ (l : List ℕ). Holds l nothing) (sym e) zeros;
    all-together = together-comm nothing (measures rules) ∙ together-nothing (measures rules);
  };
}

-- one more rule
module _ {book : List ℕ} {rules : List (Expr rule)} {at n : ℕ} {state : List ℕ} (h : Left book rules at n state) (f : FirstLeft book at h.left) where
  left-more : {next : ℕ} {state' : List ℕ} → RuleAdded at f.K next state state' → Left book rules next (n + 1) state'
  unfolding measures
  left-more {next} a = record {
    left = f.others;
    stand = f.next next a.ends;
    number = omega (arith, h.number, ap length f.are);
    M = together h.M (measure (tree f.K));
    holds = a.holds h.M h.holds;
    all-together = together-assoc h.M (measure (tree f.K)) (measures f.others) ∙ sym (ap (λ (Ks : List (Expr rule)). together h.M (measures Ks)) f.are) ∙ h.all-together;
  }

pub adding-more : (book state state' : List ℕ) (at n next : ℕ) → at < length book → length state' ≡ length state → Adding book state at n → ((K : Expr rule) → RuleAt book at K → RuleAdded at K next state state') → Adding book state' next (n + 1)
adding-more book state state' at n next l e a f = record { long = e ∙ a.long; some = a.some; each = λ rules h. let q = a.each rules h in let k = first-left l q.stand in left-more q k (f k.K k.stands) }

pub adding-end : (book state : List ℕ) (at n : ℕ) → length book ≤ at → Adding book state at n → (rules : List (Expr rule)) → BookIs book rules → BookAdded rules n state
unfolding measures
adding-end book state at n l a rules h =
    let q = a.each rules h in
    let e = none_left l q.stand in
    record { number_is = omega (arith, q.number, ap length e); holds = holds-is (sym (together-nothing q.M) ∙ sym (ap (λ (Ks : List (Expr rule)). together q.M (measures Ks)) e) ∙ q.all-together) q.holds }

-- the empty book, and any other
pub no-book : (book : List ℕ) → length book ≡ 0 → (rules : List (Expr rule)) (Z : Edit) → BookIs book rules → (start : ℕ) (kept : List ℕ) → BookSized Z rules 0 0 × BookKept Z rules start kept
unfolding book_code book_levels
no-book book e rules Z h start kept = rw (none_left (omega arith) (all_left h)) (record { len_is = refl; tall_is = refl }, record { text = λ ne. absurd (ne refl) })

pub book-sized : (book : List ℕ) → (length book ≡ 0 → ⊥) → (rules : List (Expr rule)) (Z : Edit) → BookIs book rules → (l l' out out' : List ℕ) (n pos pos' : ℕ)
    → BookAdded rules n l → Backed n Z l out pos l' out' pos' → BookSized Z rules (get_or l' 128 0) (get_or l' 129 0)
unfolding book_code
book-sized book ne [] Z h l l' out out' n pos pos' a b = absurd (ne (ap length h.is))
book-sized book ne (K ∷ Ks) Z h l l' out out' n pos pos' a b =
    let e : n ≡ 1 + length Ks = a.number_is ∙ omega arith in
    let w = holds-is (ap (λ (r : ℕ). back r Z (measures (K ∷ Ks))) e ∙ sym (measured-book Z K Ks)) (b.holds (measures (K ∷ Ks)) a.holds) in
    record { len_is = w.len_at ∙ ap capped (len-codes (carried_book Z (K ∷ Ks))); tall_is = w.tall_at ∙ ap capped (tall-levels (carried_book Z (K ∷ Ks))) }

pub book_kept : (Z : Edit) (rules : List (Expr rule)) (l l' out out' : List ℕ) (n pos pos' : ℕ) → length out ≡ pos → BookAdded rules n l → Backed n Z l out pos l' out' pos' → BookKept Z rules pos' out'
book_kept Z rules l l' out out' n pos pos' e a b = record { text = λ ne. b.text (measures rules) a.holds ∙ rw (a.number_is, ← e, drop-length out) (append-nil (edit_code (pruned (length rules) Z (measures rules)))) }
