-- A rule from the start of an edit; the rules of a book one after the other.
use mathlib.Core.Path.{◌≡◌, refl, sym, ap, ◌∙◌, subst}
use mathlib.Core.List.{List, [], ◌++◌, append_assoc, append-nil}
use Prim.Native.Nat.{ℕ, ◌+◌, ◌≤◌, ◌<◌}
use native.Mathlib.Omega.{arith}
use lib.ListN.{length, drop, length-append}
use Rattle.logic.specs.Syntax.{rule, Expr, Edit}
use Rattle.logic.specs.Carry.{carry, carried_book}
use Rattle.text.specs.Code.{code, book_code}
use Rattle.tree.specs.Stack.{written}
use Rattle.tree.proofs.Written.{written-code}
use Rattle.ends.specs.Edits.{EditAt, SomeEdit}
use Rattle.ends.specs.Books.{RuleAt, BookIs}
use Rattle.ends.proofs.RulePlaces.{rule_fits, RulesLeft, all_left, FirstLeft, first-left, none_left}
use Rattle.write.specs.Laid.{Wrote}
use Rattle.write.specs.Offsets.{StackIs}
use Rattle.write.specs.Work.{stack_of, behind_of}
use Rattle.write.specs.Links.{Relinked}
use Rattle.write.specs.Ways.{followed, BehindIs, Way, SomeWay, SameWay, Walked, SomeCarried, Noted}
use Rattle.write.specs.Rules.{SomeRuleFits, Started, SomeRuleLeft, RuleWritten, SomeBookFits, BookWritten}
use Rattle.write.proofs.Laying.{laid-fits, wrote_none, wrote-more, wrote_as}
use Rattle.write.proofs.Walking.{way-kept}
use Rattle.write.proofs.Notes.{noted-same}
use Rattle.write.proofs.Storing.{Again}

start : (edit stack behind : List ℕ) (from : ℕ) (Z : Edit) → EditAt edit from Z → Way edit stack behind from 0 0 [] Z []
start edit stack behind from Z h = unfold StackIs BehindIs in record { steps_passed = refl; steps = tt; here = h; around = refl; rest = tt }

start-written : (Z : Edit) (K : Expr rule) → written [] (followed Z []) K ≡ code (carry Z K)
start-written Z K = unfold followed in written-code Z K

-- from an edit's start
pub start-way : {edit : List ℕ} {from : ℕ} (stack behind : List ℕ) → SomeEdit edit from → SomeWay edit stack behind from 0 0
start-way {edit} {from} stack behind w = record { steps = []; what = w.what; later = []; way = start edit stack behind from w.what w.stands; low = omega arith; low_behind = omega arith }

pub start-rests : {edit work₁ work : List ℕ} {from at h d : ℕ} → Walked edit (stack_of work₁) (behind_of work₁) from 0 0 (stack_of work) at h d → Relinked edit work₁ work 0 h → Noted edit work₁ → Started edit from work at h d
start-rests {edit} {work₁} {work} {from} {at} {h} {d} w r n = record {
  each = λ Z z. subst (λ (b : List ℕ). SameWay edit (stack_of work) b at h d [] Z []) (sym r.behind_same) (w.each [] Z [] (start edit (stack_of work₁) (behind_of work₁) from Z z));
  low = w.low;
  low_behind = w.low_behind;
  linked = r.linked;
  noted = noted-same r.notes_same n;
}

pub rest_some : {text edit work : List ℕ} {place at h d pos room : ℕ} → SomeRuleLeft text place edit work at h d pos room → SomeCarried text place edit (stack_of work) (behind_of work) at h d pos room
rest_some w =
    let f = w.fits in
    let s = w.started.each f.Z f.Z-at in
    record {
      way = record { steps = s.steps; what = s.what; later = s.later; way = s.way; low = w.started.low; low_behind = w.started.low_behind };
      K = f.K;
      K-at = f.K-at;
      fits = omega (arith, f.fits, ap length (sym (start-written f.Z f.K) ∙ s.same f.K));
    }

-- what is written from there, and that the next rule can be written from there, too
module _ {text edit work work' o o' : List ℕ} {place at h d pos pos' from : ℕ} (s : Started edit from work at h d)
    (a : Again text place edit work at h d o pos pos' work' o') where
  pub rule-written : {next : ℕ} → ((K : Expr rule) → RuleAt text place K → next ≡ place + length (code K)) → (K : Expr rule) (Z : Edit) → RuleAt text place K → EditAt edit from Z → RuleWritten Z K place o pos next pos' o'
  rule-written f K Z r z =
      let m = s.each Z z in
      record { read = f K r; wrote = wrote_as (sym (m.same K) ∙ start-written Z K) (a.written.wrote m.steps m.what m.later m.way K r) }

  pub still-started : Started edit from work' at h d
  still-started = record {
    each = λ Z z. let m = s.each Z z in record { steps = m.steps; what = m.what; later = m.later; same = m.same; way = way-kept a.written.kept a.written.again m.way };
    low = s.low;
    low_behind = s.low_behind;
    linked = a.linked;
    noted = a.noted;
  }

-- The rules not yet written.
pub record Left (book : List ℕ) (rules : List (Expr rule)) (Z : Edit) (o : List ℕ) (at pos : ℕ) (out : List ℕ) : Type 0 where
  pub left : List (Expr rule)
  pub stand : RulesLeft book at left
  pub done : List ℕ
  pub wrote : Wrote o 0 done pos out
  pub whole : done ++ book_code (carried_book Z left) ≡ book_code (carried_book Z rules)

-- one more rule
module _ {book : List ℕ} {rules : List (Expr rule)} {Z : Edit} {o : List ℕ} {at pos : ℕ} {out : List ℕ} (h : Left book rules Z o at pos out) (f : FirstLeft book at h.left) where
  split : h.done ++ (code (carry Z f.K) ++ book_code (carried_book Z f.others)) ≡ book_code (carried_book Z rules)
  split = unfold book_code in rw f.are at h.whole

  first_fits : pos + length (code (carry Z f.K)) ≤ length (book_code (carried_book Z rules))
  first_fits = omega (arith, h.wrote.counted, simp length-append at (ap length split))

  left-more : {at' pos' : ℕ} {out' : List ℕ} → RuleWritten Z f.K at out pos at' pos' out' → Left book rules Z o at' pos' out'
  left-more {at'} a = record {
    left = f.others;
    stand = f.next at' a.read;
    done = h.done ++ code (carry Z f.K);
    wrote = wrote-more h.wrote a.wrote;
    whole = append_assoc h.done (code (carry Z f.K)) (book_code (carried_book Z f.others)) ∙ split;
  }

pub record Writing (book edit : List ℕ) (from : ℕ) (o : List ℕ) (at pos : ℕ) (out : List ℕ) : Type 0 where
  pub long : length out ≡ length o
  pub some : SomeBookFits book edit from (length o)
  pub each : (rules : List (Expr rule)) (Z : Edit) → BookIs book rules → EditAt edit from Z → Left book rules Z o at pos out

pub writing-first : {book edit : List ℕ} {from : ℕ} (o : List ℕ) → SomeBookFits book edit from (length o) → Writing book edit from o 0 0 o
writing-first o w = record {
  long = refl;
  some = w;
  each = λ rules Z b h. record { left = rules; stand = all_left b; done = []; wrote = wrote_none o 0; whole = refl };
}

module _ {book edit : List ℕ} {from : ℕ} {o : List ℕ} {at pos : ℕ} {out : List ℕ} (w : Writing book edit from o at pos out) where
  abbrev some_left : Left book w.some.rules w.some.Z o at pos out
  some_left = w.each w.some.rules w.some.Z w.some.is w.some.Z-at

  pub rule-fits-next : at < length book → SomeRuleFits book at edit from pos (length out)
  rule-fits-next l = let q = first-left l some_left.stand in record { K = q.K; K-at = q.stands; Z = w.some.Z; Z-at = w.some.Z-at; fits = omega (arith, first_fits some_left q, w.some.fits, w.long) }

  module _ {at' pos' : ℕ} {out' : List ℕ} (l : at < length book) (f : (K : Expr rule) (Z : Edit) → RuleAt book at K → EditAt edit from Z → RuleWritten Z K at out pos at' pos' out') where
    pub writing-on : at < at'
    writing-on = let q = first-left l some_left.stand in omega (arith, (f q.K w.some.Z q.stands w.some.Z-at).read, (rule_fits book at q.K q.stands).0)

    pub writing_more : length out' ≡ length out → Writing book edit from o at' pos' out'
    writing_more a = record {
      long = a ∙ w.long;
      some = w.some;
      each = λ rules Z i h. let a = w.each rules Z i h in let q = first-left l a.stand in left-more a q (f q.K Z q.stands h);
    }

  pub writing-end : length book ≤ at → (rules : List (Expr rule)) (Z : Edit) → BookIs book rules → EditAt edit from Z → BookWritten Z rules o pos out
  unfolding book_code
  writing-end l rules Z b h = let q = w.each rules Z b h in wrote_as (sym (append-nil q.done) ∙ rw (none_left l q.stand) at q.whole) q.wrote

-- Bytes laid at a buffer's start, where they fit: the rest of it is unchanged.
pub at_start : {o bs o' : List ℕ} {len : ℕ} → Wrote o 0 bs len o' → length bs ≤ length o → o' ≡ bs ++ drop (length bs) o
at_start {o} {bs} w l = w.stored ∙ laid-fits o 0 bs (omega (arith, l)) ∙ ap (λ (n : ℕ). bs ++ drop n o) (let e : 0 + length bs ≡ length bs = omega arith in e)
