-- Truth values: what a conjunction or a disjunction says about its parts.
use mathlib.Core.Path.{◌≡◌, refl, sym, ◌∙◌, ap, subst}
use mathlib.Core.Bool.{Bool, true, false, not, ◌&&◌, ◌||◌}
use lib.Dec.{T}

pub true-false : {b : Bool} {A : Type 0} → b ≡ true → b ≡ false → A
true-false {b = b} t f = absurd (subst T (sym t ∙ f) tt)

pub and_left : (a b : Bool) → (a && b) ≡ true → a ≡ true
and_left true b h = refl
and_left false b h = h

pub and_right : (a b : Bool) → (a && b) ≡ true → b ≡ true
and_right true b h = h
and_right false b h = true-false h refl

pub or_left_false : (a b : Bool) → (a || b) ≡ false → a ≡ false
or_left_false true b h = h
or_left_false false b h = refl

pub or_right_false : (a b : Bool) → (a || b) ≡ false → b ≡ false
or_right_false true b h = true-false refl h
or_right_false false b h = h

pub and-true-false : (a b : Bool) → (a && b) ≡ false → a ≡ true → b ≡ false
and-true-false true b h e = h
and-true-false false b h e = true-false e refl

-- what holds only if b does
pub and-only : (b x : Bool) → (b ≡ false → x ≡ false) → (b && x) ≡ x
and-only true x h = refl
and-only false x h = sym (h refl)

pub so : {b : Bool} → b ≡ true → T b
so e = subst T (sym e) tt

pub so-not : {b : Bool} → b ≡ false → T (not b)
so-not {b = b} e = subst T (sym (ap not e)) tt

pub is_true : (b : Bool) → T b → b ≡ true
is_true true t = refl
is_true false t = absurd t

pub is_false : (b : Bool) → (b ≡ true → ⊥) → b ≡ false
is_false true h = absurd (h refl)
is_false false h = refl

pub both_so : (a b : Bool) → T (a && b) → T a × T b
both_so true true h = (tt, tt)
both_so false b h = elim h [ ]
both_so true false h = elim h [ ]

pub so-both : (a b : Bool) → T a → T b → T (a && b)
so-both true true h k = tt
so-both false b h k = elim h [ ]
so-both true false h k = elim k [ ]
