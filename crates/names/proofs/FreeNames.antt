-- There is always a free name: a table has at most 124 entries.
use mathlib.Core.Path.{◌≡◌, refl, sym, ◌∙◌, ap, subst}
use mathlib.Core.Bool.{Bool, true, false, not, ◌&&◌, ◌||◌, cond, and-eq-true_iff}
use mathlib.Core.List.{List, [], ◌∷◌, ◌++◌}
use Prim.Native.Nat.{ℕ, zero, suc, ◌+◌, ◌/◌, ◌%◌, ◌<◌, ◌≤◌}
use native.Mathlib.Omega.{arith}
use lib.Dec.{eqb, leb, ltb}
use lib.ListN.{length}
use borrow.Author.Tests.{eq-eqb, ne_eqb, le-leb, not-true, not-false}
use Rattle.decimal.specs.Digits.{digits}
use Rattle.decimal.proofs.DigitLaws.{digits-length}
use Rattle.logic.specs.Graph.{Nodes, count_below}
use Rattle.logic.specs.Limits.{Kind, label_number, arrow_number, node_number, least_count, most_count}
use Rattle.logic.proofs.Bools.{true-false, and_left, and_right}
use Rattle.logic.proofs.Below.{leave, count-leave}
use Rattle.names.specs.Token.{Token, ascii, same, Found, found, absent, first_below}
use Rattle.names.specs.Scan.{class_of, is_letter_def, letters, is_word_def}
use Rattle.names.specs.Names.{width, decimal, Entry, kind_number, is_for, given, notation_words, among, begins_with, begins_plain_def, name_bytes, longest_name, taken, free_name_def, unnamed, count_of}
use Rattle.names.proofs.TokenLaws.{same_true, found-hit, none-hit}
use Rattle.names.proofs.NameLaws.{decimal-one, digits-letters}

-- A set that is part of another has no more numbers.
count-mono : (n : ℕ) (v u : Nodes) → ((i : ℕ) → i < n → v i ≡ true → u i ≡ true) → count_below n v ≤ count_below n u
unfolding count_below
count-mono zero v u h = omega arith
count-mono (suc n) v u h = go (v n) refl (u n) refl (count-mono n v u (λ i l. h i (omega arith)))
  where
    go : (a : Bool) → v n ≡ a → (b : Bool) → u n ≡ b → count_below n v ≤ count_below n u → cond a (suc (count_below n v)) (count_below n v) ≤ cond b (suc (count_below n u)) (count_below n u)
    go true e true f r = omega arith
    go true e false f r = true-false (h n (omega arith) e) f
    go false e true f r = omega arith
    go false e false f r = r

-- Entries as a table has them: each for a number in range that had no name before.
abbrev pub Numbered : List Entry → Type 0
Numbered [] = Unit {0}
Numbered (e ∷ es) = (unnamed es e.kind e.number ≡ true) × (e.number < count_of e.kind) × Numbered es

abbrev named : List Entry → Kind → Nodes
named es k x = not (unnamed es k x)

never_both : (b : Bool) → b ≡ true → not b ≡ true → ⊥
never_both true e f = true-false f refl
never_both false e f = true-false e refl

still-named : (e : Entry) (es : List Entry) (k : Kind) (x : ℕ) → named es k x ≡ true → named (e ∷ es) k x ≡ true
unfolding unnamed given
still-named e es k x h = go (is_for e k x)
  where
    go : (b : Bool) → not (elim (elim b as (λ z. Found Token) [ true ↦ found e.name | false ↦ given es k x ]) as (λ z. Bool) [ found t ↦ false | absent ↦ true ]) ≡ true
    go true = refl
    go false = h

now-named : (e : Entry) (es : List Entry) → named (e ∷ es) e.kind e.number ≡ true
unfolding unnamed given
now-named e es =
    let k = kind_number e.kind in
    let x = e.number in
    go (is_for e e.kind e.number) ((and-eq-true_iff (eqb k k) (eqb x x)).1 (eq-eqb k k refl, eq-eqb x x refl))
  where
    go : (b : Bool) → b ≡ true
        → not (elim (elim b as (λ z. Found Token) [ true ↦ found e.name | false ↦ given es e.kind e.number ]) as (λ z. Bool) [ found t ↦ false | absent ↦ true ]) ≡ true
    go true h = refl
    go false h = true-false h refl

-- how many numbers of a sort have names
abbrev in_sort : List Entry → Kind → ℕ
in_sort es k = count_below (count_of k) (named es k)

as_many : (e : Entry) (es : List Entry) (k : Kind) → in_sort es k ≤ in_sort (e ∷ es) k
as_many e es k = count-mono (count_of k) (named es k) (named (e ∷ es) k) (λ i l h. still-named e es k i h)

one_more : (e : Entry) (es : List Entry) → unnamed es e.kind e.number ≡ true → e.number < count_of e.kind → suc (in_sort es e.kind) ≤ in_sort (e ∷ es) e.kind
one_more e es free l =
    let k = e.kind in
    let x = e.number in
    let c = count-leave (count_of k) x (named (e ∷ es) k) l (now-named e es) in
    let m = count-mono (count_of k) (named es k) (leave (named (e ∷ es) k) x)
    (λ i j h. (and-eq-true_iff (named (e ∷ es) k i) (not (eqb i x))).1 (
      still-named e es k i h,
      ap not (ne_eqb i x (λ q. never_both (unnamed es k x) free (subst (λ z. named es k z ≡ true) q h))),
    )) in
    omega (arith, c, m)

few : (e : Entry) (es : List Entry) → unnamed es e.kind e.number ≡ true → e.number < count_of e.kind
    → suc (in_sort es label_number + (in_sort es arrow_number + in_sort es node_number)) ≤ in_sort (e ∷ es) label_number + (in_sort (e ∷ es) arrow_number + in_sort (e ∷ es) node_number)
few e es free l = go e.kind refl (one_more e es free l)
  where
    go : (k : Kind) → e.kind ≡ k → suc (in_sort es e.kind) ≤ in_sort (e ∷ es) e.kind
        → suc (in_sort es label_number + (in_sort es arrow_number + in_sort es node_number)) ≤ in_sort (e ∷ es) label_number + (in_sort (e ∷ es) arrow_number + in_sort (e ∷ es) node_number)
    go label_number q m = let n = subst (λ k. suc (in_sort es k) ≤ in_sort (e ∷ es) k) q m in omega (arith, as_many e es arrow_number, as_many e es node_number)
    go arrow_number q m = let n = subst (λ k. suc (in_sort es k) ≤ in_sort (e ∷ es) k) q m in omega (arith, as_many e es label_number, as_many e es node_number)
    go node_number q m = let n = subst (λ k. suc (in_sort es k) ≤ in_sort (e ∷ es) k) q m in omega (arith, as_many e es label_number, as_many e es arrow_number)
    go least_count q m = let n = subst (λ k. e.number < count_of k) q l in absurd (omega arith)
    go most_count q m = let n = subst (λ k. e.number < count_of k) q l in absurd (omega arith)

by-sorts : (es : List Entry) → Numbered es → length es ≤ in_sort es label_number + (in_sort es arrow_number + in_sort es node_number)
by-sorts [] h = omega arith
by-sorts (e ∷ es) h = omega (arith, by-sorts es h.2, few e es h.0 h.1)

count-all : (n : ℕ) → count_below n (λ x. true) ≡ n
unfolding count_below
count-all zero = refl
count-all (suc n) = ap suc (count-all n)

all-below : (v : Nodes) (n : ℕ) → count_below n v ≤ n
all-below v n = omega (arith, count-mono n v (λ i. true) (λ i l h. refl), count-all n)

few-entries : (es : List Entry) → Numbered es → length es ≤ 124
few-entries es h = omega (arith, by-sorts es h, all-below (named es label_number) 48, all-below (named es arrow_number) 16, all-below (named es node_number) 60)

-- Names that are neither words of the notation nor plain names: an x and a number.
abbrev spare : ℕ → Token
spare x = 0x78 ∷ decimal x

spare-one : (x y : ℕ) → x < 1000 → y < 1000 → spare x ≡ spare y → x ≡ y
spare-one x y h k e = let z : decimal x ≡ decimal y = cc in decimal-one x y h k z

or_cases : (a b : Bool) → (a || b) ≡ true → a ≡ false → b ≡ true
or_cases true b h e = true-false refl e
or_cases false b h e = h

count_none : (n : ℕ) → count_below n (λ x. false) ≡ 0
unfolding count_below
count_none zero = refl
count_none (suc n) = count_none n

-- each entry takes at most one of them
spares-taken : (es : List Entry) (n : ℕ) → n ≤ 1000 → count_below n (λ x. taken es (spare x)) ≤ length es
unfolding taken
spares-taken [] n h = omega (arith, count_none n)
spares-taken (e ∷ es) n h = go (first_below (λ x. same (spare x) e.name) n) refl (spares-taken es n h)
  where
    v : Nodes
    v = λ x. same (spare x) e.name || taken es (spare x)

    go : (f : Found ℕ) → first_below (λ x. same (spare x) e.name) n ≡ f → count_below n (λ x. taken es (spare x)) ≤ length es → count_below n v ≤ suc (length es)
    go (found x) q r =
        let k = found-hit (λ x. same (spare x) e.name) n x q in
        let is = same_true (spare x) e.name k.yes_of in
        let c = count-leave n x v k.below (ap (◌|| taken es (spare x)) k.yes_of) in
        let m = count-mono n (leave v x) (λ x. taken es (spare x)) (λ i l t. or_cases (same (spare i) e.name) (taken es (spare i)) (and_left (v i) (not (eqb i x)) t)
        (other i x l k.below is (and_right (v i) (not (eqb i x)) t) (same (spare i) e.name) refl)) in
        omega (arith, c, m)
      where
        other : (i x : ℕ) → i < n → x < n → spare x ≡ e.name → not (eqb i x) ≡ true → (b : Bool) → same (spare i) e.name ≡ b → same (spare i) e.name ≡ false
        other i x l j is t true q = let z = spare-one i x (omega arith) (omega arith) (same_true (spare i) e.name q ∙ sym is) in absurd (never_both (eqb i x) (eq-eqb i x z) t)
        other i x l j is t false q = q
    go absent q r = omega (arith, count-mono n v (λ x. taken es (spare x)) (λ i l t. or_cases (same (spare i) e.name) (taken es (spare i)) t (none-hit (λ x. same (spare x) e.name) n q i l)))

name-bytes-append : (a b : Token) → name_bytes a ≡ true → name_bytes b ≡ true → name_bytes (a ++ b) ≡ true
unfolding name_bytes
name-bytes-append [] b h k = k
name-bytes-append (c ∷ a) b h k =
    let q = (and-eq-true_iff (leb 0x21 c && not (eqb c 0x7F)) (name_bytes a)).0 h in
    (and-eq-true_iff (leb 0x21 c && not (eqb c 0x7F)) (name_bytes (a ++ b))).1 (q.0, name-bytes-append a b q.1 k)

digits-name-bytes : (w x : ℕ) → name_bytes (digits w x) ≡ true
unfolding digits name_bytes
digits-name-bytes zero x = refl
digits-name-bytes (suc w) x =
    let d = 48 + x % 10 in
    name-bytes-append (digits w (x / 10)) (d ∷ []) (digits-name-bytes w (x / 10))
    ((and-eq-true_iff (leb 0x21 d && not (eqb d 0x7F)) true).1 ((and-eq-true_iff (leb 0x21 d) (not (eqb d 0x7F))).1 (le-leb 0x21 d (omega arith), ap not (ne_eqb d 0x7F (λ e. omega arith))), refl))

three-digits : (x : ℕ) → width x ≤ 3
unfolding width
three-digits x = go (ltb x 10) (ltb x 100)
  where
    go : (a b : Bool) → cond a 1 (cond b 2 3) ≤ 3
    go true b = omega arith
    go false true = omega arith
    go false false = omega arith

spare-free : (es : List Entry) (x : ℕ) → taken es (spare x) ≡ false → free_name_def es (spare x) ≡ true
unfolding free_name_def is_word_def letters is_letter_def class_of name_bytes among notation_words begins_plain_def begins_with same ascii
spare-free es x h =
    let both : (a b : Bool) → a ≡ true → b ≡ true → (a && b) ≡ true = λ a b p q. (and-eq-true_iff a b).1 (p, q) in
    both _ _ (digits-letters (width x) x) (both _ _ (digits-name-bytes (width x) x)
    (both _ _ (le-leb (length (spare x)) longest_name (omega (arith, digits-length (width x) x, three-digits x))) (ap not h)))

-- A name that is free.
pub record SomeName (es : List Entry) : Type 0 where
  pub name : Token
  pub is_free : free_name_def es name ≡ true

pub some-name : (es : List Entry) → Numbered es → SomeName es
some-name es h = go (first_below (λ x. not (taken es (spare x))) 125) refl
  where
    go : (f : Found ℕ) → first_below (λ x. not (taken es (spare x))) 125 ≡ f → SomeName es
    go (found x) e = record { name = spare x; is_free = spare-free es x (not-true (taken es (spare x)) (found-hit (λ x. not (taken es (spare x))) 125 x e).yes_of) }
    go absent e =
        let c = count-mono 125 (λ x. true) (λ x. taken es (spare x)) (λ i l t. not-false (taken es (spare i)) (none-hit (λ x. not (taken es (spare x))) 125 e i l)) in
        absurd (omega (arith, c, count-all 125, spares-taken es 125 (omega arith), few-entries es h))
