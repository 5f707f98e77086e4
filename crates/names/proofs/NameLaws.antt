-- What the names of a table that passes are: words, none of them the notation's, all different.
use mathlib.Core.Path.{◌≡◌, refl, sym, ◌∙◌, ap, subst}
use mathlib.Core.Bool.{Bool, true, false, not, ◌&&◌, ◌||◌, cond, and-eq-true_iff}
use mathlib.Core.List.{List, [], ◌∷◌, ◌++◌}
use Prim.Native.Nat.{ℕ, zero, suc, ◌+◌, ◌/◌, ◌%◌, ◌<◌, ◌≤◌}
use native.Mathlib.Omega.{arith}
use lib.Dec.{eqb, leb, ltb}
use lib.ListN.{length, get_or, drop}
use borrow.Author.Tests.{eqb-true, ne_eqb, ltb-true}
use Rattle.answer.specs.Asked.{Asked, passed, refused, ◌>>=◌, ◌>>◌, is}
use Rattle.decimal.specs.Digits.{digits, said}
use Rattle.decimal.proofs.DigitLaws.{Left, said-digits, digits-length}
use Rattle.logic.specs.Limits.{Kind, label_number, arrow_number, node_number, least_count, most_count}
use Rattle.logic.proofs.Bools.{true-false}
use Rattle.names.specs.Token.{Token, ascii, same, Found, found, absent, first_below}
use Rattle.names.specs.Scan.{Placed, blank, hash, mark, letter, class_of, is_letter_def, letters, is_word_def, tokens}
use Rattle.names.specs.Names.{width, decimal, plain, Entry, kind_number, is_for, given, given_or_plain, name_in, notation_words, among, begins_with, begins_plain_def, name_bytes, longest_name, taken, free_name_def, unnamed, count_of, kind_of, ask_kind, ask_number, ask_entries, ask_names}
use Rattle.names.proofs.TokenLaws.{same_refl}

not_so : (b : Bool) → not b ≡ true → b ≡ false
not_so true h = true-false h refl
not_so false h = refl

-- A decimal says its number, so no two numbers have the same.
no_more : (x : ℕ) → x < 1000 → Left (width x) x ≡ 0
unfolding width Left
no_more x h = go (ltb x 10) (ltb-true x 10) (ltb x 100) (ltb-true x 100)
  where
    go : (a : Bool) → (a ≡ true → x < 10) → (b : Bool) → (b ≡ true → x < 100) → Left (cond a 1 (cond b 2 3)) x ≡ 0
    go true f b g = let z = f refl in omega arith
    go false f true g = let z = g refl in omega arith
    go false f false g = omega arith

pub decimal-one : (x y : ℕ) → x < 1000 → y < 1000 → decimal x ≡ decimal y → x ≡ y
decimal-one x y h k e = sym (said-digits (width x) x (no_more x h)) ∙ ap (said 0) e ∙ said-digits (width y) y (no_more y k)

-- Digits are letters.
none_so : (a b : Bool) → a ≡ false → b ≡ false → (a || b) ≡ false
none_so true b e f = e
none_so false b e f = f

letter-by : (w h p : Bool) → w ≡ false → h ≡ false → p ≡ false
    → elim (cond w blank (cond h hash (cond p mark letter))) as (λ z. Bool) [ blank ↦ false | hash ↦ false | mark ↦ false | letter ↦ true ] ≡ true
letter-by true h p a b c = true-false refl a
letter-by false true p a b c = true-false refl b
letter-by false false true a b c = true-false refl c
letter-by false false false a b c = refl

digit-letter : (b : ℕ) → 45 ≤ b → b < 60 → is_letter_def b ≡ true
unfolding is_letter_def class_of
digit-letter b h k =
    letter-by (eqb b 0x20 || (eqb b 0x09 || (eqb b 0x0A || eqb b 0x0D))) (eqb b 0x23) (eqb b 0x28 || (eqb b 0x29 || eqb b 0x2C))
    (none_so _ _ (ne_eqb b 0x20 (omega arith)) (none_so _ _ (ne_eqb b 0x09 (omega arith)) (none_so _ _ (ne_eqb b 0x0A (omega arith)) (ne_eqb b 0x0D (omega arith)))))
    (ne_eqb b 0x23 (omega arith))
    (none_so _ _ (ne_eqb b 0x28 (omega arith)) (none_so _ _ (ne_eqb b 0x29 (omega arith)) (ne_eqb b 0x2C (omega arith))))

pub letters-append : (a b : List ℕ) → letters a ≡ true → letters b ≡ true → letters (a ++ b) ≡ true
unfolding letters
letters-append [] b h k = k
letters-append (c ∷ a) b h k = let q = (and-eq-true_iff (is_letter_def c) (letters a)).0 h in (and-eq-true_iff (is_letter_def c) (letters (a ++ b))).1 (q.0, letters-append a b q.1 k)

pub digits-letters : (w x : ℕ) → letters (digits w x) ≡ true
unfolding digits letters
digits-letters zero x = refl
digits-letters (suc w) x =
    letters-append (digits w (x / 10)) ((48 + x % 10) ∷ []) (digits-letters w (x / 10)) ((and-eq-true_iff (is_letter_def (48 + x % 10)) true).1 (digit-letter (48 + x % 10) (omega arith) (omega arith), refl))

-- A decimal has a digit.
word_of : (t : Token) → 0 < length t → letters t ≡ true → is_word_def t ≡ true
unfolding is_word_def letters
word_of [] h e = absurd (omega arith)
word_of (b ∷ t) h e = e

some-digit : (x : ℕ) → 0 < width x
unfolding width
some-digit x = go (ltb x 10) (ltb x 100)
  where
    go : (a b : Bool) → 0 < cond a 1 (cond b 2 3)
    go true b = omega arith
    go false true = omega arith
    go false false = omega arith

pub decimal-word : (x : ℕ) → is_word_def (decimal x) ≡ true
decimal-word x = word_of (decimal x) (let s = some-digit x in omega (arith, digits-length (width x) x)) (digits-letters (width x) x)

-- The entries of a table that passed: each name was free.
abbrev pub Free : List Entry → Type 0
Free [] = Unit {0}
Free (e ∷ es) = (free_name_def es e.name ≡ true) × Free es

-- What a name must be.
pub record Name (t : Token) : Type 0 where
  pub is_word : is_word_def t ≡ true
  pub not-of-notation : among t notation_words ≡ false

pub record Fresh (es : List Entry) (t : Token) : Type 0 where
  pub a-name : Name t
  pub not_plain : begins_plain_def t ≡ false
  pub not_taken : taken es t ≡ false

pub fresh : (es : List Entry) (t : Token) → free_name_def es t ≡ true → Fresh es t
unfolding free_name_def
fresh es t h =
    let a = (and-eq-true_iff (is_word_def t) _).0 h in
    let b = (and-eq-true_iff (name_bytes t) _).0 a.1 in
    let c = (and-eq-true_iff (leb (length t) longest_name) _).0 b.1 in
    let d = (and-eq-true_iff (not (among t notation_words)) _).0 c.1 in
    let e = (and-eq-true_iff (not (begins_plain_def t)) (not (taken es t))).0 d.1 in
    record { a-name = record { is_word = a.0; not-of-notation = not_so _ d.0 }; not_plain = not_so _ e.0; not_taken = not_so _ e.1 }

-- A name that is given: it is a name, not a plain one, it is taken, and it is given once.
pub record Given (es : List Entry) (t : Token) : Type 0 where
  pub a-name : Name t
  pub not_plain : begins_plain_def t ≡ false
  pub is-taken : taken es t ≡ true

or_left : (a b : Bool) → a ≡ true → (a || b) ≡ true
or_left true b e = refl
or_left false b e = true-false e refl

or_right : (a b : Bool) → b ≡ true → (a || b) ≡ true
or_right true b e = refl
or_right false b e = e

abbrev GivenRight : List Entry → Found Token → Type 0
GivenRight es (found t) = Given es t
GivenRight es absent = Unit {0}

given-right : (es : List Entry) → Free es → (k : Kind) (x : ℕ) → GivenRight es (given es k x)
unfolding given taken
given-right [] h k x = tt
given-right (e ∷ es) h k x = go (is_for e k x) (given es k x) (given-right es h.1 k x)
  where
    more : (f : Found Token) → GivenRight es f → GivenRight (e ∷ es) f
    more (found t) g = record { a-name = g.a-name; not_plain = g.not_plain; is-taken = or_right (same t e.name) (taken es t) g.is-taken }
    more absent g = tt

    go : (b : Bool) (f : Found Token) → GivenRight es f → GivenRight (e ∷ es) (elim b as (λ z. Found Token) [ true ↦ found e.name | false ↦ f ])
    go true f g = let n = fresh es e.name h.0 in record { a-name = n.a-name; not_plain = n.not_plain; is-taken = or_left (same e.name e.name) (taken es e.name) (same_refl e.name) }
    go false f g = more f g

pub given_is : (es : List Entry) → Free es → (k : Kind) (x : ℕ) {t : Token} → given es k x ≡ found t → Given es t
given_is es h k x e = subst (GivenRight es) e (given-right es h k x)

pub record SameThing (k : Kind) (x : ℕ) (k' : Kind) (y : ℕ) : Type 0 where
  pub kinds : kind_number k ≡ kind_number k'
  pub numbers : x ≡ y

given-one : (es : List Entry) → Free es → (k : Kind) (x : ℕ) (k' : Kind) (y : ℕ) (t : Token) → given es k x ≡ found t → given es k' y ≡ found t → SameThing k x k' y
unfolding given taken
given-one [] h k x k' y t e f = let z : ◌≡◌ {A = ℕ} 0 1 = cc in absurd (omega arith)
given-one (n ∷ es) h k x k' y t e f =
    go (is_for n k x) refl (is_for n k' y) refl e f (given-one es h.1 k x k' y t)
  where
    clash : {A : Type 0} (k : Kind) (x : ℕ) → n.name ≡ t → given es k x ≡ found t → A
    clash k x p q = true-false (given_is es h.1 k x q).is-taken (subst (λ z. taken es z ≡ false) p (fresh es n.name h.0).not_taken)

    hit : (k : Kind) (x : ℕ) → is_for n k x ≡ true → (kind_number n.kind ≡ kind_number k) × (n.number ≡ x)
    hit k x p = let q = (and-eq-true_iff (eqb (kind_number n.kind) (kind_number k)) (eqb n.number x)).0 p in (eqb-true _ _ q.0, eqb-true _ _ q.1)

    go : (a : Bool) → is_for n k x ≡ a → (b : Bool) → is_for n k' y ≡ b
        → elim a as (λ z. Found Token) [ true ↦ found n.name | false ↦ given es k x ] ≡ found t → elim b as (λ z. Found Token) [ true ↦ found n.name | false ↦ given es k' y ] ≡ found t
        → (given es k x ≡ found t → given es k' y ≡ found t → SameThing k x k' y) → SameThing k x k' y
    go true p true q e f r = let u = hit k x p in let v = hit k' y q in record { kinds = sym u.0 ∙ v.0; numbers = sym u.1 ∙ v.1 }
    go true p false q e f r = let w : n.name ≡ t = cc in clash k' y w f
    go false p true q e f r = let w : n.name ≡ t = cc in clash k x w e
    go false p false q e f r = r e f

-- The sorts that have names.
abbrev pub HasNames : Kind → Type 0
HasNames label_number = Unit {0}
HasNames arrow_number = Unit {0}
HasNames node_number = Unit {0}
HasNames least_count = ⊥
HasNames most_count = ⊥

-- Plain names begin in a way that no given name does.
begins-plain : (k : Kind) (x : ℕ) → HasNames k → begins_plain_def (plain k x) ≡ true
unfolding plain ascii begins_plain_def begins_with
begins-plain label_number x h = refl
begins-plain arrow_number x h = refl
begins-plain node_number x h = refl
begins-plain least_count x h = absurd h
begins-plain most_count x h = absurd h

plain-one : (k : Kind) (x : ℕ) (k' : Kind) (y : ℕ) → HasNames k → HasNames k' → x < 1000 → y < 1000 → plain k x ≡ plain k' y → SameThing k x k' y
unfolding plain ascii
plain-one label_number x label_number y h h' a b e = record { kinds = refl; numbers = decimal-one x y a b (ap (drop 6) e) }
plain-one label_number x arrow_number y h h' a b e = let z : ◌≡◌ {A = ℕ} 0x6C 0x61 = ap (λ t. get_or t 0 0) e in absurd (omega arith)
plain-one label_number x node_number y h h' a b e = let z : ◌≡◌ {A = ℕ} 0x6C 0x6E = ap (λ t. get_or t 0 0) e in absurd (omega arith)
plain-one arrow_number x label_number y h h' a b e = let z : ◌≡◌ {A = ℕ} 0x61 0x6C = ap (λ t. get_or t 0 0) e in absurd (omega arith)
plain-one arrow_number x arrow_number y h h' a b e = record { kinds = refl; numbers = decimal-one x y a b (ap (drop 6) e) }
plain-one arrow_number x node_number y h h' a b e = let z : ◌≡◌ {A = ℕ} 0x61 0x6E = ap (λ t. get_or t 0 0) e in absurd (omega arith)
plain-one node_number x label_number y h h' a b e = let z : ◌≡◌ {A = ℕ} 0x6E 0x6C = ap (λ t. get_or t 0 0) e in absurd (omega arith)
plain-one node_number x arrow_number y h h' a b e = let z : ◌≡◌ {A = ℕ} 0x6E 0x61 = ap (λ t. get_or t 0 0) e in absurd (omega arith)
plain-one node_number x node_number y h h' a b e = record { kinds = refl; numbers = decimal-one x y a b (ap (drop 5) e) }
plain-one label_number x least_count y h h' a b e = absurd h'
plain-one label_number x most_count y h h' a b e = absurd h'
plain-one arrow_number x least_count y h h' a b e = absurd h'
plain-one arrow_number x most_count y h h' a b e = absurd h'
plain-one node_number x least_count y h h' a b e = absurd h'
plain-one node_number x most_count y h h' a b e = absurd h'
plain-one least_count x k' y h h' a b e = absurd h
plain-one most_count x k' y h h' a b e = absurd h

plain-name : (k : Kind) (x : ℕ) → HasNames k → Name (plain k x)
unfolding plain is_word_def letters is_letter_def class_of ascii notation_words among same
plain-name label_number x h = record { is_word = digits-letters (width x) x; not-of-notation = refl }
plain-name arrow_number x h = record { is_word = digits-letters (width x) x; not-of-notation = refl }
plain-name node_number x h = record { is_word = digits-letters (width x) x; not-of-notation = refl }
plain-name least_count x h = absurd h
plain-name most_count x h = absurd h

-- THE NAMES OF A TABLE THAT PASSED.
module _ (es : List Entry) (h : Free es) where
  names-differ : (k : Kind) (x : ℕ) (k' : Kind) (y : ℕ) → HasNames k → HasNames k' → x < 1000 → y < 1000 → given_or_plain es k x ≡ given_or_plain es k' y → SameThing k x k' y
  unfolding given_or_plain
  names-differ k x k' y n n' a b e = go (given es k x) refl (given es k' y) refl e
    where
      go : (f : Found Token) → given es k x ≡ f → (g : Found Token) → given es k' y ≡ g
          → ◌≡◌ {A = Token} (elim f as (λ z. Token) [ found t ↦ t | absent ↦ plain k x ]) (elim g as (λ z. Token) [ found t ↦ t | absent ↦ plain k' y ]) → SameThing k x k' y
      go (found t) p (found u) q e = given-one es h k x k' y t p (q ∙ ap found (sym e))
      go (found t) p absent q e = true-false (ap begins_plain_def e ∙ begins-plain k' y n') (given_is es h k x p).not_plain
      go absent p (found u) q e = true-false (sym (ap begins_plain_def e) ∙ begins-plain k x n) (given_is es h k' y q).not_plain
      go absent p absent q e = plain-one k x k' y n n' a b e

  is_name : (k : Kind) (x : ℕ) → HasNames k → Name (given_or_plain es k x)
  unfolding given_or_plain
  is_name k x n = go (given es k x) refl
    where
      go : (f : Found Token) → given es k x ≡ f → Name (elim f as (λ z. Token) [ found t ↦ t | absent ↦ plain k x ])
      go (found t) p = (given_is es h k x p).a-name
      go absent p = plain-name k x n

  -- Names are words and not the notation's; different numbers have different names, and no label shares a name with a node.
  pub names-are : (k : Kind) (x : ℕ) → HasNames k → Name (name_in es k x)
  unfolding name_in
  names-are label_number x n = is_name label_number x tt
  names-are arrow_number x n = is_name arrow_number x tt
  names-are node_number x n = is_name node_number x tt
  names-are least_count x n = absurd n
  names-are most_count x n = absurd n

  pub names-words : (k : Kind) (x : ℕ) → is_word_def (name_in es k x) ≡ true
  unfolding name_in
  names-words label_number x = (is_name label_number x tt).is_word
  names-words arrow_number x = (is_name arrow_number x tt).is_word
  names-words node_number x = (is_name node_number x tt).is_word
  names-words least_count x = decimal-word x
  names-words most_count x = decimal-word x

  pub names-one : (k : Kind) (x y : ℕ) → x < 1000 → y < 1000 → name_in es k x ≡ name_in es k y → x ≡ y
  unfolding name_in
  names-one label_number x y a b e = (names-differ label_number x label_number y tt tt a b e).numbers
  names-one arrow_number x y a b e = (names-differ arrow_number x arrow_number y tt tt a b e).numbers
  names-one node_number x y a b e = (names-differ node_number x node_number y tt tt a b e).numbers
  names-one least_count x y a b e = decimal-one x y a b e
  names-one most_count x y a b e = decimal-one x y a b e

  pub no-label-is-node : (x y : ℕ) → x < 1000 → y < 1000 → name_in es label_number x ≡ name_in es node_number y → ⊥
  unfolding name_in
  no-label-is-node x y a b e = let z = (names-differ label_number x node_number y tt tt a b e).kinds in omega arith

-- A table that passes has such entries; any other is refused with 63.
abbrev By63 : {A : Type 0} → (A → Type 0) → Asked A → Type 0
By63 P (passed a) = P a
By63 P (refused q p) = q ≡ 63

abbrev Any : {A : Type 0} → A → Type 0
Any a = Unit {0}

then_by : {A B : Type 0} (P : B → Type 0) (x : Asked A) (f : A → Asked B) → By63 Any x → ((a : A) → By63 P (f a)) → By63 P (x >>= f)
unfolding ◌>>=◌
then_by P (passed a) f h k = k a
then_by P (refused q p) f h k = h

next-by : {A B : Type 0} (P : B → Type 0) (x : Asked A) (y : Asked B) → By63 Any x → By63 P y → By63 P (x >> y)
unfolding ◌>>◌
next-by P (passed a) y h k = k
next-by P (refused q p) y h k = h

is-by : {B : Type 0} (P : B → Type 0) (b : Bool) (p : ℕ) (y : Asked B) → (b ≡ true → By63 P y) → By63 P (is b 63 p >> y)
unfolding is ◌>>◌
is-by P true p y k = k refl
is-by P false p y k = refl

kind-by : (s : Placed) → By63 Any (ask_kind s)
unfolding ask_kind
kind-by s = go (kind_of s.token)
  where
    go : (f : Found Kind) → By63 {A = Kind} Any (elim f as (λ z. Asked Kind) [ found k ↦ passed k | absent ↦ refused 63 s.place ])
    go (found k) = tt
    go absent = refl

number_by : (es : List Entry) (k : Kind) (s : Placed) → By63 Any (ask_number es k s)
unfolding ask_number
number_by es k s = go (first_below (λ x. same s.token (decimal x) && unnamed es k x) (count_of k))
  where
    go : (f : Found ℕ) → By63 {A = ℕ} Any (elim f as (λ z. Asked ℕ) [ found x ↦ passed x | absent ↦ refused 63 s.place ])
    go (found x) = tt
    go absent = refl

entries_by : (end : ℕ) (ts : List Placed) (es : List Entry) → Free es → By63 Free (ask_entries end ts es)
unfolding ask_entries
entries_by end [] es h = h
entries_by end (s ∷ []) es h = next-by Free (ask_kind s) (refused 63 end) (kind-by s) refl
entries_by end (s ∷ x ∷ []) es h = then_by Free (ask_kind s) _ (kind-by s) (λ k. next-by Free (ask_number es k x) (refused 63 end) (number_by es k x) refl)
entries_by end (s ∷ x ∷ t ∷ ts) es h =
    then_by Free (ask_kind s) _ (kind-by s) (λ k. then_by Free (ask_number es k x) _ (number_by es k x) (λ n. is-by Free (free_name_def es t.token) t.place _ (λ e. entries_by end ts (record { kind = k; number = n; name = t.token } ∷ es) (e, h))))

names-by : (text : List ℕ) → By63 Free (ask_names text)
unfolding ask_names
names-by text = entries_by _ (tokens text) [] tt

pub table-free : (text : List ℕ) {es : List Entry} → ask_names text ≡ passed es → Free es
table-free text e = subst (By63 Free) e (names-by text)

pub table-refused : (text : List ℕ) {q p : ℕ} → ask_names text ≡ refused q p → q ≡ 63
table-refused text e = subst (By63 Free) e (names-by text)
