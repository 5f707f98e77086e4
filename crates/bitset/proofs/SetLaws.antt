-- The laws of sets of nodes as words.
use mathlib.Core.Path.{◌≡◌, refl, sym, ap, ap₂, ◌∙◌}
use mathlib.Core.Bool.{Bool, true, false, not, ◌&&◌, ◌||◌, cond, or-true, or-false, and-true}
use Prim.Native.Nat.{ℕ, zero, suc, ◌+◌, ◌-◌, ◌*◌, ◌/◌, ◌%◌, ◌^◌, ◌≤◌, ◌<◌}
use native.Mathlib.Nat.{le_refl, pow-suc, one-mul, mod-lt, mod-one, lt-suc_self, mod-eq_of_lt, eq-or-lt_of_le, le_of_suc-le-suc, div-eq_of_lt, lt_of_lt_of_le, zero-div}
use native.Mathlib.Omega.{arith}
use native.Mathlib.Numerals.{add-one, one-add}
use mathlib.Core.Logic.{⊎_elim}
use borrow.Author.Tests.{ne_eqb, eq-eqb, lt-ltb, le-ltb, ltb-true, ltb-false}
use lib.Dec.{eqb, ltb, lit<, lit≤}
use lib.Bits.{bit_and, bit_or, or_shifted_r, and_mask}
use lib.Count.{ones, ones_cat}
use lib.Pow.{pow_pos, pow_mono, shl_exact, high, low, mod-pow-add, field, mod-mod-pow}
use Rattle.logic.specs.Graph.{Nodes, any_below, count_below}
use Rattle.bitset.specs.Words.{digit, set_of, member, combined}

pub set_of-lt : (n : ℕ) (p : Nodes) → set_of n p < 2 ^ n
unfolding set_of
set_of-lt zero p = lit< tt
set_of-lt (suc n) p = rw (pow-suc 2 n) (go (p n) (set_of-lt n p)) where
  go : (b : Bool) → set_of n p < 2 ^ n → digit b * 2 ^ n + set_of n p < 2 ^ n * 2
  go false h = omega arith
  go true h = omega arith

pub set_of-cong : (n : ℕ) (p q : Nodes) → ((i : ℕ) → i < n → p i ≡ q i) → set_of n p ≡ set_of n q
unfolding set_of
set_of-cong zero p q h = refl
set_of-cong (suc n) p q h = ap₂ (λ (b : Bool) (x : ℕ). digit b * 2 ^ n + x) (h n (lt-suc_self n)) (set_of-cong n p q (λ i l. h i (omega arith)))

pub set_of-all : (n : ℕ) → set_of n (λ i. true) ≡ 2 ^ n - 1
unfolding set_of
set_of-all zero = refl
set_of-all (suc n) = rw (set_of-all n, pow-suc 2 n) (omega (arith, pow_pos n))

pub set_of-none : (n : ℕ) → set_of n (λ i. false) ≡ 0
unfolding set_of
set_of-none zero = refl
set_of-none (suc n) = rw (set_of-none n) (omega arith)

pub member-zero : (i : ℕ) → member 0 i ≡ false
member-zero i = unfold member in ap (λ (x : ℕ). eqb (x % 2) 1) (zero-div (2 ^ i))

-- count_ones counts the members
pub ones-set_of : (n : ℕ) (p : Nodes) → ones (set_of n p) ≡ count_below n p
unfolding set_of count_below ones
ones-set_of zero p = refl
ones-set_of (suc n) p = ones_cat n (digit (p n)) (set_of n p) (set_of-lt n p) ∙ go (p n) (ones-set_of n p) where
  go : (b : Bool) {x c : ℕ} → x ≡ c → ones (digit b) + x ≡ cond b (suc c) c
  go false e = omega arith
  go true e = omega arith

pub count-le : (n : ℕ) (p : Nodes) → count_below n p ≤ n
unfolding count_below
count-le zero p = lit≤ tt
count-le (suc n) p = go (p n) (count-le n p) where
  go : (b : Bool) → count_below n p ≤ n → cond b (suc (count_below n p)) (count_below n p) ≤ suc n
  go false h = omega arith
  go true h = omega arith

-- a set is empty when it has no members
pub set_of-empty : (n : ℕ) (p : Nodes) → eqb (set_of n p) 0 ≡ not (any_below n p)
unfolding set_of any_below
set_of-empty zero p = refl
set_of-empty (suc n) p = go (p n) (set_of-empty n p) where
  go : (b : Bool) → eqb (set_of n p) 0 ≡ not (any_below n p) → eqb (digit b * 2 ^ n + set_of n p) 0 ≡ not (any_below n p || b)
  go false h = let e : 0 * 2 ^ n + set_of n p ≡ set_of n p = omega arith in ap (λ (x : ℕ). eqb x 0) e ∙ h ∙ ap not (sym (or-false (any_below n p)))
  go true h = ne_eqb (1 * 2 ^ n + set_of n p) 0 (λ e. omega (arith, pow_pos n)) ∙ ap not (sym (or-true (any_below n p)))

pub digit-bit : (x : ℕ) → x < 2 → digit (eqb x 1) ≡ x
digit-bit zero h = refl
digit-bit (suc zero) h = refl
digit-bit (suc (suc x)) h = absurd (omega arith)

-- the low n bits of x, as a set
pub set_of-member : (n x : ℕ) → set_of n (member x) ≡ x % 2 ^ n
unfolding set_of member
set_of-member zero x = sym (mod-one x)
set_of-member (suc n) x =
    ap₂ (λ (d y : ℕ). d * 2 ^ n + y) (digit-bit (x / 2 ^ n % 2) (mod-lt (x / 2 ^ n) (lit< tt))) (set_of-member n x)
    ∙ sym (ap (λ (k : ℕ). x % 2 ^ k) (sym (one-add n)) ∙ mod-pow-add x 1 n)

pub set_of-member-lt : (n x : ℕ) → x < 2 ^ n → set_of n (member x) ≡ x
set_of-member-lt n x h = set_of-member n x ∙ mod-eq_of_lt h

-- a word is the set of its members
pub is-set_of : (n x : ℕ) (p : Nodes) → x < 2 ^ n → ((i : ℕ) → i < n → member x i ≡ p i) → x ≡ set_of n p
is-set_of n x p h e = sym (set_of-member-lt n x h) ∙ set_of-cong n (member x) p e

top_bit : (n r : ℕ) (b : Bool) → r < 2 ^ n → member (digit b * 2 ^ n + r) n ≡ b
unfolding member
top_bit n r false h = rw (high 0 n h)
top_bit n r true h = rw (high 1 n h)

-- member i of x is among the low n bits
pub member-low : (n i x : ℕ) → i < n → member (x % 2 ^ n) i ≡ member x i
unfolding member
member-low n i x h =
    let e : n ≡ (n - i) + i = omega arith in
    let f : n - i ≡ (n - suc i) + 1 = omega arith in
    ap (λ (k : ℕ). eqb (x % 2 ^ k / 2 ^ i % 2) 1) e
    ∙ ap (λ (y : ℕ). eqb (y % 2) 1) (field x (n - i) i)
    ∙ ap (λ (k : ℕ). eqb (x / 2 ^ i % 2 ^ k % 2) 1) f
    ∙ ap (λ (y : ℕ). eqb y 1) (mod-mod-pow (x / 2 ^ i) (n - suc i) 1)

-- member i of the set is p i
pub member-set_of : (n : ℕ) (p : Nodes) (i : ℕ) → i < n → member (set_of n p) i ≡ p i
unfolding set_of
member-set_of zero p i h = absurd (omega arith)
member-set_of (suc n) p i h = ⊎_elim
    (λ e. ap (member (set_of (suc n) p)) e ∙ top_bit n (set_of n p) (p n) (set_of-lt n p) ∙ ap p (sym e))
    (λ l. sym (member-low n i (set_of (suc n) p) l) ∙ ap (λ (x : ℕ). member x i) (low (digit (p n)) n (set_of-lt n p)) ∙ member-set_of n p i l)
    (eq-or-lt_of_le (le_of_suc-le-suc h))

-- the machine's forms
pub shl_one : (i : ℕ) → i < 64 → 1 * 2 ^ i % 2 ^ 64 ≡ 2 ^ i
shl_one i h = shl_exact {a = 1} 1 i 64 (lit< tt) (omega arith) ∙ one-mul (2 ^ i)

pub test-member : (x i : ℕ) → eqb (bit_and (x / 2 ^ i) 1) 1 ≡ member x i
test-member x i = unfold member in ap (λ (y : ℕ). eqb y 1) (and_mask (x / 2 ^ i) 1)

-- a set grows by one bit: r |= d << n
pub set_of-more : (n : ℕ) (p : Nodes) (r d : ℕ) → n < 64 → r ≡ set_of n p → d ≡ digit (p n) → bit_or r (d * 2 ^ n % 2 ^ 64) ≡ set_of (n + 1) p
unfolding set_of
set_of-more n p r d h q e =
    ap₂ (λ (y x : ℕ). bit_or y (x * 2 ^ n % 2 ^ 64)) q e
    ∙ ap (bit_or (set_of n p)) (shl_exact {a = digit (p n)} 1 n 64 (small (p n)) (omega arith))
    ∙ or_shifted_r (digit (p n)) n (set_of n p) (set_of-lt n p)
    ∙ ap (λ (k : ℕ). set_of k p) (sym (add-one n)) where
      small : (b : Bool) → digit b < 2 ^ 1
      small false = lit< tt
      small true = lit< tt

-- or stays the same if the next bit is 0
pub set_of-same : (n : ℕ) (p : Nodes) (r : ℕ) → r ≡ set_of n p → p n ≡ false → r ≡ set_of (n + 1) p
set_of-same n p r q e = unfold set_of in rw (add-one, e) (omega arith)

-- at the loop's end i is n
pub set_of-end : (n i : ℕ) (p : Nodes) (r : ℕ) → i ≤ n → n ≤ i → r ≡ set_of i p → r ≡ set_of n p
set_of-end n i p r h l e = let q : i ≡ n = omega arith in e ∙ ap (λ (k : ℕ). set_of k p) q

pub set_of-zero : (p : Nodes) → 0 ≡ set_of 0 p
set_of-zero p = unfold set_of in refl

set_of-past : (n i : ℕ) → n ≤ i → set_of n (λ k. eqb k i) ≡ 0
unfolding set_of
set_of-past zero i h = refl
set_of-past (suc n) i h = rw (ne_eqb n i (λ e. omega arith), set_of-past n i (omega arith)) (omega arith)

-- the set with one member
pub set_of-only : (n i : ℕ) → i < n → set_of n (λ k. eqb k i) ≡ 2 ^ i
unfolding set_of
set_of-only zero i h = absurd (omega arith)
set_of-only (suc n) i h = ⊎_elim
    (λ (e : i ≡ n). rw e (rw (eq-eqb n n refl, set_of-past n n (le_refl n)) (omega arith)))
    (λ (l : i < n). rw (ne_eqb n i (λ e. omega arith), set_of-only n i l) (omega arith))
    (eq-or-lt_of_le (le_of_suc-le-suc h))

-- A set of nodes below n in a wider word.
pub set_of-wide : (n m : ℕ) (p : Nodes) → n ≤ m → set_of m (λ i. ltb i n && p i) ≡ set_of n p
unfolding set_of
set_of-wide n zero p h = let e : n ≡ 0 = omega arith in ap (λ (k : ℕ). set_of k p) (sym e)
set_of-wide n (suc m) p h = ⊎_elim
    (λ (e : n ≡ suc m). set_of-cong (suc m) (λ i. ltb i n && p i) p (λ i l. rw (lt-ltb i n (omega arith))) ∙ ap (λ (k : ℕ). set_of k p) (sym e))
    (λ (l : n < suc m). rw (le-ltb m n (omega arith), set_of-wide n m p (omega arith)) (omega arith))
    (eq-or-lt_of_le h)

-- the set of the n lowest, in a wider word
pub set_of-lowest : (n m : ℕ) → n ≤ m → set_of m (λ i. ltb i n) ≡ set_of n (λ i. true)
set_of-lowest n m h = set_of-cong m _ _ (λ i l. sym (and-true (ltb i n))) ∙ set_of-wide n m (λ i. true) h

pub member-beyond : (n : ℕ) (p : Nodes) (i : ℕ) → n ≤ i → member (set_of n p) i ≡ false
member-beyond n p i h = unfold member in ap (λ (x : ℕ). eqb (x % 2) 1) (div-eq_of_lt (lt_of_lt_of_le (set_of-lt n p) (pow_mono h)))

-- The members of a set's word are the set's members below n.
pub member_of : (n : ℕ) (p : Nodes) (i : ℕ) → member (set_of n p) i ≡ (ltb i n && p i)
member_of n p i = go (ltb i n) refl where
  go : (b : Bool) → ltb i n ≡ b → member (set_of n p) i ≡ (b && p i)
  go true e = member-set_of n p i (ltb-true i n e)
  go false e = member-beyond n p i (ltb-false i n e)

-- ONE law for every operation and width: combining two words combines their sets.
pub combined-sets : (f : Bool → Bool → Bool) → f false false ≡ false → (n : ℕ) (p q : Nodes) → n ≤ 64 → combined f (set_of n p) (set_of n q) ≡ set_of n (λ i. f (p i) (q i))
combined-sets f z n p q h =
    set_of-cong 64 _ (λ i. ltb i n && f (p i) (q i)) (λ i l. ap₂ f (member_of n p i) (member_of n q i) ∙ go (ltb i n) (p i) (q i))
    ∙ set_of-wide n 64 (λ i. f (p i) (q i)) h where
      go : (b x y : Bool) → f (b && x) (b && y) ≡ (b && f x y)
      go true x y = refl
      go false x y = z

-- so counting what two words have in common counts it in the sets
pub common-sets : (n : ℕ) (p q : Nodes) → n ≤ 64 → count_below 64 (λ i. member (set_of n p) i && member (set_of n q) i) ≡ count_below n (λ i. p i && q i)
common-sets n p q h = sym (ones-set_of 64 _) ∙ ap ones (combined-sets ◌&&◌ refl n p q h) ∙ ones-set_of n _
