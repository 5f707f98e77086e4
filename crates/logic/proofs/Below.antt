-- The numbers below n that are in a set: whether one is, whether all are, how many are; and the set without one of them.
use mathlib.Core.Path.{◌≡◌, refl, sym, ◌∙◌, ap, ap₂}
use mathlib.Core.Bool.{Bool, true, false, not, ◌&&◌, ◌||◌, cond, and-eq-true_iff, and-true, or-true, or-false, and-or_distrib_right}
use Prim.Native.Nat.{ℕ, zero, suc, ◌+◌, ◌≤◌, ◌<◌}
use native.Mathlib.Decide.{dec_lt}
use native.Mathlib.Numerals.{add-one}
use native.Mathlib.Omega.{arith}
use lib.Dec.{leb, eqb}
use borrow.Author.Tests.{le-leb, eq-eqb, ne_eqb, not-true, not-false}
use Rattle.logic.specs.Graph.{Nodes, any_below, all_below, count_below, implies}
use Rattle.logic.proofs.Bools.{true-false, is_false}

-- sets with the same members below n
pub any-cong : (n : ℕ) (v u : Nodes) → ((i : ℕ) → i < n → v i ≡ u i) → any_below n v ≡ any_below n u
unfolding any_below
any-cong zero v u h = refl
any-cong (suc n) v u h = ap₂ ◌||◌ (any-cong n v u (λ i l. h i (omega arith))) (h n (omega arith))

pub all-cong : (n : ℕ) (v u : Nodes) → ((i : ℕ) → i < n → v i ≡ u i) → all_below n v ≡ all_below n u
unfolding all_below
all-cong zero v u h = refl
all-cong (suc n) v u h = ap₂ ◌&&◌ (all-cong n v u (λ i l. h i (omega arith))) (h n (omega arith))

pub count-cong : (n : ℕ) (v u : Nodes) → ((i : ℕ) → i < n → v i ≡ u i) → count_below n v ≡ count_below n u
unfolding count_below
count-cong zero v u h = refl
count-cong (suc n) v u h = ap₂ (λ b c. cond b (suc c) c) (h n (omega arith)) (count-cong n v u (λ i l. h i (omega arith)))

-- one is in the set
pub any_found : (n : ℕ) (v : Nodes) → any_below n v ≡ true → (i : ℕ) × (i < n) × (v i ≡ true)
unfolding any_below
any_found zero v h = let z : ◌≡◌ {A = ℕ} 0 1 = cc in absurd (omega arith)
any_found (suc n) v h = go (any_found n v) (any_below n v) refl (v n) refl h where
  go : (any_below n v ≡ true → (i : ℕ) × (i < n) × (v i ≡ true)) → (a : Bool) → any_below n v ≡ a → (b : Bool) → v n ≡ b → (a || b) ≡ true → (i : ℕ) × (i < suc n) × (v i ≡ true)
  go rest true e b f h = let (i, l, t) = rest e in (i, omega arith, t)
  go rest false e b f h = (n, omega arith, f ∙ h)

pub any-and : (n : ℕ) (v : Nodes) (c : Bool) → any_below n (λ i. v i && c) ≡ (any_below n v && c)
unfolding any_below
any-and zero v c = refl
any-and (suc n) v c = ap (◌|| (v n && c)) (any-and n v c) ∙ sym (and-or_distrib_right (any_below n v) (v n) c)

-- all are in the set
pub all_true : (n : ℕ) (v : Nodes) → ((i : ℕ) → i < n → v i ≡ true) → all_below n v ≡ true
unfolding all_below
all_true zero v h = refl
all_true (suc n) v h = ap₂ ◌&&◌ (all_true n v (λ i l. h i (omega arith))) (h n (omega arith))

pub all-each : (n : ℕ) (v : Nodes) → all_below n v ≡ true → (i : ℕ) → i < n → v i ≡ true
unfolding all_below
all-each zero v e i l = absurd (omega arith)
all-each (suc n) v e i l = go (dec_lt i n) ((and-eq-true_iff (all_below n v) (v n)).0 e) (all-each n v) where
  go : Dec (i < n) → (all_below n v ≡ true) × (v n ≡ true) → (all_below n v ≡ true → (i : ℕ) → i < n → v i ≡ true) → v i ≡ true
  go (yes k) b r = r b.0 i k
  go (no k) b r = let q : i ≡ n = omega arith in ap v q ∙ b.1

-- if the two sets are complements: all are in the one exactly when none is in the other
pub all-not-any : (n : ℕ) (v u : Nodes) → ((i : ℕ) → i < n → v i ≡ not (u i)) → all_below n v ≡ not (any_below n u)
unfolding all_below any_below
all-not-any zero v u h = refl
all-not-any (suc n) v u h = ap₂ ◌&&◌ (all-not-any n v u (λ i l. h i (omega arith))) (h n (omega arith)) ∙ neither (any_below n u) (u n) where
  neither : (a b : Bool) → (not a && not b) ≡ not (a || b)
  neither true b = refl
  neither false b = refl

pub none-outside : (n : ℕ) (v u : Nodes) → not (any_below n (λ i. v i && not (u i))) ≡ all_below n (λ i. implies (v i) (u i))
none-outside n v u = sym (all-not-any n (λ i. implies (v i) (u i)) (λ i. v i && not (u i)) (λ i l. go (v i) (u i))) where
  go : (x y : Bool) → implies x y ≡ not (x && not y)
  go true true = refl
  go true false = refl
  go false y = refl

-- none is in the set if each is outside; one is if not all are outside
pub any_none : (n : ℕ) (v : Nodes) → ((i : ℕ) → i < n → v i ≡ false) → any_below n v ≡ false
any_none n v h = not-true _ (sym (all-not-any n (λ i. not (v i)) v (λ i l. refl)) ∙ all_true n (λ i. not (v i)) (λ i l. ap not (h i l)))

pub all-stop : (v : Nodes) (n i : ℕ) → i < n → v i ≡ false → all_below n v ≡ false
all-stop v n i l e = is_false (all_below n v) (λ t. true-false (all-each n v t i l) e)

pub any-one : (n : ℕ) (v : Nodes) (i : ℕ) → i < n → v i ≡ true → any_below n v ≡ true
any-one n v i l e = not-false _ (sym (all-not-any n (λ i. not (v i)) v (λ i l. refl)) ∙ all-stop (λ i. not (v i)) n i l (ap not e))

pub any-not : (n : ℕ) (v : Nodes) → any_below n v ≡ false → (i : ℕ) → i < n → v i ≡ false
any-not n v h i l = is_false (v i) (λ t. true-false (any-one n v i l t) h)

-- all are in the set, one by one
module _ (v : Nodes) where
  pub all_none : all_below 0 v ≡ true
  all_none = unfold all_below in refl

  pub all-next : (i : ℕ) → all_below i v ≡ true → v i ≡ true → all_below (i + 1) v ≡ true
  all-next i e t = unfold all_below in ap (λ x. all_below x v) (add-one i) ∙ ap₂ ◌&&◌ e t

  pub all_end : (n i : ℕ) → i ≤ n → n ≤ i → all_below i v ≡ true → all_below n v ≡ true
  all_end n i h l e = let q : n ≡ i = omega arith in ap (λ x. all_below x v) q ∙ e

-- how many are in the set
pub one-or-more : (n : ℕ) (v : Nodes) → leb 1 (count_below n v) ≡ any_below n v
unfolding count_below any_below
one-or-more zero v = refl
one-or-more (suc n) v = go (v n) (one-or-more n v) where
  go : (b : Bool) → leb 1 (count_below n v) ≡ any_below n v → leb 1 (cond b (suc (count_below n v)) (count_below n v)) ≡ (any_below n v || b)
  go true h = le-leb 1 (suc (count_below n v)) (omega arith) ∙ sym (or-true (any_below n v))
  go false h = h ∙ sym (or-false (any_below n v))

-- the set without one of them
abbrev pub leave : Nodes → ℕ → Nodes
leave v i k = v k && not (eqb k i)

pub leave-below : (n i : ℕ) (v : Nodes) → n ≤ i → (k : ℕ) → k < n → leave v i k ≡ v k
leave-below n i v h k l = ap (λ (b : Bool). v k && not b) (ne_eqb k i (λ e. omega arith)) ∙ and-true (v k)

pub count-leave : (n i : ℕ) (v : Nodes) → i < n → v i ≡ true → count_below n v ≡ suc (count_below n (leave v i))
unfolding count_below
count-leave zero i v h e = absurd (omega arith)
count-leave (suc n) i v h e = go (dec_lt i n) (λ l. count-leave n i v l e) where
  more : (b : Bool) (c : ℕ) → cond b (suc (suc c)) (suc c) ≡ suc (cond b (suc c) c)
  more true c = refl
  more false c = refl

  go : Dec (i < n) → (i < n → count_below n v ≡ suc (count_below n (leave v i))) → count_below (suc n) v ≡ suc (count_below (suc n) (leave v i))
  go (yes l) r = rw (ne_eqb n i (λ q. omega arith), and-true (v n), r l) (more (v n) (count_below n (leave v i)))
  go (no l) r = let q : i ≡ n = omega arith in rw (ap v (sym q) ∙ e, eq-eqb n i (sym q), count-cong n (leave v i) v (leave-below n i v (omega arith)))
