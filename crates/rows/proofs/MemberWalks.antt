-- Loops over the members of a set, lowest first: what is done for those already taken, and what is done when none is left.
use mathlib.Core.Path.{◌≡◌, refl, sym, ap, ap₂, ◌∙◌}
use mathlib.Core.Bool.{Bool, true, false, not, ◌&&◌, ◌||◌, cond, and-eq-true_iff, and-true, and-false, or-true, or-false}
use Prim.Native.Nat.{ℕ, zero, suc, ◌<◌, ◌≤◌}
use native.Mathlib.Omega.{arith}
use lib.Dec.{eqb, ltb, leb}
use borrow.Author.Tests.{eqb-true, eq-eqb, lt-ltb, le-leb, lt-leb}
use Rattle.logic.specs.Graph.{Nodes, Pairs, count_below}
use Rattle.logic.proofs.Below.{count-cong, leave, count-leave}
use Rattle.bitset.specs.Words.{set_of, member, combined}
use Rattle.bitset.proofs.SetLaws.{set_of-cong, set_of-none, set_of-only, member-zero, member_of, combined-sets}
use Rattle.rows.specs.Operations.{enough}

-- what is left is in the set
abbrev pub Inside : ℕ → ℕ → Type 0
Inside left x = (k : ℕ) → member left k ≡ true → member x k ≡ true

-- what was taken
abbrev pub gone : ℕ → ℕ → Nodes
gone x left k = member x k && not (member left k)

pub gone-all : (x k : ℕ) → gone x x k ≡ false
gone-all x k = go (member x k) where
  go : (b : Bool) → (b && not b) ≡ false
  go true = refl
  go false = refl

pub gone-end : (x left k : ℕ) → left ≤ 0 → gone x left k ≡ member x k
gone-end x left k h = let e : left ≡ 0 = omega arith in ap (λ (b : Bool). member x k && not b) (ap (λ (y : ℕ). member y k) e ∙ member-zero k) ∙ and-true (member x k)

-- one turn: node i is taken out of what is left
module _ (x left i next : ℕ) (n : next ≡ set_of 64 (leave (member left) i)) (inside : Inside left x) where
  left-now : (k : ℕ) → member next k ≡ (ltb k 64 && leave (member left) i k)
  left-now k = ap (λ (y : ℕ). member y k) n ∙ member_of 64 (leave (member left) i) k

  pub inside-less : Inside next x
  inside-less k e = inside k ((and-eq-true_iff (member left k) (not (eqb k i))).0 ((and-eq-true_iff (ltb k 64) (leave (member left) i k)).0 (sym (left-now k) ∙ e)).1).0

  pub gone-more : member left i ≡ true → (k : ℕ) → k < 64 → gone x next k ≡ (gone x left k || eqb k i)
  gone-more m k l = ap (λ (b : Bool). member x k && not b) (left-now k ∙ ap (◌&& leave (member left) i k) (lt-ltb k 64 l)) ∙ go (eqb k i) refl where
    plain : (a b : Bool) → (a && not (b && true)) ≡ ((a && not b) || false)
    plain true true = refl
    plain true false = refl
    plain false b = refl

    go : (b : Bool) → eqb k i ≡ b → (member x k && not (member left k && not b)) ≡ (gone x left k || b)
    go true e =
        ap (λ (a : Bool). a && not (member left k && false)) (inside k (ap (member left) (eqb-true k i e) ∙ m))
        ∙ ap not (and-false (member left k)) ∙ sym (or-true (gone x left k))
    go false e = plain (member x k) (member left k)

pub gone-left : (x left i : ℕ) → member left i ≡ true → gone x left i ≡ false
gone-left x left i m = ap (λ (b : Bool). member x i && not b) m ∙ and-false (member x i)

-- Collecting those for which P holds.
abbrev pub Picked : (n x left : ℕ) → Nodes → ℕ → Type 0
Picked n x left P r = r ≡ set_of n (λ k. gone x left k && P k)

module _ (n x : ℕ) (P : Nodes) where
  pub picked_none : Picked n x x P 0
  picked_none = sym (set_of-cong n _ (λ k. false) (λ k l. ap (◌&& P k) (gone-all x k)) ∙ set_of-none n)

  pub picked-end : (left r : ℕ) → left ≤ 0 → Picked n x left P r → r ≡ set_of n (λ k. member x k && P k)
  picked-end left r h p = p ∙ set_of-cong n _ _ (λ k l. ap (◌&& P k) (gone-end x left k h))

  module _ (left i next r : ℕ) (h : n ≤ 64) (small : i < n) (e : next ≡ set_of 64 (leave (member left) i)) (inside : Inside left x) (m : member left i ≡ true) (p : Picked n x left P r) where
    pub picked-yes : (y z : ℕ) → P i ≡ true → y ≡ set_of 64 (λ k. eqb k i) → z ≡ combined ◌||◌ r y → Picked n x next P z
    picked-yes y z q s t =
        t ∙ ap₂ (combined ◌||◌) p (s ∙ set_of-only 64 i (omega arith) ∙ sym (set_of-only n i small))
        ∙ combined-sets ◌||◌ refl n (λ k. gone x left k && P k) (λ k. eqb k i) h
        ∙ set_of-cong n _ _ (λ k l. go k (eqb k i) refl ∙ ap (◌&& P k) (sym (gone-more x left i next e inside m k (omega arith)))) where
          go : (k : ℕ) (b : Bool) → eqb k i ≡ b → ((gone x left k && P k) || b) ≡ ((gone x left k || eqb k i) && P k)
          go k true d = or-true (gone x left k && P k) ∙ sym (ap₂ ◌&&◌ (ap (gone x left k ||◌) d ∙ or-true (gone x left k)) (ap P (eqb-true k i d) ∙ q))
          go k false d = or-false (gone x left k && P k) ∙ sym (ap (◌&& P k) (ap (gone x left k ||◌) d ∙ or-false (gone x left k)))

    pub picked-no : P i ≡ false → Picked n x next P r
    picked-no q = p ∙ set_of-cong n _ _ (λ k l. go k (eqb k i) refl ∙ ap (◌&& P k) (sym (gone-more x left i next e inside m k (omega arith)))) where
      go : (k : ℕ) (b : Bool) → eqb k i ≡ b → (gone x left k && P k) ≡ ((gone x left k || eqb k i) && P k)
      go k true d = let f : P k ≡ false = ap P (eqb-true k i d) ∙ q in ap (gone x left k &&◌) f ∙ and-false (gone x left k) ∙ sym (ap ((gone x left k || eqb k i) &&◌) f ∙ and-false (gone x left k || eqb k i))
      go k false d = sym (ap (◌&& P k) (ap (gone x left k ||◌) d ∙ or-false (gone x left k)))

-- Counting by columns: those in which at least k of the rows taken end.
abbrev pub Counted : (k n x left : ℕ) → Pairs → ℕ → Type 0
Counted k n x left v r = r ≡ set_of n (λ j. enough k n (λ i. v i j) (gone x left))

count_none : (n : ℕ) (p : Nodes) → ((k : ℕ) → p k ≡ false) → count_below n p ≡ 0
unfolding count_below
count_none zero p h = refl
count_none (suc n) p h = rw (h n, count_none n p h)

one_more : (b : Bool) (c : ℕ) → leb 1 (cond b (suc c) c) ≡ (leb 1 c || b)
one_more true c = le-leb 1 (suc c) (omega arith) ∙ sym (or-true (leb 1 c))
one_more false c = sym (or-false (leb 1 c))

count-more : (n i : ℕ) (c s t : Nodes) → i < n → s i ≡ false → ((k : ℕ) → k < n → t k ≡ (s k || eqb k i)) → count_below n (λ k. c k && t k) ≡ cond (c i) (suc (count_below n (λ k. c k && s k))) (count_below n (λ k. c k && s k))
count-more n i c s t l e f = go (c i) refl where
  same : (k : ℕ) (b : Bool) → eqb k i ≡ b → k < n → leave (λ j. c j && t j) i k ≡ (c k && s k)
  same k true d m =
      ap (λ (b : Bool). (c k && t k) && not b) d ∙ and-false (c k && t k)
      ∙ sym (ap (c k &&◌) (ap s (eqb-true k i d) ∙ e) ∙ and-false (c k))
  same k false d m = ap (λ (b : Bool). (c k && t k) && not b) d ∙ and-true (c k && t k) ∙ ap (c k &&◌) (f k m ∙ ap (s k ||◌) d ∙ or-false (s k))

  none : c i ≡ false → (k : ℕ) (b : Bool) → eqb k i ≡ b → k < n → (c k && t k) ≡ (c k && s k)
  none q k true d m = let g : c k ≡ false = ap c (eqb-true k i d) ∙ q in ap (◌&& t k) g ∙ sym (ap (◌&& s k) g)
  none q k false d m = ap (c k &&◌) (f k m ∙ ap (s k ||◌) d ∙ or-false (s k))

  go : (b : Bool) → c i ≡ b → count_below n (λ k. c k && t k) ≡ cond b (suc (count_below n (λ k. c k && s k))) (count_below n (λ k. c k && s k))
  go true q =
      count-leave n i (λ k. c k && t k) l (ap₂ ◌&&◌ q (f i l ∙ ap (s i ||◌) (eq-eqb i i refl) ∙ or-true (s i)))
      ∙ ap suc (count-cong n _ _ (λ k m. same k (eqb k i) refl m))
  go false q = count-cong n _ _ (λ k m. none q k (eqb k i) refl m)

module _ (n x : ℕ) (v : Pairs) where
  pub counted_none : (k : ℕ) → 0 < k → Counted k n x x v 0
  counted_none k h =
      sym (set_of-cong n _ (λ j. false) (λ j l. ap (leb k) (count_none n _ (λ i. ap (v i j &&◌) (gone-all x i) ∙ and-false (v i j))) ∙ few k h) ∙ set_of-none n) where
        few : (k : ℕ) → 0 < k → leb k 0 ≡ false
        few k h = lt-leb k 0 h

  pub counted-end : (k left r : ℕ) → left ≤ 0 → Counted k n x left v r → r ≡ set_of n (λ j. enough k n (λ i. v i j) (member x))
  counted-end k left r h p = p ∙ set_of-cong n _ _ (λ j l. ap (leb k) (count-cong n _ _ (λ i m. ap (v i j &&◌) (gone-end x left i h))))

  module _ (left i next one row : ℕ) (h : n ≤ 64) (small : i < n) (e : next ≡ set_of 64 (leave (member left) i)) (inside : Inside left x) (m : member left i ≡ true) (r : row ≡ set_of n (v i)) (p : Counted 1 n x left v one) where
    more : (j : ℕ) → count_below n (λ k. v k j && gone x next k) ≡ cond (v i j) (suc (count_below n (λ k. v k j && gone x left k))) (count_below n (λ k. v k j && gone x left k))
    more j = count-more n i (λ k. v k j) (gone x left) (gone x next) small (gone-left x left i m) (λ k l. gone-more x left i next e inside m k (omega arith))

    pub counted-one : (z : ℕ) → z ≡ combined ◌||◌ one row → Counted 1 n x next v z
    counted-one z t =
        t ∙ ap₂ (combined ◌||◌) p r ∙ combined-sets ◌||◌ refl n (λ j. enough 1 n (λ k. v k j) (gone x left)) (v i) h
        ∙ set_of-cong n _ _ (λ j l. sym (ap (leb 1) (more j) ∙ one_more (v i j) (count_below n (λ k. v k j && gone x left k))))
