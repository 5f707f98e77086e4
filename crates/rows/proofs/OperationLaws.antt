-- The operations on words and on rows of words are those on the sets and relations that they stand for.
use mathlib.Core.Path.{◌≡◌, refl, sym, ap, ap₂, ◌∙◌, subst}
use mathlib.Core.Bool.{Bool, true, false, not, ◌&&◌, ◌||◌, cond, and-true, and-false, or-false, not-not, beq}
use mathlib.Core.List.{List, [], ◌∷◌}
use mathlib.Core.Logic.{⊎_elim}
use Prim.Native.Nat.{ℕ, zero, suc, ◌+◌, ◌/◌, ◌%◌, ◌^◌, ◌<◌, ◌≤◌}
use native.Mathlib.Nat.{eq-or-lt_of_le, le_of_suc-le-suc}
use native.Mathlib.Numerals.{add-one}
use native.Mathlib.Omega.{arith}
use lib.Dec.{eqb, ltb}
use lib.ListN.{length, get_or, set, replicate, length-set}
use lib.Seq.{get_or-set_same, get_or-set_other}
use borrow.Author.Tests.{ne_eqb, eqb-true, eqb-false, lt-ltb, ltb-true}
use Rattle.logic.specs.Graph.{Nodes, Pairs, any_below, all_below, count_below, implies}
use Rattle.logic.proofs.Below.{none-outside}
use Rattle.bitset.specs.Words.{digit, set_of, member, combined}
use Rattle.bitset.proofs.SetLaws.{set_of-cong, set_of-empty, set_of-none, set_of-wide, member_of, member-set_of, combined-sets, common-sets}
use Rattle.sheet.specs.Sheet.{Rows}
use Rattle.rows.specs.Operations.{arrow_operation, Masked, Columns, turn}

-- What a loop that changes the rows a in place has done up to row i: below i they are f, from i on they are still those of a.
pub record Changed (i : ℕ) (a l : List ℕ) (f : ℕ → ℕ) : Type 0 where
  pub row : (k : ℕ) → k < i → get_or l k 0 ≡ f k
  pub rest : (k : ℕ) → i ≤ k → get_or l k 0 ≡ get_or a k 0

pub changed-none : {a : List ℕ} {f : ℕ → ℕ} → Changed 0 a a f
changed-none = record { row = λ k h. absurd (omega arith); rest = λ k h. refl }

pub changed-more : {i : ℕ} {a l : List ℕ} {f : ℕ → ℕ} {v : ℕ} → i < length l → Changed i a l f → v ≡ f i → Changed (i + 1) a (set l i v) f
changed-more {i} {l = l} {f = f} {v = v} h c e =
    record {
      row = λ k lt. ⊎_elim
          (λ (q : k ≡ i). ap (λ (j : ℕ). get_or (set l i v) j 0) q ∙ get_or-set_same l i v 0 h ∙ e ∙ ap f (sym q))
          (λ (q : k < i). get_or-set_other l i k v 0 (λ z. omega arith) ∙ c.row k q)
          (eq-or-lt_of_le (le_of_suc-le-suc (rw add-one at lt)));
      rest = λ k b. get_or-set_other l i k v 0 (λ z. omega arith) ∙ c.rest k (omega arith);
    }

-- each index of zeros holds zero
pub zeros-at : (n k : ℕ) → ◌≡◌ {A = ℕ} (get_or (replicate n 0) k 0) 0
zeros-at zero k = refl
zeros-at (suc n) zero = refl
zeros-at (suc n) (suc k) = zeros-at n k

pub minus-empty : (n : ℕ) (v w : Nodes) → n ≤ 64 → eqb (combined (λ a b. a && not b) (set_of n v) (set_of n w)) 0 ≡ all_below n (λ i. implies (v i) (w i))
minus-empty n v w h = ap (λ (x : ℕ). eqb x 0) (combined-sets (λ a b. a && not b) refl n v w h) ∙ set_of-empty n (λ i. v i && not (w i)) ∙ none-outside n v w

-- The operations put nothing where there is nothing.
pub arrow-operation-none : (c : ℕ) → arrow_operation c false false ≡ false
arrow-operation-none c = go (eqb c 0x13) (eqb c 0x14) where
  go : (b d : Bool) → cond b (false || false) (cond d (false && false) (false && not false)) ≡ false
  go true d = refl
  go false true = refl
  go false false = refl

pub not_is : (a b : Bool) → not a ≡ b → a ≡ not b
not_is true b e = ap not e
not_is false b e = ap not e

module _ (n : ℕ) (v w : Nodes) (row e : ℕ) (h : n ≤ 64) (p : row ≡ set_of n v) (q : e ≡ set_of n w) where
  -- a common member
  pub some-common : (x : ℕ) → x ≡ combined ◌&&◌ row e → not (eqb x 0) ≡ any_below n (λ j. v j && w j)
  some-common x s =
      ap (λ (y : ℕ). not (eqb y 0)) (s ∙ ap₂ (combined ◌&&◌) p q ∙ combined-sets ◌&&◌ refl n v w h)
      ∙ ap not (set_of-empty n (λ j. v j && w j)) ∙ not-not (any_below n (λ j. v j && w j))

  -- how many
  pub count-common : (x : ℕ) → x ≡ count_below 64 (λ i. member row i && member e i) → x ≡ count_below n (λ j. v j && w j)
  count-common x s = s ∙ ap₂ (λ (y z : ℕ). count_below 64 (λ i. member y i && member z i)) p q ∙ common-sets n v w h

-- A set among n nodes and a set of the whole word.
pub combined-wide : (n : ℕ) (p q : Nodes) → n ≤ 64 → combined ◌&&◌ (set_of n p) (set_of 64 q) ≡ set_of n (λ i. p i && q i)
combined-wide n p q h =
    set_of-cong 64 _ (λ i. ltb i n && (p i && q i)) (λ i l. ap₂ ◌&&◌ (member_of n p i) (member-set_of 64 q i l) ∙ go (ltb i n) (p i) (q i))
    ∙ set_of-wide n 64 (λ i. p i && q i) h where
      go : (a b c : Bool) → ((a && b) && c) ≡ (a && (b && c))
      go true b c = refl
      go false b c = refl

-- 13, 14, 15: the second relation's words, read from rows or from the sheet
pub rows-combined : {n k : ℕ} {v : Pairs} {a r : List ℕ} {word : ℕ → ℕ} (w : Pairs) (c : ℕ) → n ≤ 64 → n ≤ k → Rows n v a → ((i : ℕ) → i < n → word i ≡ set_of n (w i)) → Changed k a r (λ i. combined (arrow_operation c) (get_or a i 0) (word i)) → Rows n (λ i j. arrow_operation c (v i j) (w i j)) r
rows-combined {n} {v = v} w c h e p q f =
    record { row = λ i l. f.row i (omega arith) ∙ ap₂ (combined (arrow_operation c)) (p.row i l) (q i l) ∙ combined-sets (arrow_operation c) (arrow-operation-none c) n (v i) (w i) h }

module _ {n : ℕ} {v : Pairs} {a r : List ℕ} where
  pub rows-ending : (w : Nodes) (e : ℕ) → n ≤ 64 → Rows n v a → e ≡ set_of n w → Masked n a e r → Rows n (λ i j. v i j && w j) r
  rows-ending w e h p q f = record { row = λ i l. f.row i l ∙ ap₂ (combined ◌&&◌) (p.row i l) q ∙ combined-sets ◌&&◌ refl n (v i) w h }

  pub rows-starting : (w : Nodes) (e k : ℕ) → n ≤ k → Rows n v a → e ≡ set_of n w → Changed k a r (λ i. cond (member e i) (get_or a i 0) 0) → Rows n (λ i j. v i j && w i) r
  rows-starting w e k m p q f = record {
    row = λ i l. f.row i (omega arith) ∙ ap₂ (λ (b : Bool) (x : ℕ). cond b x 0) (ap (λ (x : ℕ). member x i) q ∙ member-set_of n w i l) (p.row i l) ∙ go (w i) (v i);
  } where
    go : (b : Bool) (u : Nodes) → cond b (set_of n u) 0 ≡ set_of n (λ j. u j && b)
    go true u = set_of-cong n u _ (λ j l. sym (and-true (u j)))
    go false u = sym (set_of-cong n _ (λ j. false) (λ j l. and-false (u j)) ∙ set_of-none n)

  -- t has m columns of a as rows
  pub rows-reversed : (m : ℕ) (t : List ℕ) (e : ℕ) → n ≤ m → m ≤ 64 → Rows n v a → ((i : ℕ) → i < n → get_or t i 0 ≡ set_of m (λ j. member (get_or a j 0) i)) → e ≡ set_of 64 (λ j. ltb j n) → Masked n t e r → Rows n (λ i j. v j i) r
  rows-reversed m t e h u p q s f =
      record {
        row = λ i l.
            f.row i l
            ∙ ap₂ (combined ◌&&◌) (q i l) s
            ∙ set_of-cong 64 _ (λ j. ltb j n && member (get_or a j 0) i)
            (λ j k. ap₂ ◌&&◌ (member_of m (λ x. member (get_or a x 0) i) j) (member-set_of 64 (λ x. ltb x n) j k) ∙ below (ltb j m) (member (get_or a j 0) i) (ltb j n) (λ (b : ltb j n ≡ true). lt-ltb j m (omega (arith, ltb-true j n b))))
            ∙ set_of-wide n 64 (λ j. member (get_or a j 0) i) (omega arith)
            ∙ set_of-cong n _ _ (λ j k. ap (λ (x : ℕ). member x i) (p.row j k) ∙ member-set_of n (v j) i l);
      } where
        below : (x y z : Bool) → (z ≡ true → x ≡ true) → ((x && y) && z) ≡ (z && y)
        below x y true b = and-true (x && y) ∙ ap (◌&& y) (b refl)
        below x y false b = and-false (x && y)

-- a bit as a digit
pub bit-digit : (x j : ℕ) → x / 2 ^ j % 2 ≡ digit (member x j)
unfolding member
bit-digit x j = go (x / 2 ^ j % 2) (omega arith) where
  go : (z : ℕ) → z < 2 → z ≡ digit (eqb z 1)
  go zero l = refl
  go (suc zero) l = refl
  go (suc (suc z)) l = absurd (omega arith)

-- three columns in place of three rows
pub columns-of-three : (l : List ℕ) (x y z : ℕ) → length l ≡ 64 → x ≡ set_of 3 (λ i. member (get_or (get_or l 0 0 ∷ get_or l 1 0 ∷ get_or l 2 0 ∷ []) i 0) 0) → y ≡ set_of 3 (λ i. member (get_or (get_or l 0 0 ∷ get_or l 1 0 ∷ get_or l 2 0 ∷ []) i 0) 1)
    → z ≡ set_of 3 (λ i. member (get_or (get_or l 0 0 ∷ get_or l 1 0 ∷ get_or l 2 0 ∷ []) i 0) 2) → Columns 3 l (set (set (set l 0 x) 1 y) 2 z)
unfolding set_of
columns-of-three l x y z s ex ey ez =
    let f : ℕ → ℕ = λ i. set_of 3 (λ j. member (get_or l j 0) i) in
    let one : Changed 1 l (set l 0 x) f = changed-more {f = f} (omega arith) changed-none ex in
    let two : Changed 2 l (set (set l 0 x) 1 y) f = changed-more {f = f} (omega (arith, length-set l 0 x)) one ey in
    let three : Changed 3 l (set (set (set l 0 x) 1 y) 2 z) f = changed-more {f = f} (omega (arith, length-set l 0 x, length-set (set l 0 x) 1 y)) two ez in
    record { row = three.row }

-- 17
module _ (n i j all : ℕ) (nodes : Nodes) (small : i < n) (a : all ≡ set_of n nodes) where
  pub pair-there : (x : ℕ) → member all i ≡ true → x ≡ set_of n (λ l. nodes l && eqb l j) → x ≡ set_of n (λ l. nodes i && (nodes l && eqb l j))
  pair-there x e f = f ∙ set_of-cong n _ _ (λ l k. ap (◌&& (nodes l && eqb l j)) (sym (sym (member-set_of n nodes i small) ∙ ap (λ (y : ℕ). member y i) (sym a) ∙ e)))

  pub pair-gone : member all i ≡ false → 0 ≡ set_of n (λ l. nodes i && (nodes l && eqb l j))
  pair-gone e = sym (set_of-none n) ∙ set_of-cong n _ _ (λ l k. ap (◌&& (nodes l && eqb l j)) (sym (sym (member-set_of n nodes i small) ∙ ap (λ (y : ℕ). member y i) (sym a) ∙ e)))

pub rows-pair : (n : ℕ) (nodes : Nodes) (out : List ℕ) (i j k x : ℕ) → out ≡ replicate 64 0 → k ≡ i → i < 64 → (i < n → x ≡ set_of n (λ l. nodes i && (nodes l && eqb l j))) → Rows n (λ s l. (nodes s && eqb s i) && (nodes l && eqb l j)) (set out k x)
rows-pair n nodes out i j k x o e h f = record { row = λ s l. ap (λ (y : List ℕ). get_or (set y k x) s 0) o ∙ go s l (eqb s i) refl } where
  go : (s : ℕ) → s < n → (b : Bool) → eqb s i ≡ b → get_or (set (replicate 64 0) k x) s 0 ≡ set_of n (λ l. (nodes s && eqb s i) && (nodes l && eqb l j))
  go s l true d =
      let q : s ≡ i = eqb-true s i d in
      ap (λ (y : ℕ). get_or (set (replicate 64 0) k x) y 0) (q ∙ sym e) ∙ get_or-set_same (replicate 64 0) k x 0 (omega arith) ∙ f (omega arith)
      ∙ set_of-cong n _ _ (λ t z. ap (◌&& (nodes t && eqb t j)) (ap nodes (sym q) ∙ sym (and-true (nodes s)) ∙ ap (nodes s &&◌) (sym d)))
  go s l false d =
      get_or-set_other (replicate 64 0) k s x 0 (λ z. eqb-false s i d (z ∙ e)) ∙ zeros-at 64 s ∙ sym (set_of-none n)
      ∙ set_of-cong n _ _ (λ t z. ap (◌&& (nodes t && eqb t j)) (sym (ap (nodes s &&◌) d ∙ and-false (nodes s))))

-- 13, 15 with one pair
pub rows-paired : (c n : ℕ) (nodes : Nodes) (v : Pairs) (a : List ℕ) (i j k x y : ℕ) → (c ≡ 0x14 → ⊥) → n ≤ 64 → length a ≡ 64 → k ≡ i → i < 64 → Rows n v a
    → (i < n → x ≡ set_of n (λ l. nodes i && (nodes l && eqb l j))) → y ≡ combined (arrow_operation c) (get_or a k 0) x
    → Rows n (λ s l. arrow_operation c (v s l) ((nodes s && eqb s i) && (nodes l && eqb l j))) (set a k y)
rows-paired c n nodes v a i j k x y d h len e small p f g = record { row = λ s l. go s l (eqb s i) refl } where
  stays : (b t z : Bool) → t ≡ false → z ≡ cond b (z || false) (cond t (z && false) (z && not false))
  stays true t z q = sym (or-false z)
  stays false t z q = sym (ap (λ (u : Bool). cond u (z && false) (z && true)) q ∙ and-true z)

  go : (s : ℕ) → s < n → (b : Bool) → eqb s i ≡ b → get_or (set a k y) s 0 ≡ set_of n (λ l. arrow_operation c (v s l) ((nodes s && eqb s i) && (nodes l && eqb l j)))
  go s l true q =
      let o : s ≡ i = eqb-true s i q in
      ap (λ (z : ℕ). get_or (set a k y) z 0) (o ∙ sym e) ∙ get_or-set_same a k y 0 (omega arith) ∙ g
      ∙ ap₂ (combined (arrow_operation c)) (ap (λ (z : ℕ). get_or a z 0) (e ∙ sym o) ∙ p.row s l) (f (omega arith))
      ∙ combined-sets (arrow_operation c) (arrow-operation-none c) n (v s) (λ t. nodes i && (nodes t && eqb t j)) h
      ∙ set_of-cong n _ _ (λ t z. ap (λ (u : Bool). arrow_operation c (v s t) (u && (nodes t && eqb t j))) (ap nodes (sym o) ∙ sym (and-true (nodes s)) ∙ ap (nodes s &&◌) (sym q)))
  go s l false q =
      get_or-set_other a k s y 0 (λ z. eqb-false s i q (z ∙ e)) ∙ p.row s l
      ∙ set_of-cong n _ _ (λ t z. stays (eqb c 0x13) (eqb c 0x14) (v s t) (ne_eqb c 0x14 d) ∙ ap (λ (u : Bool). arrow_operation c (v s t) (u && (nodes t && eqb t j))) (sym (ap (nodes s &&◌) q ∙ and-false (nodes s))))

-- A relation in rows or, turned, in columns.
module _ {n : ℕ} {a : List ℕ} (b d : Bool) where
  pub other_way : {r : List ℕ} → not (beq b d) ≡ true → ((u : Pairs) → Rows n u a → Rows n (λ i j. u j i) r) → (v : Pairs) → Rows n (turn b v) a → Rows n (turn d v) r
  other_way {r} h f v p = subst (λ (u : Pairs). Rows n u r) (go b d h) (f (turn b v) p) where
    go : (b d : Bool) → not (beq b d) ≡ true → (λ i j. turn b v j i) ≡ turn d v
    go true true h = cc
    go true false h = refl
    go false true h = refl
    go false false h = cc

  pub same_way : not (beq b d) ≡ false → (v : Pairs) → Rows n (turn b v) a → Rows n (turn d v) a
  same_way h v p = subst (λ (c : Bool). Rows n (turn c v) a) (go b d h) p where
    go : (b d : Bool) → not (beq b d) ≡ false → b ≡ d
    go true true h = refl
    go true false h = cc
    go false true h = cc
    go false false h = refl

module _ {n : ℕ} {a r : List ℕ} {e : ℕ} where
  pub ending-turned : (b : Bool) → b ≡ true → ((u : Pairs) (w : Nodes) → Rows n u a → e ≡ set_of n w → Rows n (λ i j. u i j && w i) r)
      → (v : Pairs) (w : Nodes) → Rows n (turn b v) a → e ≡ set_of n w → Rows n (turn b (λ i j. v i j && w j)) r
  ending-turned b h f v w p q = subst (λ (b : Bool). Rows n (turn b v) a → Rows n (turn b (λ i j. v i j && w j)) r) (sym h) (λ p. f (turn true v) w p q) p

  pub ending-straight : (b : Bool) → b ≡ false → ((u : Pairs) (w : Nodes) → Rows n u a → e ≡ set_of n w → Rows n (λ i j. u i j && w j) r)
      → (v : Pairs) (w : Nodes) → Rows n (turn b v) a → e ≡ set_of n w → Rows n (turn b (λ i j. v i j && w j)) r
  ending-straight b h f v w p q = subst (λ (b : Bool). Rows n (turn b v) a → Rows n (turn b (λ i j. v i j && w j)) r) (sym h) (λ p. f v w p q) p
