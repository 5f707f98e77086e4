-- The four quantifiers are one question: whether there are at least k ends.
use mathlib.Core.Path.{◌≡◌, refl, sym, ap, ap₂, subst, ◌∙◌}
use mathlib.Core.Bool.{Bool, true, false, not, ◌&&◌, ◌||◌, cond, and-true}
use Prim.Native.Nat.{ℕ, ◌+◌, ◌^◌, ◌<◌, ◌≤◌}
use native.Mathlib.Numerals.{add-one}
use native.Mathlib.Omega.{arith}
use lib.Dec.{eqb, leb}
use borrow.Author.Tests.{leb-true, leb-false, le-leb, lt-leb, eq-eqb, eqb-false}
use Rattle.logic.specs.Graph.{Nodes, Pairs, any_below, all_below, count_below, implies}
use Rattle.logic.proofs.Below.{none-outside, count-cong, one-or-more}
use Rattle.bitset.specs.Words.{set_of, member, combined}
use Rattle.bitset.proofs.SetLaws.{set_of-lt, set_of-cong, set_of-member-lt, set_of-none, member-set_of, combined-sets}
use Rattle.rows.specs.Operations.{quantified, enough, least, looked, answered, turn, Among}

-- An end is a node.
pub quantified-is : (c m n : ℕ) (nodes v w : Nodes) → ((j : ℕ) → nodes j ≡ false → v j ≡ false) → quantified c m n v w ≡ answered c (enough (least c m) n v (λ j. looked c (nodes j) (w j)))
unfolding quantified
quantified-is c m n nodes v w ends = go (eqb c 0x08) (eqb c 0x09) (eqb c 0x0A) where
  there : (x y z : Bool) → (y ≡ false → x ≡ false) → (x && not z) ≡ (x && (y && not z))
  there x true z h = refl
  there x false z h = rw (h refl)

  most : (k : ℕ) → leb k m ≡ not (leb (m + 1) k)
  most k = by (leb k m) refl where
    by : (b : Bool) → leb k m ≡ b → b ≡ not (leb (m + 1) k)
    by true e = ap not (sym (lt-leb (m + 1) k (omega (arith, leb-true k m e))))
    by false e = ap not (sym (le-leb (m + 1) k (omega (arith, leb-false k m e))))

  go : (a b d : Bool)
      → cond a (any_below n (λ j. v j && w j)) (cond b (all_below n (λ j. implies (v j) (w j))) (cond d (leb m (count_below n (λ j. v j && w j))) (leb (count_below n (λ j. v j && w j)) m)))
      ≡ (let x = leb (cond a 1 (cond b 1 (cond d m (m + 1)))) (count_below n (λ j. v j && cond a (w j) (cond b (nodes j && not (w j)) (w j)))) in cond a x (cond b (not x) (cond d x (not x))))
  go true b d = sym (one-or-more n (λ j. v j && w j))
  go false true d =
      sym (none-outside n v w) ∙ ap not (sym (one-or-more n (λ j. v j && not (w j))))
      ∙ ap (λ (k : ℕ). not (leb 1 k)) (count-cong n _ _ (λ j l. there (v j) (nodes j) (w j) (ends j)))
  go false false true = refl
  go false false false = most (count_below n (λ j. v j && w j))

-- for the nodes of `within`
pub answered-sets : (c n within r : ℕ) (f : Bool → Bool → Bool) (p : Nodes) → n ≤ 64 → within < 2 ^ n → r ≡ set_of n p → f false false ≡ false → ((a b : Bool) → f a b ≡ (a && answered c b)) → combined f within r ≡ set_of n (λ i. member within i && answered c (p i))
answered-sets c n within r f p h l e z g =
    ap₂ (combined f) (sym (set_of-member-lt n within l)) e ∙ combined-sets f z n (member within) p h ∙ set_of-cong n _ _ (λ i m. g (member within i) (p i))

pub set-small : (n : ℕ) {x : ℕ} (p : Nodes) → x ≡ set_of n p → x < 2 ^ n
set-small n {x} p e = subst (λ (y : ℕ). y < 2 ^ n) (sym e) (set_of-lt n p)

-- the ends of all rows, row by row
pub any_none : (n : ℕ) (v : Pairs) → 0 ≡ set_of n (λ j. any_below 0 (λ k. v k j))
any_none n v = unfold any_below in sym (set_of-none n)

pub any-more : (n i : ℕ) (v : Pairs) (r row z : ℕ) → n ≤ 64 → r ≡ set_of n (λ j. any_below i (λ k. v k j)) → row ≡ set_of n (v i) → z ≡ combined ◌||◌ r row → z ≡ set_of n (λ j. any_below (i + 1) (λ k. v k j))
unfolding any_below
any-more n i v r row z h p q e =
    e ∙ ap₂ (combined ◌||◌) p q ∙ combined-sets ◌||◌ refl n (λ j. any_below i (λ k. v k j)) (v i) h
    ∙ ap (λ (m : ℕ). set_of n (λ j. any_below m (λ k. v k j))) (sym (add-one i))

pub any-wanted : (n e all : ℕ) (v : Pairs) → e ≡ all → Among all v → set_of n (λ j. any_below n (λ i. v i j)) ≡ set_of n (λ j. enough 1 n (λ i. v i j) (member e))
any-wanted n e all v f a =
    set_of-cong n _ _ (λ j l. sym (
    ap (leb 1) (count-cong n _ (λ i. v i j) (λ i m. ap (λ (x : ℕ). v i j && member x i) f ∙ both (v i j) (member all i) (a.starts i j)))
    ∙ one-or-more n (λ i. v i j))) where
      both : (x y : Bool) → (y ≡ false → x ≡ false) → (x && y) ≡ x
      both x true h = and-true x
      both x false h = rw (h refl)

-- 08 and 09 look for one.
pub one_wanted : (c m : ℕ) → 0x08 ≤ c → c ≤ 0x09 → 1 ≡ least c m
one_wanted c m l h = go (eqb c 0x08) refl where
  go : (b : Bool) → eqb c 0x08 ≡ b → 1 ≡ cond b 1 (cond (eqb c 0x09) 1 (cond (eqb c 0x0A) m (m + 1)))
  go true e = refl
  go false e = rw (eq-eqb c 0x09 (omega (arith, eqb-false c 0x08 e)))

-- What the code looks at and answers is what the quantifier means, for the nodes of `within`: for the rows of v or, turned, for its columns.
module _ (c m n all within e : ℕ) (v : Pairs) (among : Among all v) (turned b : Bool) (t : turned ≡ b) where
  abbrev looked-at : Nodes
  looked-at j = looked c (member all j) (member e j)

  ends : (b : Bool) (i j : ℕ) → member all j ≡ false → turn b v i j ≡ false
  ends true i j h = among.starts j i h
  ends false i j h = among.ends i j h

  answer_is : set_of n (λ i. member within i && answered c (enough (least c m) n (turn b v i) looked-at)) ≡ set_of n (λ i. member within i && quantified c m n (turn turned v i) (member e))
  answer_is =
      set_of-cong n _ _ (λ i l. ap (member within i &&◌) (sym (quantified-is c m n (member all) (turn b v i) (member e) (ends b i))))
      ∙ ap (λ (x : Bool). set_of n (λ i. member within i && quantified c m n (turn x v i) (member e))) (sym t)

  module _ (h : n ≤ 64) (within_low : within < 2 ^ n) (all-low : all < 2 ^ n) (e-low : e < 2 ^ n) (k f x r : ℕ) (q : k ≡ least c m)
      (looks : (n : ℕ) (nodes w : Nodes) → n ≤ 64 → all ≡ set_of n nodes → e ≡ set_of n w → f ≡ set_of n (λ i. looked c (nodes i) (w i)))
      (a : (n : ℕ) (p : Nodes) → n ≤ 64 → within < 2 ^ n → r ≡ set_of n p → x ≡ set_of n (λ i. member within i && answered c (p i))) where
    s : f ≡ set_of n looked-at
    s = looks n (member all) (member e) h (sym (set_of-member-lt n all all-low)) (sym (set_of-member-lt n e e-low))

    pub by-columns : (f ≡ set_of n (member f) → r ≡ set_of n (λ i. enough k n (turn b v i) (member f))) → x ≡ set_of n (λ i. member within i && quantified c m n (turn turned v i) (member e))
    by-columns d =
        a n (λ i. enough (least c m) n (turn b v i) looked-at) h within_low
        (d (sym (set_of-member-lt n f (set-small n looked-at s))) ∙ ap (λ (y : ℕ). set_of n (λ i. enough y n (turn b v i) (member f))) q
        ∙ set_of-cong n _ _ (λ i l. ap (leb (least c m)) (count-cong n _ _ (λ j o. ap (turn b v i j &&◌) (ap (λ (y : ℕ). member y j) s ∙ member-set_of n looked-at j o)))))
        ∙ answer_is

    pub by_rows : ((w : Nodes) → f ≡ set_of n w → r ≡ set_of n (λ i. member within i && enough k n (turn b v i) w)) → x ≡ set_of n (λ i. member within i && quantified c m n (turn turned v i) (member e))
    by_rows d =
        a n (λ i. member within i && enough (least c m) n (turn b v i) looked-at) h within_low
        (d looked-at s ∙ ap (λ (y : ℕ). set_of n (λ i. member within i && enough y n (turn b v i) looked-at)) q)
        ∙ set_of-cong n _ _ (λ i l. go (member within i) (enough (least c m) n (turn b v i) looked-at))
        ∙ answer_is where
          go : (b y : Bool) → (b && answered c (b && y)) ≡ (b && answered c y)
          go true y = refl
          go false y = refl
