-- The small sheets in P, listed by their numbers: each once, and as many as are counted.
use mathlib.Core.Path.{◌≡◌, refl, sym, ◌∙◌, ap, subst}
use mathlib.Core.Logic.{inl, inr}
use mathlib.Core.Bool.{Bool, true, false, not, ◌&&◌, cond}
use mathlib.Core.List.{List, [], ◌∷◌}
use Prim.Native.Nat.{ℕ, zero, suc, ◌^◌, ◌≤◌, ◌<◌}
use native.Mathlib.Omega.{arith}
use native.Mathlib.Decide.{dec_lt}
use lib.ListN.{length}
use Rattle.logic.specs.Syntax.{Expr, rule, Edit}
use Rattle.logic.specs.Graph.{Graph, count_below}
use Rattle.logic.specs.Steps.{run}
use Rattle.logic.specs.Limits.{max_nodes}
use Rattle.logic.specs.Meaning.{hold_all}
use Rattle.count_small.specs.Small.{Small, bits, small_sheet, four_of, four_counts}
use Rattle.count_small.specs.Exactly.{In, Once, Exactly}
use Rattle.count_small.specs.declared.Four.{Four}
use Rattle.logic.proofs.Bools.{true-false}
use Rattle.count_small.proofs.Numbering.{numbered-once, each-numbered, number_small}

module _ (n : ℕ) (P : Graph → Bool) where
  -- those with numbers below m, the highest first
  listed : ℕ → List Graph
  listed zero = []
  listed (suc m) = elim (P (small_sheet n m)) [ true ↦ small_sheet n m ∷ listed m | false ↦ listed m ]

  listed-many : (m : ℕ) → length (listed m) ≡ count_below m (λ x. P (small_sheet n x))
  unfolding listed count_below
  listed-many zero = refl
  listed-many (suc m) = go (P (small_sheet n m)) (listed-many m) where
    go : (b : Bool) → length (listed m) ≡ count_below m (λ x. P (small_sheet n x)) → length {A = Graph} (elim b as (λ c. List Graph) [ true ↦ small_sheet n m ∷ listed m | false ↦ listed m ]) ≡ cond b (suc (count_below m (λ x. P (small_sheet n x)))) (count_below m (λ x. P (small_sheet n x)))
    go true h = ap suc h
    go false h = h

  -- what is listed has a number below m and is in P
  abbrev Numbered : ℕ → Graph → Type 0
  Numbered m g = (x : ℕ) × (x < m) × (small_sheet n x ≡ g) × (P g ≡ true)

  listed_has : (m : ℕ) (g : Graph) → In g (listed m) → Numbered m g
  unfolding listed In
  listed_has zero g i = absurd i
  listed_has (suc m) g i = go (P (small_sheet n m)) refl (listed_has m g) i where
    more : Numbered m g → Numbered (suc m) g
    more (x, l, e, p) = (x, omega arith, e, p)

    go : (b : Bool) → P (small_sheet n m) ≡ b → (In g (listed m) → Numbered m g) → In {A = Graph} g (elim b [ true ↦ small_sheet n m ∷ listed m | false ↦ listed m ]) → Numbered (suc m) g
    go true p rest (inl e) = (m, omega arith, e, ap P (sym e) ∙ p)
    go true p rest (inr i) = more (rest i)
    go false p rest i = more (rest i)

  listed-all : (m : ℕ) (g : Graph) → Numbered m g → In g (listed m)
  unfolding listed In
  listed-all zero g (x, l, e, p) = absurd (omega arith)
  listed-all (suc m) g (x, l, e, p) = go (dec_lt x m) (λ k. listed-all m g (x, k, e, p)) (P (small_sheet n m)) refl where
    go : Dec (x < m) → (x < m → In g (listed m)) → (b : Bool) → P (small_sheet n m) ≡ b → In {A = Graph} g (elim b [ true ↦ small_sheet n m ∷ listed m | false ↦ listed m ])
    go (yes k) rest true q = inr (rest k)
    go (yes k) rest false q = rest k
    go (no k) rest true q = let same : m ≡ x = omega arith in inl (ap (small_sheet n) same ∙ e)
    go (no k) rest false q = let same : x ≡ m = omega arith in true-false p (ap P (sym e) ∙ ap (λ y. P (small_sheet n y)) same ∙ q)

  listed-once : 0 < n → (m : ℕ) → m ≤ 2 ^ bits n → Once (listed m)
  unfolding listed Once
  listed-once some zero l = tt
  listed-once some (suc m) l = go (P (small_sheet n m)) (listed-once some m (omega arith)) where
    new : ¬ In (small_sheet n m) (listed m)
    new i =
        let (x, k, e, p) = listed_has m (small_sheet n m) i in
        let same : x ≡ m = numbered-once n x m some (omega arith) (omega arith) e in
        absurd (omega arith)

    go : (b : Bool) → Once (listed m) → Once {A = Graph} (elim b [ true ↦ small_sheet n m ∷ listed m | false ↦ listed m ])
    go true h = (new, h)
    go false h = h

  pub exactly : 1 ≤ n → n ≤ max_nodes → Exactly (λ g. Small n g × (P g ≡ true)) (count_below (2 ^ bits n) (λ x. P (small_sheet n x)))
  exactly some few =
      record {
        list = listed (2 ^ bits n);
        many = listed-many (2 ^ bits n);
        once = listed-once some (2 ^ bits n) (omega arith);
        only_those = λ g i. let (x, l, e, p) = listed_has (2 ^ bits n) g i in (subst (Small n) e (number_small n x some few), p);
        all_those = λ g (s, p). let (x, l, e) = each-numbered n g s in listed-all (2 ^ bits n) g (x, l, e, p);
      }

-- The four counts are those numbers, by whether the book holds before and after.
abbrev pub SmallAnd : (n : ℕ) → (Graph → Bool) → Graph → Type 0
SmallAnd n P g = Small n g × (P g ≡ true)

pub record CountedGraphs (n : ℕ) (book : List (Expr rule)) (Z : Edit) (f : Four) : Type 0 where
  pub kept-are : Exactly (SmallAnd n (λ g. hold_all g book && hold_all (run Z g) book)) f.kept
  pub lost-are : Exactly (SmallAnd n (λ g. hold_all g book && not (hold_all (run Z g) book))) f.lost
  pub repaired-are : Exactly (SmallAnd n (λ g. not (hold_all g book) && hold_all (run Z g) book)) f.repaired
  pub broken-are : Exactly (SmallAnd n (λ g. not (hold_all g book) && not (hold_all (run Z g) book))) f.broken

pub counted : (n : ℕ) (book : List (Expr rule)) (Z : Edit) → 1 ≤ n → n ≤ max_nodes → CountedGraphs n book Z (four_counts n book Z)
unfolding four_counts four_of
counted n book Z some few =
    record {
      kept-are = exactly n (λ g. hold_all g book && hold_all (run Z g) book) some few;
      lost-are = exactly n (λ g. hold_all g book && not (hold_all (run Z g) book)) some few;
      repaired-are = exactly n (λ g. not (hold_all g book) && hold_all (run Z g) book) some few;
      broken-are = exactly n (λ g. not (hold_all g book) && not (hold_all (run Z g) book)) some few;
    }
