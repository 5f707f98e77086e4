-- The goals of a row, item by item; and what is wanted when a row has ended, and when a thing one level deeper begins another.
use mathlib.Core.Path.{◌≡◌, refl, ◌∙◌, ap, ap₂}
use mathlib.Core.Bool.{cond}
use mathlib.Core.List.{List, [], ◌∷◌, ◌++◌}
use Prim.Native.Nat.{ℕ, zero, suc, ◌+◌, ◌-◌, ◌/◌, ◌%◌, ◌^◌, ◌≤◌, ◌<◌}
use native.Mathlib.Nat.{pow-suc}
use native.Mathlib.Numerals.{add-one}
use native.Mathlib.Omega.{arith}
use lib.Dec.{eqb, leb}
use lib.ListN.{length, get_or, set}
use lib.Seq.{get_or-set_same, get_or-set_other}
use borrow.Author.Tests.{eq-eqb, ne_eqb, le-leb, lt-leb}
use Rattle.notation.specs.Grammar.{Goal}
use Rattle.keywords.specs.Rows.{goal_of, goals_of, row_goals, goals_above, wanted}

-- A row that has ended; one that goes on; one whose last item is a thing at its own level.
goals-zero : (n d : ℕ) → goals_of n 0 d ≡ []
unfolding goals_of
goals-zero zero d = refl
goals-zero (suc n) d = refl

goals-first : (n r d : ℕ) → (r ≡ 0 → ⊥) → r % 256 < 14 → goals_of (suc n) r d ≡ goal_of (r % 256) d ∷ goals_of n (r / 256) d
unfolding goals_of
goals-first n r d h k = rw (ne_eqb r 0 h, lt-leb 14 (r % 256) k)

goals-last : (n r d : ℕ) → (r ≡ 0 → ⊥) → 14 ≤ r % 256 → goals_of (suc n) r d ≡ goal_of (r % 256) d ∷ []
unfolding goals_of
goals-last n r d h k = rw (ne_eqb r 0 h, le-leb 14 (r % 256) k)

-- A number of n bytes has at most n items.
goals-enough : (n r d : ℕ) → r < 256 ^ n → goals_of n r d ≡ goals_of (suc n) r d
unfolding goals_of
goals-enough zero r d h = rw (eq-eqb r 0 (omega arith))
goals-enough (suc n) r d h =
    ap (λ (g : List Goal). cond (eqb r 0) [] (goal_of (r % 256) d ∷ cond (leb 14 (r % 256)) [] g))
    (goals-enough n (r / 256) d (omega (arith, pow-suc 256 n)))

pub row_zero : (d : ℕ) → row_goals 0 d ≡ []
row_zero d = goals-zero 8 d

pub row_first : (row d : ℕ) → row < 2 ^ 64 → (row ≡ 0 → ⊥) → row % 256 < 14 → row_goals row d ≡ goal_of (row % 256) d ∷ row_goals (row / 256) d
row_first row d s h k = goals-first 7 row d h k ∙ ap (goal_of (row % 256) d ∷◌) (goals-enough 7 (row / 256) d (omega arith))

pub row_last : (row d : ℕ) → (row ≡ 0 → ⊥) → 14 ≤ row % 256 → row_goals row d ≡ goal_of (row % 256) d ∷ []
row_last row d h k = goals-last 7 row d h k

-- What is left of a row fits into 64 bits too.
pub rest-small : (row : ℕ) → row < 2 ^ 64 → row / 256 < 2 ^ 64
rest-small row h = omega arith

-- Writing a row does not change the levels above it.
pub above_same : (rows : List ℕ) (level x d : ℕ) → d ≤ level → goals_above (set rows level x) d ≡ goals_above rows d
unfolding goals_above
above_same rows level x zero h = refl
above_same rows level x (suc zero) h = refl
above_same rows level x (suc (suc d)) h =
    ap₂ (λ (r : ℕ) (g : List Goal). row_goals r (suc d) ++ g) (get_or-set_other rows level (suc d) x 0 (λ e. absurd (omega arith))) (above_same rows level x (suc d) (omega arith))

-- The row of a level has ended: the row above it goes on, or nothing is wanted.
pub popped : (rows : List ℕ) (level : ℕ) → 2 ≤ level → wanted rows 0 level ≡ wanted rows (get_or rows (level - 1) 0) (level - 1)
unfolding goals_above
popped rows zero h = absurd (omega arith)
popped rows (suc zero) h = absurd (omega arith)
popped rows (suc (suc d)) h =
    let e : suc d ≡ suc (suc d) - 1 = omega arith in
    ap (◌++ goals_above rows (suc (suc d))) (row_zero (suc (suc d))) ∙ ap (λ (z : ℕ). wanted rows (get_or rows z 0) z) e

pub popped-all : (rows : List ℕ) → wanted rows 0 1 ≡ []
unfolding goals_above
popped-all rows = ap (◌++ []) (row_zero 1)

-- A row begins one level deeper, and the rest of the row above it is kept.
pub pushed : (rows : List ℕ) (rest next level : ℕ) → 1 ≤ level → level < length rows
    → wanted (set rows level rest) next (level + 1) ≡ row_goals next (level + 1) ++ wanted rows rest level
unfolding goals_above
pushed rows rest next zero h l = absurd (omega arith)
pushed rows rest next (suc d) h l =
    ap (row_goals next (suc d + 1) ++◌)
    (ap (goals_above (set rows (suc d) rest)) (add-one (suc d))
    ∙ ap₂ (λ (r : ℕ) (g : List Goal). row_goals r (suc d) ++ g) (get_or-set_same rows (suc d) rest 0 l) (above_same rows (suc d) rest (suc d) (omega arith)))
