-- The fields of a block.
use mathlib.Core.Path.{◌≡◌}
use mathlib.Core.Bool.{Bool, true, ◌&&◌, ◌||◌, and-eq-true_iff}
use mathlib.Core.List.{List}
use Prim.Native.Nat.{ℕ, ◌+◌, ◌≤◌}
use borrow.Author.Tests.{leb-true, eqb-true, le-leb}
use lib.Dec.{eqb, leb}
use lib.ListN.{get_or, take, drop}
use Rattle.log_blocks.specs.Log.{is_last, mark_right_def, count, count_right_def, all_zero, zeros_behind, fields_right_def}

pub counted : (last : Bool) (c : ℕ) → 1 ≤ c → c ≤ 504 → count_right_def last c ≡ (eqb c 504 || last)
counted last c h k = unfold count_right_def in rw (le-leb 1 c h, le-leb c 504 k)

pub zeros-left : (begun : Bool) (k : List ℕ) → get_or k 0 0 ≡ 3 → mark_right_def begun (get_or k 1 0) ≡ true → count_right_def (is_last k) (count k) ≡ true
    → fields_right_def begun k ≡ all_zero (drop (4 + count k) (take 508 k))
zeros-left begun k three marked few = unfold fields_right_def zeros_behind in cc

-- what a right count means
pub count-says : (last : Bool) (c : ℕ) → count_right_def last c ≡ true → (1 ≤ c) × (c ≤ 504) × ((eqb c 504 || last) ≡ true)
unfolding count_right_def
count-says last c e =
    let (a, b) = (and-eq-true_iff (leb 1 c) (leb c 504 && (eqb c 504 || last))).0 e in
    let (d, f) = (and-eq-true_iff (leb c 504) (eqb c 504 || last)).0 b in
    (leb-true 1 c a, leb-true c 504 d, f)

-- what right fields mean
pub record Right (begun : Bool) (k : List ℕ) : Type 0 where
  pub three : get_or k 0 0 ≡ 3
  pub marked : mark_right_def begun (get_or k 1 0) ≡ true
  pub few : count_right_def (is_last k) (count k) ≡ true
  pub zeros : zeros_behind k ≡ true

pub right : (begun : Bool) (k : List ℕ) → fields_right_def begun k ≡ true → Right begun k
unfolding fields_right_def
right begun k e =
    let (a, r) = (and-eq-true_iff (eqb (get_or k 0 0) 3) (mark_right_def begun (get_or k 1 0) && (count_right_def (is_last k) (count k) && zeros_behind k))).0 e in
    let (b, t) = (and-eq-true_iff (mark_right_def begun (get_or k 1 0)) (count_right_def (is_last k) (count k) && zeros_behind k)).0 r in
    let (c, z) = (and-eq-true_iff (count_right_def (is_last k) (count k)) (zeros_behind k)).0 t in
    record { three = eqb-true (get_or k 0 0) 3 a; marked = b; few = c; zeros = z }
