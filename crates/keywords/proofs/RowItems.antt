-- Rows of items: their first item and the rest; the rows of phrases.
use mathlib.Core.Path.{◌≡◌, refl, sym, subst}
use mathlib.Core.Bool.{Bool, true, false, not, ◌&&◌, ◌||◌}
use Prim.Native.Nat.{ℕ, zero, suc, ◌+◌, ◌-◌, ◌/◌, ◌%◌, ◌≤◌, ◌<◌}
use native.Mathlib.Omega.{arith}
use lib.Dec.{eqb, leb, ltb}
use borrow.Author.Tests.{eq-eqb, eqb-true, leb-true, ltb-true}
use Rattle.logic.proofs.Bools.{true-false, and_left, and_right}
use Rattle.keywords.specs.Rows.{row_table, closing_of, row_of, Items, none, more, Row}
use Rattle.keywords.specs.Phrases.{first_of, count_of, InSlot}
use Rattle.keywords.proofs.Each.{test_each, tested_at}
use Rattle.keywords.proofs.RowLaws.{rest-small}
use Rattle.keywords.proofs.PhraseRows.{row_small}

-- The first item of a row.
pub record First (d row : ℕ) : Type 0 where
  pub from : 1 ≤ row % 256
  pub known : row % 256 < 18
  pub closing : row % 256 ≡ 16 → d ≡ 1
  pub rest : Items d (row / 256)

pub first-item : (d row : ℕ) → Items d row → (row ≡ 0 → ⊥) → First d row
first-item d row none n = absurd (n refl)
first-item d row (more r a b c i) n = record { from = a; known = b; closing = c; rest = i }

pub row-rest : (d row : ℕ) → Row d row → (row ≡ 0 → ⊥) → Row d (row / 256)
row-rest d row r n = record { small = rest-small row r.small; items = (first-item d row r.items n).rest }

-- A row of one item, and of none.
pub row_one : (d x : ℕ) → x < 18 → (x ≡ 16 → d ≡ 1) → Row d x
row_one d zero h c = record { small = omega arith; items = none }
row_one d (suc x) h c = record {
  small = omega arith;
  items = more (suc x) (omega arith) (omega arith) (λ e. c (omega arith)) (let e : 0 ≡ suc x / 256 = omega arith in subst (Items d) e none);
}

-- The rows of phrases: steps up to the text's end occur only where such steps were wanted.
items_ok : (most row : ℕ) (closing : Bool) → Bool
items_ok zero row c = eqb row 0
items_ok (suc n) row c = eqb row 0 || (leb 1 (row % 256) && (ltb (row % 256) 18 && ((not (eqb (row % 256) 16) || c) && items_ok n (row / 256) c)))

items-ok : (n row d : ℕ) (c : Bool) → items_ok n row c ≡ true → (c ≡ true → d ≡ 1) → Items d row
unfolding items_ok
items-ok zero row d c e i = subst (Items d) (sym (eqb-true row 0 e)) none
items-ok (suc n) row d c e i = go (eqb row 0) refl e (λ h. items-ok n (row / 256) d c h i) where
  closes : (b : Bool) → eqb (row % 256) 16 ≡ b → (not b || c) ≡ true → row % 256 ≡ 16 → d ≡ 1
  closes true q h k = i h
  closes false q h k = true-false (eq-eqb (row % 256) 16 k) q

  go : (b : Bool) → eqb row 0 ≡ b → (b || (leb 1 (row % 256) && (ltb (row % 256) 18 && ((not (eqb (row % 256) 16) || c) && items_ok n (row / 256) c)))) ≡ true
      → (items_ok n (row / 256) c ≡ true → Items d (row / 256)) → Items d row
  go true q h rest = subst (Items d) (sym (eqb-true row 0 q)) none
  go false q h rest =
      let low = leb 1 (row % 256) in
      let high = ltb (row % 256) 18 in
      let shut = not (eqb (row % 256) 16) || c in
      let on = items_ok n (row / 256) c in
      let h₁ = and_right low (high && (shut && on)) h in
      let h₂ = and_right high (shut && on) h₁ in
      more row (leb-true 1 (row % 256) (and_left low (high && (shut && on)) h)) (ltb-true (row % 256) 18 (and_left high (shut && on) h₁))
      (closes (eqb (row % 256) 16) refl (and_left shut on h₂)) (rest (and_right shut on h₂))

abbrev ok_at : (item p : ℕ) → Bool
ok_at item p = items_ok 8 (row_of item p) (eqb item 16)

ok_from : (item : ℕ) → Bool
ok_from item = test_each (count_of item) (λ j. ok_at item (j + first_of item))

all-ok : test_each 9 (λ k. ok_from (k + 9)) ≡ true
unfolding test_each ok_from items_ok row_of row_table closing_of first_of count_of
all-ok = refl

pub row-of-phrase : (item p d : ℕ) → InSlot item p → (item ≡ 16 → d ≡ 1) → Row d (row_of item p)
unfolding ok_from
row-of-phrase item p d s c =
    let f : item - 9 + 9 ≡ item = omega (arith, s.a_thing) in
    let e : p - first_of item + first_of item ≡ p = omega (arith, s.from) in
    let h : ok_from item ≡ true = subst (λ i. ok_from i ≡ true) f (tested_at 9 (λ k. ok_from (k + 9)) all-ok (item - 9) (omega (arith, s.a_thing, s.known))) in
    let q = tested_at (count_of item) (λ j. ok_at item (j + first_of item)) h (p - first_of item) (omega (arith, s.from, s.to)) in
    record { small = row_small item p; items = items-ok 8 (row_of item p) d (eqb item 16) (subst (λ p. ok_at item p ≡ true) e q) (λ b. c (eqb-true item 16 b)) }
