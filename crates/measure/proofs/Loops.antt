-- The numbers of a choice's two ways, merged.
use mathlib.Core.Path.{◌≡◌, refl, sym, ap, ap₂, ◌∙◌}
use mathlib.Core.List.{List}
use Prim.Native.Nat.{ℕ, ◌+◌, ◌*◌, ◌-◌, max, ◌≤◌, ◌<◌}
use native.Mathlib.Omega.{arith}
use lib.ListN.{length, get_or, set}
use Rattle.tree.specs.Tree.{Tree, size, height, under}
use Rattle.tree.specs.Sizes.{Measure, measure, chosen, capped}
use Rattle.tree.proofs.Measured.{same-measure, under-max, under-under, under_more, height-pos}
use Rattle.tree.proofs.Capped.{capped-max, capped-under, capped-under-under}
use Rattle.ends.specs.Shapes.{cell, At}
use Rattle.ends.proofs.NameCells.{named-lt}
use Rattle.measure.specs.State.{Holds, added, Scanned}
use Rattle.measure.specs.EditMeasures.{Merged, ChoiceHeld}
use Rattle.measure.proofs.Held.{under-comm, holds-is, holds-longer}

-- merging, i cells of 64 done
abbrev pub sum_of : List ℕ → List ℕ → ℕ → ℕ
sum_of t l i = capped (get_or t i 0 + get_or l i 0)

abbrev pub low_of : List ℕ → List ℕ → ℕ → ℕ
low_of t l i = capped (under (capped (under (max (get_or t (64 + i) 0) (get_or l (64 + i) 0)) 2)) 2)

-- 64 numbers made anew one by one, those at the places `at`: i of them are done
pub record Renewed (at f : ℕ → ℕ) (l₀ l : List ℕ) (i : ℕ) : Type 0 where
  pub done : (j : ℕ) → j < i → get_or l (at j) 0 ≡ f j
  pub left : (j : ℕ) → i ≤ j → j < 64 → get_or l (at j) 0 ≡ get_or l₀ (at j) 0

pub record Merging (t l₀ l : List ℕ) (i : ℕ) : Type 0 where
  pub counts : Renewed (λ j. j) (sum_of t l₀) l₀ l i
  pub deeps : Renewed (λ j. 64 + j) (low_of t l₀) l₀ l i

-- both ways, two levels deeper
abbrev lows : Measure → Measure → Measure
lows T U = record { len = T.len + U.len; tall = max T.tall U.tall + 2; counts = λ c k. T.counts c k + U.counts c k; deeps = λ c k. max (under 3 (T.deeps c k)) (under 3 (U.deeps c k)) }

lower-two : (x y : ℕ) → capped (under (capped (under (max (capped x) (capped y)) 2)) 2) ≡ capped (max (under 3 x) (under 3 y))
unfolding under
lower-two x y =
    capped-under (under (max (capped x) (capped y)) 2) 2 ∙ ap (λ (u : ℕ). capped (under (under u 2) 2)) (sym (capped-max x y)) ∙ capped-under-under (max x y) 2 2
    ∙ ap capped (under-under (max x y) 2 2 ∙ under-comm (max x y) 3 ∙ under-max 3 x y)

pub merged-holds : (t l l' : List ℕ) (T U : Measure) → Merged t l l' → Holds t T → Holds l U → Holds l' (lows T U)
merged-holds t l l' T U m h k = record {
  len_at = m.len ∙ ap₂ (λ (x y : ℕ). capped (x + y)) h.len_at k.len_at ∙ omega arith;
  tall_at = m.tall ∙ ap₂ (λ (x y : ℕ). capped (max x y + 2)) h.tall_at k.tall_at ∙ omega arith;
  count_at = λ c j n. m.count (cell c j) (named-lt c j n) ∙ ap₂ (λ (x y : ℕ). capped (x + y)) (h.count_at c j n) (k.count_at c j n) ∙ omega arith;
  deep_at = λ c j n. m.deep (cell c j) (named-lt c j n) ∙ ap₂ (λ (x y : ℕ). capped (under (capped (under (max x y) 2)) 2)) (h.deep_at c j n) (k.deep_at c j n) ∙ lower-two (T.deeps c j) (U.deeps c j);
}

pub choice-held : {text : List ℕ} {at r : ℕ} {t l l₁ l₂ l₃ : List ℕ} {next y : ℕ} → length l₂ ≡ 130 → Merged t l l₁
    → ((K : Tree) → At text at K → Scanned at (2 * r) 4 K next l₁ l₂) → y ≡ capped (get_or l₂ 128 0 + r * (4 + 2 * (next - at))) → l₃ ≡ set l₂ 128 y → (K : Tree) → At text at K → ChoiceHeld r K t l l₃
unfolding measure added chosen
choice-held {at = at} {r = r} {t = t} {l = l} {l₁ = l₁} {l₂ = l₂} {next = next} {y = y} long m f e g K a = record {
  holds = λ T U h k.
      let s = f K a in
      let n₂ = s.state (lows T U) (merged-holds t l l₁ T U m h k) in
      let n₃ = holds-longer l₂ (added (2 * r) 4 (measure K) (lows T U)) (r * (4 + 2 * (next - at))) y long e n₂ in
      let ps : next - at ≡ size K = omega (arith, s.ends) in
      holds-is (same-measure (ap (λ (n : ℕ). T.len + U.len + r * (4 + 2 * n)) ps) (tops T.tall U.tall) (λ c j. refl) (λ c j. refl))
      (rw g n₃);
} where
  tops : (x z : ℕ) → max (max x z + 2) (under 4 (height K)) ≡ max (max (2 + x) (2 + z)) (3 + height K)
  tops x z = omega (arith, under_more 3 (height K) (height-pos K))
