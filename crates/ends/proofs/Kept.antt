-- Lists that agree below a place, and a copy made number by number.
use mathlib.Core.Path.{◌≡◌, sym, ap, ◌∙◌}
use mathlib.Core.List.{List}
use Prim.Native.Nat.{ℕ, ◌+◌, ◌≤◌, ◌<◌}
use native.Mathlib.Omega.{arith}
use native.Mathlib.Decide.{dec_lt}
use lib.ListN.{length, get_or, set}
use lib.Seq.{get_or-set_same, get_or-set_other}
use Rattle.ends.specs.Kept.{Kept}

pub elsewhere : (l : List ℕ) (i j x : ℕ) → (i ≡ j → ⊥) → get_or (set l i x) j 0 ≡ get_or l j 0
elsewhere l i j x n = get_or-set_other l i j x 0 (λ e. n (sym e))

pub kept_set : (l : List ℕ) (top x : ℕ) → Kept top l (set l top x)
kept_set l top x = record { same = λ i h. elsewhere l top i x (λ e. omega (arith, e, h)) }

pub kept_more : {m n : ℕ} {l l' l'' : List ℕ} → m ≤ n → Kept m l l' → Kept n l' l'' → Kept m l l''
kept_more h k k' = record { same = λ i r. k'.same i (omega arith) ∙ k.same i r }

pub copy-none : (src out : List ℕ) → Kept 0 src out
copy-none src out = record { same = λ j m. absurd (omega arith) }

pub copy_more : (src out : List ℕ) (i : ℕ) → i < length out → Kept i src out → Kept (i + 1) src (set out i (get_or src i 0))
copy_more src out i l h = record { same = λ j m. go j (dec_lt j i) m } where
  go : (j : ℕ) → Dec (j < i) → j < i + 1 → get_or (set out i (get_or src i 0)) j 0 ≡ get_or src j 0
  go j (yes p) m = elsewhere out i j _ (λ e. omega (arith, p)) ∙ h.same j p
  go j (no p) m = let e : j ≡ i = omega arith in ap (λ (k : ℕ). get_or (set out i (get_or src i 0)) k 0) e ∙ get_or-set_same out i _ 0 l ∙ ap (λ (k : ℕ). get_or src k 0) (sym e)
