-- Lists made of chunks, one after the other: their length, one of them, and those before and after it.
use mathlib.Core.Path.{◌≡◌, refl, sym, ◌∙◌, ap, ap₂}
use mathlib.Core.List.{List, ◌++◌, append_assoc, append-nil}
use Prim.Native.Nat.{ℕ, zero, suc, ◌+◌, ◌-◌, ◌*◌, ◌≤◌, ◌<◌}
use native.Mathlib.Nat.{mul-zero, zero-add, mul-suc}
use native.Mathlib.Omega.{arith}
use lib.ListN.{get_or, length, take, drop, length-append}
use lib.Seq.{get_or-take, get_or-drop, take_at, drop-append-add}
use Rattle.sheet.specs.Sheet.{chunks}

module _ (w : ℕ) (f : ℕ → List ℕ) (len : (i : ℕ) → length (f i) ≡ w) where
  pub length-chunks : (m i : ℕ) → length (chunks m i f) ≡ w * m
  unfolding chunks
  length-chunks zero i = sym (mul-zero w)
  length-chunks (suc m) i = length-append (f i) (chunks m (suc i) f) ∙ omega (arith, len i, length-chunks m (suc i), mul-suc w m)

  pub take_chunk : (m i k : ℕ) → k < m → take w (drop (w * k) (chunks m i f)) ≡ f (i + k)
  unfolding chunks
  take_chunk zero i k h = absurd (omega arith)
  take_chunk (suc m) i zero h = ap (λ p. take w (drop p (f i ++ chunks m (suc i) f))) (mul-zero w) ∙ take_at (f i) (chunks m (suc i) f) w (len i) ∙ ap f (omega arith)
  take_chunk (suc m) i (suc k) h =
      let e : w * suc k ≡ length (f i) + w * k = omega (arith, mul-suc w k, len i) in
      ap (λ p. take w (drop p (f i ++ chunks m (suc i) f))) e
      ∙ ap (take w) (drop-append-add (f i) (chunks m (suc i) f) (w * k)) ∙ take_chunk m (suc i) k (omega arith) ∙ ap f (omega arith)

  pub get_d-chunks : (m i k off : ℕ) → k < m → off < w → get_or (chunks m i f) (w * k + off) 0 ≡ get_or (f (i + k)) off 0
  get_d-chunks m i k off h l = sym (get_or-take w (drop (w * k) (chunks m i f)) off 0 l ∙ get_or-drop (w * k) (chunks m i f) off 0) ∙ ap (λ x. get_or x off 0) (take_chunk m i k h)

pub chunks-same : (m i : ℕ) (f h : ℕ → List ℕ) → ((j : ℕ) → i ≤ j → j < i + m → f j ≡ h j) → chunks m i f ≡ chunks m i h
unfolding chunks
chunks-same zero i f h e = refl
chunks-same (suc m) i f h e = ap₂ ◌++◌ (e i (omega arith) (omega arith)) (chunks-same m (suc i) f h (λ j l u. e j (omega arith) (omega arith)))

-- the chunks before, at and after k
split : (k m i : ℕ) (f : ℕ → List ℕ) → chunks (k + suc m) i f ≡ chunks k i f ++ (f (i + k) ++ chunks m (suc (i + k)) f)
unfolding chunks
split zero m i f = let e : i ≡ i + 0 = omega arith in ap (λ x. chunks x i f) (zero-add (suc m)) ∙ ap (λ x. f x ++ chunks m (suc x) f) e
split (suc k) m i f =
    let z : suc k + suc m ≡ suc (k + suc m) = omega arith in
    let e : suc i + k ≡ i + suc k = omega arith in
    ap (λ x. chunks x i f) z ∙ ap (f i ++◌) (split k m (suc i) f ∙ ap (λ x. chunks k (suc i) f ++ (f x ++ chunks m (suc x) f)) e)
    ∙ sym (append_assoc (f i) (chunks k (suc i) f) (f (i + suc k) ++ chunks m (suc (i + suc k)) f))

pub chunks-at : (m k : ℕ) (f : ℕ → List ℕ) → k < m → chunks m 0 f ≡ chunks k 0 f ++ (f k ++ chunks (m - suc k) (suc k) f)
chunks-at m k f h =
    let s : m ≡ k + suc (m - suc k) = omega arith in
    ap (λ x. chunks x 0 f) s ∙ split k (m - suc k) 0 f ∙ ap (λ x. chunks k 0 f ++ (f x ++ chunks (m - suc k) (suc x) f)) (zero-add k)

pub chunks-more : (k : ℕ) (f : ℕ → List ℕ) → chunks (k + 1) 0 f ≡ chunks k 0 f ++ f k
chunks-more k f = unfold chunks in split k 0 0 f ∙ ap (chunks k 0 f ++◌) (append-nil (f (0 + k)) ∙ ap f (zero-add k))
