-- The rows of the levels, which have only marks, numbers and things.
use mathlib.Core.Path.{◌≡◌, refl, ◌∙◌}
use mathlib.Core.List.{List, [], ◌∷◌}
use Prim.Native.Nat.{ℕ, zero, suc, ◌<◌}
use native.Mathlib.Omega.{arith}
use lib.ListN.{length, get_or, set, replicate, length-set}
use Rattle.print_words.specs.Opening.{Known}
use Rattle.keywords.proofs.RowItems.{row_one}

pub known-one : (start : ℕ) → start < 18 → Known start
known-one start h = row_one 1 start h (λ e. refl)

-- 256 rows.
pub record Levels (rows : List ℕ) : Type 0 where
  pub all : length rows ≡ 256
  pub known : (k : ℕ) → Known (get_or rows k 0)

pub levels-none : Levels (replicate 256 0)
levels-none = record { all = refl; known = λ k. zeros 256 k } where
  zeros : (n k : ℕ) → Known (get_or (replicate n 0) k 0)
  zeros zero k = known-one 0 (omega arith)
  zeros (suc n) zero = known-one 0 (omega arith)
  zeros (suc n) (suc k) = zeros n k

pub levels-set : (rows : List ℕ) (i x : ℕ) → Levels rows → Known x → Levels (set rows i x)
levels-set rows i x r h = record { all = length-set rows i x ∙ r.all; known = go rows i r.known } where
  go : (l : List ℕ) (i : ℕ) → ((k : ℕ) → Known (get_or l k 0)) → (k : ℕ) → Known (get_or (set l i x) k 0)
  go [] i f k = f k
  go (y ∷ l) zero f zero = h
  go (y ∷ l) zero f (suc k) = f (suc k)
  go (y ∷ l) (suc i) f zero = f 0
  go (y ∷ l) (suc i) f (suc k) = go l i (λ j. f (suc j)) k
