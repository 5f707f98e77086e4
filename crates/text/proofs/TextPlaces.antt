-- Places along a text.
use mathlib.Core.Path.{◌≡◌, refl, sym, ap, ◌∙◌}
use mathlib.Core.List.{List, [], ◌∷◌, ◌++◌}
use Prim.Native.Nat.{ℕ, suc, min, ◌+◌, ◌-◌, ◌<◌}
use native.Mathlib.Omega.{arith}
use native.Mathlib.Decide.{dec_lt}
use lib.ListN.{length, take}
use lib.Seq.{take_all, take-length}

-- the place after bytes that begin at a place
unfoldable pub place_behind : List ℕ → ℕ → ℕ
place_behind [] at = at
place_behind (x ∷ bytes) at = place_behind bytes (suc at)

pub place_behind-is : (bytes : List ℕ) (at : ℕ) → place_behind bytes at ≡ at + length bytes
unfolding place_behind
place_behind-is [] at = omega arith
place_behind-is (x ∷ bytes) at = place_behind-is bytes (suc at) ∙ omega arith

pub place_behind-append : (a b : List ℕ) (at : ℕ) → place_behind (a ++ b) at ≡ place_behind b (place_behind a at)
unfolding place_behind
place_behind-append [] b at = refl
place_behind-append (x ∷ a) b at = place_behind-append a b (suc at)

-- the part of a text that is looked at
pub take_min : (t : List ℕ) (m e : ℕ) → e ≡ min (length t) m → take (e - 0) t ≡ take m t
take_min t m e q = go (dec_lt (length t) m) where
  go : Dec (length t < m) → take (e - 0) t ≡ take m t
  go (yes l) = let z : e - 0 ≡ length t = omega (arith, q) in ap (λ k. take k t) z ∙ take-length t ∙ sym (take_all m t (omega arith))
  go (no l) = let z : e - 0 ≡ m = omega (arith, q) in ap (λ k. take k t) z
