-- Bytes laid over a buffer from a position on. A byte after the buffer's end is not stored.
use Rattle.std.specs.Prelude.{◌≡◌, List, [], ◌∷◌, ℕ, suc, ◌+◌, length, set}

unfoldable pub laid : List ℕ → ℕ → List ℕ → List ℕ
laid o p [] = o
laid o p (b ∷ bs) = laid (set o p b) (suc p) bs

-- what writing leaves: the position after the bytes, and the buffer
pub record Wrote (o : List ℕ) (pos : ℕ) (bs : List ℕ) (pos' : ℕ) (o' : List ℕ) : Type 0 where
  pub counted : pos' ≡ pos + length bs
  pub stored : o' ≡ laid o pos bs
