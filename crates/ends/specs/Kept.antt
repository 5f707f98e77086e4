-- What stays unchanged while a list is written further up.
use Rattle.std.specs.Prelude.{◌≡◌, List, ℕ, ◌<◌, get_or}

-- The two lists have the same numbers below a place.
pub record Kept (top : ℕ) (l l' : List ℕ) : Type 0 where
  pub same : (i : ℕ) → i < top → get_or l' i 0 ≡ get_or l i 0
