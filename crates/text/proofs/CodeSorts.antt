-- A code that is in a range of codes.
use mathlib.Core.Path.{◌≡◌}
use mathlib.Core.Bool.{true, ◌&&◌, and-eq-true_iff}
use Prim.Native.Nat.{ℕ, ◌≤◌}
use lib.Dec.{leb}
use borrow.Author.Tests.{leb-true}

pub in-range : (lo hi c : ℕ) → (leb lo c && leb c hi) ≡ true → (lo ≤ c) × (c ≤ hi)
in-range lo hi c h = let q = (and-eq-true_iff (leb lo c) (leb c hi)).0 h in (leb-true lo c q.0, leb-true c hi q.1)
