-- The check bytes of a block ("The sheet" of document 01, item 2 of document 02). Only this file knows how they are computed and how many there are.
use Rattle.std.specs.Prelude.{◌≡◌, refl, Bool, true, false, ◌&&◌, List, [], ◌∷◌, ◌++◌, ℕ, suc, ◌+◌, ◌%◌, ◌^◌, ◌<◌, ◌≤◌, eqb, take, drop, get_or, set}
use Rattle.std.proofs.Common.{lit<, lit≤}
use Rattle.bitset.specs.Words.{bytes}

-- A block has 512 bytes: a body and its check bytes.
abbrev pub block_bytes : ℕ
block_bytes = 512

-- What a form of check bytes fixes: the modulus, how many bytes the sums are over, and in how many bytes each sum is stored.
-- Body and sums fill a block, and a sum fits into its bytes, at most four.
pub record Form : Type 0 where
  pub modulus : ℕ
  pub body_bytes : ℕ
  pub sum_bytes : ℕ
  pub whole : body_bytes + (sum_bytes + sum_bytes) ≡ block_bytes
  pub nonzero : 0 < modulus
  pub stores : modulus ≤ 256 ^ sum_bytes
  pub few : sum_bytes ≤ 4

-- The form of item 2; the form of document 01, which only old cards have.
abbrev pub modulo257 : Form
modulo257 = record { modulus = 257; body_bytes = 508; sum_bytes = 2; whole = refl; nonzero = lit< tt; stores = lit≤ tt; few = lit≤ tt }

abbrev pub modulo255 : Form
modulo255 = record { modulus = 255; body_bytes = 510; sum_bytes = 1; whole = refl; nonzero = lit< tt; stores = lit≤ tt; few = lit≤ tt }

-- The sums s and t: for each byte, s becomes (s + byte) mod m, then t becomes (t + s) mod m.
pub record Sums : Type 0 where
  pub s : ℕ
  pub t : ℕ

unfoldable pub sums_from : ℕ → ℕ → ℕ → List ℕ → Sums
sums_from m s t [] = record { s = s; t = t }
sums_from m s t (b ∷ bs) = sums_from m ((s + b) % m) ((t + (s + b) % m) % m) bs

-- Both start at 0.
abbrev pub sums : Form → List ℕ → Sums
sums f body = sums_from f.modulus 0 0 body

-- Two sums as check bytes, s first, each with its lowest byte first; the check bytes of a body; the body followed by them.
unfoldable pub stored : Form → Sums → List ℕ
stored f u = bytes f.sum_bytes u.s ++ bytes f.sum_bytes u.t

abbrev pub seal : Form → List ℕ → List ℕ
seal f body = stored f (sums f body)

unfoldable pub sealed : Form → List ℕ → List ℕ
sealed f body = body ++ seal f body

-- Whether two lists of bytes are equal.
unfoldable pub same_bytes : List ℕ → List ℕ → Bool
same_bytes [] [] = true
same_bytes [] (y ∷ ys) = false
same_bytes (x ∷ xs) [] = false
same_bytes (x ∷ xs) (y ∷ ys) = eqb x y && same_bytes xs ys

-- Whether a block's check bytes are those of the given body; whether they are right, that is, those of its own body.
unfoldable pub seal_of : Form → List ℕ → List ℕ → Bool
seal_of f body k = same_bytes (drop f.body_bytes k) (seal f body)

unfoldable pub seal_right_def : Form → List ℕ → Bool
seal_right_def f k = seal_of f (take f.body_bytes k) k

-- The block with its check bytes made right.
unfoldable pub reseal : Form → List ℕ → List ℕ
reseal f k = sealed f (take f.body_bytes k)

-- The bytes with those at p and p + 1 exchanged.
unfoldable pub exchanged : List ℕ → ℕ → List ℕ
exchanged k p = set (set k p (get_or k (suc p) 0)) (suc p) (get_or k p 0)
