-- The first bytes of a term, by how many operands its first code has: as the table of shapes says.
use mathlib.Core.Path.{◌≡◌, refl}
use mathlib.Core.List.{List, ◌∷◌, map}
use Prim.Native.Nat.{ℕ, ◌<◌}
use native.Mathlib.Decide.{dec_lt}
use native.Mathlib.Omega.{arith}
use lib.ListN.{length, length-map, get_or-eq_default}
use Rattle.logic.specs.Syntax.{Sort}
use Rattle.logic.specs.Limits.{Kind}
use Rattle.logic.specs.Arity.{Nullary, all·, none·, label·, nominal·, arrow_kind·, pair·, Unary, Binary, build0, numbers0, numbers1, numbers2}
use Rattle.text.specs.Code.{code}
use Rattle.text.specs.Heads.{byte0, byte1, byte2, head0, head1, head2}
use Rattle.text.proofs.HeadLaws.{code-0}
use Rattle.ends.specs.Shapes.{shapes, shape_of}
use Rattle.ends.proofs.Formed.{shape-1, shape-2}
use Rattle.check_steps.specs.Raised.{numbers_of, operands_of}

-- A code with all its numbers; the code has this many operands.
pub record Head (h : List ℕ) (operands : ℕ) : Type 0 where
  pub byte : ℕ
  pub kinds : List (Kind × ℕ)
  pub is : h ≡ byte ∷ map (λ n. n.1) kinds
  pub count : length kinds ≡ numbers_of byte
  pub wants : operands_of byte ≡ operands
  pub low : byte < 128

-- No byte outside the table is a code.
pub low_byte : (c : ℕ) → (shape_of c ≡ 0 → ⊥) → c < 128
unfolding shapes
low_byte c some = go (dec_lt c 128) where
  go : Dec (c < 128) → c < 128
  go (yes l) = l
  go (no l) = absurd (some (get_or-eq_default shapes 0 {n = c} (omega arith)))

unfoldable pub head-0 : {s : Sort} (b : Nullary s) → Head (code (build0 b)) 0
unfolding head0 shapes
head-0 b = let s = table b in record { byte = byte0 b; kinds = numbers0 b; is = code-0 b; count = s.0; wants = s.1; low = s.2 } where
  table : {s : Sort} (b : Nullary s) → (length (numbers0 b) ≡ numbers_of (byte0 b)) × (operands_of (byte0 b) ≡ 0) × (byte0 b < 128)
  table all· = (refl, refl, omega arith)
  table none· = (refl, refl, omega arith)
  table (label· k) = (refl, refl, omega arith)
  table (nominal· i) = (refl, refl, omega arith)
  table (arrow_kind· a) = (refl, refl, omega arith)
  table (pair· i j) = (refl, refl, omega arith)

unfoldable pub head-1 : {u t : Sort} (b : Unary u t) → Head (head1 b) 1
unfolding head1
head-1 b = let s = shape-1 b in let l = length-map (numbers1 b) (λ n. n.1) in
    record { byte = byte1 b; kinds = numbers1 b; is = refl; count = omega arith; wants = omega arith; low = low_byte (byte1 b) (λ z. omega arith) }

unfoldable pub head-2 : {u v t : Sort} (b : Binary u v t) → Head (head2 b) 2
unfolding head2
head-2 b = let s = shape-2 b in let l = length-map (numbers2 b) (λ n. n.1) in
    record { byte = byte2 b; kinds = numbers2 b; is = refl; count = omega arith; wants = omega arith; low = low_byte (byte2 b) (λ z. omega arith) }
