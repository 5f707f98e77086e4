-- A term inside another, with its first code at an offset.
use mathlib.Core.Path.{◌≡◌, refl, ap}
use mathlib.Core.List.{◌++◌}
use Prim.Native.Nat.{ℕ, ◌+◌}
use native.Mathlib.Omega.{arith}
use lib.ListN.{length, length-append}
use Rattle.logic.specs.Syntax.{Sort, Expr}
use Rattle.logic.specs.Arity.{Unary, Binary, build1, build2}
use Rattle.text.specs.Code.{code}
use Rattle.text.specs.Heads.{head1, head2}
use Rattle.shortening.specs.Place.{Context, here, only, first, second, put, before}

pub record StandsIn {t : Sort} (e : Expr t) (at : ℕ) : Type 0 where
  pub sort : Sort
  pub place : Context sort t
  pub what : Expr sort
  pub from : e ≡ put place what
  pub offset : at ≡ length (before place)

pub stands-root : {t : Sort} (e : Expr t) (at : ℕ) → at ≡ 0 → StandsIn e at
stands-root {t} e at z = unfold put before in record { sort = t; place = here; what = e; from = refl; offset = z }

-- What is inside an operand is inside the whole.
pub stands-only : {u t : Sort} (b : Unary u t) (x : Expr u) (k at : ℕ) → at ≡ length (head1 b) + k → StandsIn x k → StandsIn (build1 b x) at
unfolding put before
stands-only b x k at e s = record { sort = s.sort; place = only b s.place; what = s.what; from = ap (build1 b) s.from; offset = omega (arith, length-append (head1 b) (before s.place), s.offset) }

module _ {u v t : Sort} (b : Binary u v t) (x : Expr u) (y : Expr v) (k at : ℕ) where
  pub stands-first : at ≡ length (head2 b) + k → StandsIn x k → StandsIn (build2 b x y) at
  unfolding put before
  stands-first e s = record { sort = s.sort; place = first b s.place y; what = s.what; from = ap (λ z. build2 b z y) s.from; offset = omega (arith, length-append (head2 b) (before s.place), s.offset) }

  pub stands-second : at ≡ length (head2 b) + (length (code x) + k) → StandsIn y k → StandsIn (build2 b x y) at
  unfolding put before
  stands-second e s = record { sort = s.sort; place = second b x s.place; what = s.what; from = ap (build2 b x) s.from; offset = omega (arith, length-append (head2 b) (code x ++ before s.place), length-append (code x) (before s.place), s.offset) }
