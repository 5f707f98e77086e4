-- What was found, as the code has it.
use mathlib.Core.Path.{◌≡◌, refl, ap}
use mathlib.Core.Bool.{Bool}
use Prim.Native.Nat.{ℕ, ◌<◌}
use Rattle.std.specs.Prelude.{Some, None}
use Rattle.names.specs.Token.{Found, found, absent, first_below}
use Rattle.names.proofs.TokenLaws.{found-hit}
use Rattle.buffers.specs.Slots.{found_option}

pub some-found : {A : Type 0} {x : A} (f : Found A) → Some x ≡ found_option f → f ≡ found x
some-found {x = x} (found y) e = let q : y ≡ x = cc in ap found q
some-found absent e = absurd cc

pub none-found : {A : Type 0} (f : Found A) → None ≡ found_option f → f ≡ absent
none-found (found y) e = absurd cc
none-found absent e = refl

pub found-below : (p : ℕ → Bool) (n x : ℕ) → Some x ≡ found_option (first_below p n) → x < n
found-below p n x e = (found-hit p n x (some-found (first_below p n) e)).below
