-- A call that writes an output, in terms of its questions.
use mathlib.Core.Path.{◌≡◌, sym, ap}
use mathlib.Core.List.{List}
use Prim.Native.Nat.{ℕ, ◌≤◌, ◌<◌}
use native.Mathlib.Omega.{arith}
use borrow.Author.Tests.{le-leb, lt-leb}
use lib.ListN.{length}
use Rattle.answer.specs.Asked.{Asked, passed, refused, ◌>>=◌, ◌>>◌, is, after}
use Rattle.answer.specs.Outputs.{ask_room, written_length, written_at_start, written_output}

-- 33
pub room-short : (bytes : List ℕ) (room size : ℕ) → size ≡ length bytes → room < size → ask_room bytes room ≡ refused 33 size
room-short bytes room size e l = unfold ask_room is ◌>>◌ in rw (lt-leb (length bytes) room (omega arith)) (ap (refused 33) (sym e))

pub room-enough : (bytes : List ℕ) (room size : ℕ) → size ≡ length bytes → size ≤ room → ask_room bytes room ≡ passed bytes
room-enough bytes room size e l = unfold ask_room is ◌>>◌ in rw (le-leb (length bytes) room (omega arith))

module _ (q : Asked (List ℕ)) (output : List ℕ) where
  -- a refusal writes nothing
  pub not_written : (n p : ℕ) → q ≡ refused n p → (refused n p ≡ written_length q) × (output ≡ written_output q output)
  not_written n p e = unfold written_length written_output ◌>>=◌ after in (rw e, rw e)

  -- the result is written
  pub is-written : (bytes : List ℕ) (size : ℕ) → q ≡ passed bytes → size ≡ length bytes → (passed size ≡ written_length q) × (written_at_start bytes output ≡ written_output q output)
  is-written bytes size e s = unfold written_length written_output ◌>>=◌ after in (rw (e, s), rw e)
