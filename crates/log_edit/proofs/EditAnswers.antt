-- The questions of an edit's blocks, by where they stop.
use mathlib.Core.Path.{◌≡◌, refl, ◌∙◌}
use mathlib.Core.List.{List, [], ◌∷◌}
use Prim.Native.Nat.{ℕ, ◌*◌, ◌≤◌, ◌<◌}
use native.Mathlib.Omega.{arith}
use borrow.Author.Tests.{lt-ltb, le-ltb, le-leb, lt-leb}
use lib.ListN.{length}
use Rattle.std.specs.Int.{div_ceil}
use Rattle.answer.specs.Asked.{passed, refused, ◌>>◌, is}
use Rattle.answer.specs.Outputs.{ask_room}
use Rattle.answer.proofs.OutputLaws.{room-short, room-enough}
use Rattle.text.specs.Reading.{longest_text}
use Rattle.log_blocks.specs.Making.{log_of}
use Rattle.log_edit.specs.LogEdit.{ask_log_edit}
use Rattle.log_edit.proofs.EditBlocks.{log-length}

module _ (edit : List ℕ) (room : ℕ) where
  pub no_byte : length edit < 1 → ask_log_edit edit room ≡ refused 22 0
  no_byte h = unfold ask_log_edit ◌>>◌ is in rw (le-ltb 0 (length edit) (omega arith)) refl

  module _ (some : 1 ≤ length edit) where
    pub too_long : longest_text < length edit → ask_log_edit edit room ≡ refused 21 0
    too_long h = unfold ask_log_edit ◌>>◌ is in rw (lt-ltb 0 (length edit) (omega arith), lt-leb (length edit) longest_text h) refl

    module _ (short : length edit ≤ longest_text) {size : ℕ} (size_is : size ≡ 512 * div_ceil (length edit) 504) where
      long : size ≡ length (log_of (edit ∷ []))
      long = omega (arith, log-length edit (omega arith), size_is)

      to_room : ask_log_edit edit room ≡ ask_room (log_of (edit ∷ [])) room
      to_room = unfold ask_log_edit ◌>>◌ is in rw (lt-ltb 0 (length edit) (omega arith), le-leb (length edit) longest_text short) refl

      pub no_room : room < size → ask_log_edit edit room ≡ refused 33 size
      no_room h = to_room ∙ room-short (log_of (edit ∷ [])) room size long h

      pub enough : size ≤ room → ask_log_edit edit room ≡ passed (log_of (edit ∷ []))
      enough h = to_room ∙ room-enough (log_of (edit ∷ [])) room size long h
