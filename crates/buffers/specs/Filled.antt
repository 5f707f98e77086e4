-- Bytes written into a buffer from a place on, as far as there is room: those outside the buffer are not stored.
use Rattle.std.specs.Prelude.{List, ℕ}
use Rattle.std.proofs.lemmas.List.Edits.{sets}

unfoldable pub filled_from : (at : ℕ) → (bytes buffer : List ℕ) → List ℕ
filled_from at bytes buffer = sets buffer at bytes
