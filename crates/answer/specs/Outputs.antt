-- A call that writes an output: its questions result in the bytes, which it writes at the output's start. Its answer is their length.
use Rattle.std.specs.Prelude.{List, ◌++◌, ℕ, leb, length, drop}
use Rattle.answer.specs.Asked.{Asked, passed, refused, ◌>>=◌, ◌>>◌, is, after}

-- Is there room for the bytes? If not, 33; the place is their length.
unfoldable pub ask_room : List ℕ → (room : ℕ) → Asked (List ℕ)
ask_room bytes room = do
  is (leb (length bytes) room) 33 (length bytes)
  passed bytes

-- The answer that the questions call for.
unfoldable pub written_length : Asked (List ℕ) → Asked ℕ
written_length questions = do
  bytes ← questions
  passed (length bytes)

-- A buffer with bytes written at its start and the rest unchanged.
abbrev pub written_at_start : List ℕ → List ℕ → List ℕ
written_at_start bytes buffer = bytes ++ drop (length bytes) buffer

-- The output after the call.
unfoldable pub written_output : Asked (List ℕ) → List ℕ → List ℕ
written_output questions output = after questions (λ bytes. written_at_start bytes output) output
