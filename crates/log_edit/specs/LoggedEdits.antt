-- What the blocks of one edit promise. proofs/LoggedEdits proves it.
use Rattle.std.specs.Prelude.{◌≡◌, List, [], ◌∷◌, ◌++◌, ℕ, suc, ◌*◌, ◌≤◌, length}
use Rattle.answer.specs.Asked.{passed}
use Rattle.bitset.specs.Words.{Bytes}
use Rattle.seal.specs.Seal.{block_bytes}
use Rattle.log_blocks.specs.Log.{last_number, read_log}
use Rattle.log_edit.specs.LogEdit.{ask_log_edit}

pub record LoggedEdits : Type 0 where
  -- Reading the blocks gives that edit.
  pub read_back : (edit : List ℕ) (room : ℕ) (bytes : List ℕ) → ask_log_edit edit room ≡ passed bytes → read_log bytes ≡ record { edits = edit ∷ []; ending = passed tt }
  -- Appended to a log that is good to its end they are one more edit, while there are at most 65,535 blocks.
  pub appended : (edit : List ℕ) (room : ℕ) (bytes : List ℕ) → ask_log_edit edit room ≡ passed bytes
      → (log : List ℕ) → Bytes log → (read_log log).ending ≡ passed tt → length (log ++ bytes) ≤ block_bytes * suc last_number
      → read_log (log ++ bytes) ≡ record { edits = (read_log log).edits ++ (edit ∷ []); ending = passed tt }
