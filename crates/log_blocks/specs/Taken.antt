-- What the code keeps of an edit while it reads the edit's blocks, and what it finds in a block.
use Rattle.std.specs.Prelude.{cond, List, ◌++◌, ℕ, ◌+◌, length, take}
use Rattle.answer.specs.Asked.{Asked, passed, ◌>>◌}
use Rattle.text.specs.Reading.{longest_text}
use Rattle.log_blocks.specs.Log.{is_last, content, is_begun, ask_log_block}
use Rattle.log_blocks.specs.declared.Taken.{Taken}
use Rattle.log_blocks.specs.declared.Taken.TheVariants.{GoesOn, Finished}

-- The first bytes of an edit, one more than the longest text has: enough to answer it.
abbrev pub kept_bytes : ℕ
kept_bytes = longest_text + 1

unfoldable pub kept : List ℕ → List ℕ
kept edit = take kept_bytes edit

-- What is kept after block k, when these bytes were kept before it.
unfoldable pub kept_behind : (before k : List ℕ) → List ℕ
kept_behind before k = kept (before ++ content k)

-- What a good block says: the edit goes on or has finished, and that many bytes of it are kept.
unfoldable pub ask_taken : (before : List ℕ) (number : ℕ) (k : List ℕ) → Asked Taken
ask_taken before number k = do
  ask_log_block (is_begun before) number k
  passed (cond (is_last k) (Finished (length (kept_behind before k))) (GoesOn (length (kept_behind before k))))

-- How many bytes are then kept.
abbrev pub taken_length : Taken → ℕ
taken_length (GoesOn n) = n
taken_length (Finished n) = n
