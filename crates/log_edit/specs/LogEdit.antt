-- The blocks that hold one edit in a log (document 02, item 4), made for a caller that appends them.
use Rattle.std.specs.Prelude.{List, [], ◌∷◌, ℕ, leb, ltb, length}
use Rattle.answer.specs.Asked.{Asked, ◌>>◌, is}
use Rattle.answer.specs.Outputs.{ask_room}
use Rattle.text.specs.Reading.{longest_text}
use Rattle.log_blocks.specs.Making.{log_of}

-- The edit's bytes are not read: 22 where there are none, 21 where there are more than 4,096, then 33. The result is the blocks' bytes.
unfoldable pub ask_log_edit : (edit : List ℕ) (room : ℕ) → Asked (List ℕ)
ask_log_edit edit room = do
  is (ltb 0 (length edit)) 22 0
  is (leb (length edit) longest_text) 21 0
  ask_room (log_of (edit ∷ [])) room
