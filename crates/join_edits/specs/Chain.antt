-- Edits sent as a chain (document 02, item 9): P, then Q, joined into one edit.
use Rattle.std.specs.Prelude.{◌≡◌, List, ℕ, ◌-◌, leb, length, take}
use Rattle.answer.specs.Asked.{Asked, passed, ◌>>=◌, ◌>>◌, is}
use Rattle.answer.specs.Outputs.{ask_room}
use Rattle.logic.specs.Carry.{followed_by}
use Rattle.logic.specs.Limits.{max_nodes}
use Rattle.text.specs.Code.{edit_code}
use Rattle.text.specs.Reading.{longest_text, text_limits}
use Rattle.text.specs.Questions.{ask_edit}

-- Edits that join: P's questions, then Q's, with n as 60; then 21, place 0, when the joined edit has more than 4,096 bytes.
-- Joining puts Q where P's end stood. The result is the joined bytes.
unfoldable pub ask_joined : (p q : List ℕ) → Asked (List ℕ)
ask_joined p q = do
  P ← ask_edit (text_limits max_nodes) p
  Q ← ask_edit (text_limits max_nodes) q
  is (leb (length (edit_code (followed_by P Q))) longest_text) 21 0
  passed (edit_code (followed_by P Q))

-- The call: then 33.
unfoldable pub ask_join_edits : (p q : List ℕ) (room : ℕ) → Asked (List ℕ)
ask_join_edits p q room = do
  joined ← ask_joined p q
  ask_room joined room

-- A text without its last byte: for an edit, the bytes before its end.
abbrev pub without_last : List ℕ → List ℕ
without_last t = take (length t - 1) t

-- A chain of three edits joins to y, whether the first two are joined first or the last two.
pub record JoinsByFirst (p q r y : List ℕ) : Type 0 where
  pub joined : List ℕ
  pub first : ask_joined p q ≡ passed joined
  pub then : ask_joined joined r ≡ passed y

pub record JoinsByLast (p q r y : List ℕ) : Type 0 where
  pub joined : List ℕ
  pub last : ask_joined q r ≡ passed joined
  pub then : ask_joined p joined ≡ passed y
