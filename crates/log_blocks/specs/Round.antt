-- One round of a replay: what the program does with what it read of the log: a block, whole or cut short, or nothing at the log's end.
use Rattle.std.specs.Prelude.{Bool, true, false, cond, List, [], ◌∷◌, ℕ, suc, take, Option, Some, None, is_some, unwrap_or}
use Rattle.answer.specs.Asked.{Asked, passed, refused, after}
use Rattle.answer.specs.Outputs.{written_at_start}
use Rattle.printed.specs.AnswerLine.{answer_line}
use Rattle.printed.specs.Printed.{printed_line, printed_sheet}
use Rattle.log_blocks.specs.Log.{is_last, is_begun, ask_log_block, ask_log_end}
use Rattle.log_blocks.specs.Taken.{kept_behind}
use Rattle.log_blocks.specs.declared.Held.{Held}
use Rattle.log_blocks.specs.declared.Told.{Told}

-- The line that is due, if one is; whether the program goes on; and what it then holds: the number of the next block, the bytes kept of an edit
-- that is begun, the sheet.
pub record Round : Type 0 where
  pub line : Option (List ℕ)
  pub goes_on_def : Bool
  pub number : ℕ
  pub part : List ℕ
  pub sheet : List ℕ

-- What is printed in a round.
unfoldable pub due : Round → List ℕ
due s = unwrap_or s.line []

-- It stops: with a line when a question was answered no.
unfoldable pub stopped : Asked (Unit {0}) → (number : ℕ) (part sheet : List ℕ) → Round
stopped (passed u) number part sheet = record { line = None; goes_on_def = false; number = number; part = part; sheet = sheet }
stopped (refused q p) number part sheet = record { line = Some (answer_line q p); goes_on_def = false; number = number; part = part; sheet = sheet }

-- It has gathered more of an edit.
abbrev pub gathered : (number : ℕ) (part sheet : List ℕ) → Round
gathered number part sheet = record { line = None; goes_on_def = true; number = number; part = part; sheet = sheet }

-- It has answered a finished edit, of which it then keeps nothing.
abbrev pub answered : (number : ℕ) (part sheet book : List ℕ) → Round
answered number part sheet book = record { line = Some (printed_line sheet book part); goes_on_def = true; number = number; part = []; sheet = printed_sheet sheet book part }

-- A block; the program stops at a bad one.
unfoldable pub block_round : (number : ℕ) (part sheet book k : List ℕ) → Round
block_round number part sheet book k =
    after (ask_log_block (is_begun part) number k)
    (λ _. cond (is_last k) (answered (suc number) (kept_behind part k) sheet book) (gathered (suc number) (kept_behind part k) sheet))
    (stopped (ask_log_block (is_begun part) number k) number part sheet)

-- Where nothing was read, the log has ended.
unfoldable pub replay_round : (number : ℕ) (part sheet book block : List ℕ) → Round
replay_round number part sheet book [] = stopped (ask_log_end (is_begun part) number) number part sheet
replay_round number part sheet book (b ∷ k) = block_round number part sheet book (b ∷ k)

-- The buffer of the kept bytes after a round.
unfoldable pub edit_then : (number : ℕ) (part block edit : List ℕ) → List ℕ
edit_then number part [] edit = edit
edit_then number part (b ∷ k) edit = after (ask_log_block (is_begun part) number (b ∷ k)) (λ _. written_at_start (kept_behind part (b ∷ k)) edit) edit

-- What the code returns after a round that began with this held, with what its buffers then hold. Where the replay stops, what was held stays.
abbrev pub said : Held → Told → (edit sheet : List ℕ) → Round
said before r edit sheet =
    let h : Held = unwrap_or r.held before in
    record { line = r.line; goes_on_def = is_some r.held; number = h.number; part = take h.kept edit; sheet = sheet }
