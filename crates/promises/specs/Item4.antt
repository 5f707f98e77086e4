-- Item 4 of document 02: run last week's edits again. proofs/Item4 proves it.
use Rattle.std.specs.Prelude.{◌≡◌, false, cond, List, [], ◌++◌, ℕ, ◌*◌, ◌≤◌, ◌<◌, leb, length, take}
use Rattle.answer.specs.Asked.{passed, refused}
use Rattle.seal.specs.Seal.{block_bytes}
use Rattle.printed.specs.AnswerLine.{answer_line, early_line}
use Rattle.printed.specs.Printed.{printed_line, printed_sheet}
use Rattle.log_blocks.specs.Log.{last_number, blocks_of, read_log}
use Rattle.log_blocks.specs.Logs.{Logs}
use Rattle.log_blocks.specs.Taken.{kept}
use Rattle.log_blocks.specs.Round.{replay_round}
use Rattle.log_blocks.specs.Faults.{ask_place, edits_in}
use Rattle.log_blocks.specs.Replay.{edit_lines, sheet_held, replay_lines, replay_sheet, log_start, sheet_in, book_in, log_in, replayed}
use Rattle.log_blocks.specs.Replays.{written, Replays}

-- A log that ends with this number and place.
pub record Faulty (bytes : List ℕ) (q p : ℕ) : Type 0 where
  -- The place is that of a block, or the count of blocks: the blocks before it pass their questions one by one,
  pub within : p ≤ length (blocks_of bytes)
  pub before : (i : ℕ) → i < p → ask_place (blocks_of bytes) i ≡ passed tt
  -- and the one there, or the end of the log, does not.
  pub there : ask_place (blocks_of bytes) p ≡ refused q p
  -- The edits whose last block comes before it have counted, and an edit still unfinished there has not;
  pub counted : (read_log bytes).edits ≡ edits_in (take p (blocks_of bytes))
  -- they are those of the log that is cut off there.
  pub cut_off : (read_log (take (block_bytes * p) bytes)).edits ≡ (read_log bytes).edits

pub record Item4 : Type 0 where
  -- "The log is blocks of 512: .. Only an edit's last block may hold fewer than 504."
  pub logs : Logs
  -- "In a log of at most 65,535 blocks, stopping after any edit it has answered and starting again .. ends in the same sheet"; and the promises of runs.
  pub replays : Replays
  -- "The replay reads sheet and book as `enter` does, then the log": all that is printed for an input is what the rounds write, each as `log::round` makes it,
  -- from block 0 on with nothing kept.
  pub by_rounds : (input : List ℕ)
      → replayed input ≡ cond (leb (log_start input) (length input)) (written 0 [] (sheet_in input) (book_in input) (blocks_of (log_in input))) early_line
  -- Nothing is read after a block "when its number passes 65,534".
  pub no_further : (number : ℕ) (part sheet book block : List ℕ) → last_number < number → (replay_round number part sheet book block).goes_on_def ≡ false
  -- "For each edit it prints the line of number and place that `enter` would on the sheet then held", and the sheet is the one that `enter` leaves:
  -- what is kept of an edit of any length gives the same answer as the whole edit.
  pub whole_line : (sheet book edit : List ℕ) → printed_line sheet book (kept edit) ≡ printed_line sheet book edit
  pub whole_sheet : (sheet book edit : List ℕ) → printed_sheet sheet book (kept edit) ≡ printed_sheet sheet book edit
  -- "it stops with such a line at the first bad block": it ends with a number and a place exactly where they are the first refusal;
  pub ends_badly : (bytes : List ℕ) (q p : ℕ) → (read_log bytes).ending ≡ refused q p → Faulty bytes q p
  pub first_bad : (bytes : List ℕ) (q p : ℕ) → ((i : ℕ) → i < p → ask_place (blocks_of bytes) i ≡ passed tt) → ask_place (blocks_of bytes) p ≡ refused q p → (read_log bytes).ending ≡ refused q p
  -- the lines are those of the edits whose last block comes before it, and its own;
  pub bad_lines : (sheet book bytes : List ℕ) (q p : ℕ) → (read_log bytes).ending ≡ refused q p
      → replay_lines sheet book bytes ≡ edit_lines sheet book (edits_in (take p (blocks_of bytes))) ++ answer_line q p
  -- "and last writes the sheet; the edits whose last block comes before it have counted, and an edit still unfinished there has not".
  pub bad_sheet : (sheet book bytes : List ℕ) (q p : ℕ) → (read_log bytes).ending ≡ refused q p → replay_sheet sheet book bytes ≡ sheet_held sheet book (edits_in (take p (blocks_of bytes)))
  -- A log that ends well has all edits of its blocks.
  pub ends_well : (bytes : List ℕ) → (read_log bytes).ending ≡ passed tt → (read_log bytes).edits ≡ edits_in (blocks_of bytes)
