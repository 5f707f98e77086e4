-- What a replay promises. proofs/Replays proves it.
use Rattle.std.specs.Prelude.{◌≡◌, cond, List, [], ◌∷◌, ◌++◌, map, ℕ, suc, ◌/◌, ◌≤◌, length, replicate}
use Rattle.seal.specs.Seal.{block_bytes}
use Rattle.printed.specs.AnswerLine.{asked_line}
use Rattle.runs.specs.Clerk.{Line}
use Rattle.bitset.specs.Words.{Bytes}
use Rattle.runs.specs.Run.{Keeps, Call, log}
use Rattle.runs.specs.Demand3.{RunRight}
use Rattle.printed.specs.Printed.{scratch_bytes}
use Rattle.log_blocks.specs.Log.{last_number, blocks_of, read_log}
use Rattle.log_blocks.specs.Stops.{part_of, rest_of}
use Rattle.log_blocks.specs.Round.{Round, due, replay_round}
use Rattle.log_blocks.specs.Replay.{stop_line, replay_lines, replay_sheet}

-- The calls of enter for edits, each with the program's scratch.
unfoldable pub program_scratch : List ℕ
program_scratch = replicate scratch_bytes 0

abbrev pub calls : List (List ℕ) → List Call
calls edits = map (λ edit. record { edit = edit; scratch = program_scratch }) edits

-- The printed lines of a run's log, and the sheet that it ends in.
unfoldable pub printed_log : List Line → List ℕ
printed_log [] = []
printed_log (l ∷ ls) = asked_line l.answer ++ printed_log ls

unfoldable pub last_sheet : List ℕ → List Line → List ℕ
last_sheet sheet [] = sheet
last_sheet sheet (l ∷ ls) = last_sheet l.sheet ls

-- What the program writes when it reads these blocks: one round for each, and one where nothing is left to read. It holds the sheet and what it keeps
-- of one edit, and no more of the log; last it writes the sheet.
unfoldable pub written : (number : ℕ) (part sheet book : List ℕ) → List (List ℕ) → List ℕ
written number part sheet book [] = let s : Round = replay_round number part sheet book [] in due s ++ s.sheet
written number part sheet book (k ∷ ks) =
    let s : Round = replay_round number part sheet book k in
    due s ++ cond s.goes_on_def (written s.number s.part s.sheet book ks) s.sheet

pub record Replays : Type 0 where
  -- The lines and the sheet are those of the run of the log's edits,
  pub lines_run : (sheet book bytes : List ℕ) → replay_lines sheet book bytes ≡ printed_log (log book sheet (calls (read_log bytes).edits)) ++ stop_line (read_log bytes).ending
  pub sheet_run : (sheet book bytes : List ℕ) → replay_sheet sheet book bytes ≡ last_sheet sheet (log book sheet (calls (read_log bytes).edits))
  -- so that demand 3 holds for them: from a sheet that keeps the book,
  pub run_right : (sheet book bytes : List ℕ) → Bytes sheet → Keeps book sheet → RunRight sheet book (calls (read_log bytes).edits)
  -- and the sheet last written keeps it.
  pub sheet_keeps : (sheet book bytes : List ℕ) → Bytes sheet → Keeps book sheet → Keeps book (replay_sheet sheet book bytes)
  -- In a log of at most 65,535 blocks (a part of one more may follow them), stopping after any edit it has answered and starting again from the sheet
  -- then held, with the rest of the log, ends in the same sheet.
  pub stop_and_go_on : (sheet book bytes : List ℕ) (i : ℕ) → i ≤ length (read_log bytes).edits → length bytes / block_bytes ≤ suc last_number
      → replay_sheet (replay_sheet sheet book (part_of i bytes)) book (rest_of i bytes) ≡ replay_sheet sheet book bytes
  -- Kept bytes suffice: what the rounds write is the lines and the sheet.
  pub block_by_block : (sheet book bytes : List ℕ) → written 0 [] sheet book (blocks_of bytes) ≡ replay_lines sheet book bytes ++ replay_sheet sheet book bytes
