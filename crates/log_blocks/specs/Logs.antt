-- What a log promises by its form. proofs/Logs proves it.
use Rattle.std.specs.Prelude.{◌≡◌, List, ℕ, suc, ◌/◌, ◌≤◌, length, take, drop}
use Rattle.answer.specs.Asked.{passed}
use Rattle.bitset.specs.Words.{Bytes}
use Rattle.seal.specs.Seal.{block_bytes}
use Rattle.log_blocks.specs.Log.{last_number, blocks_of, read_log}
use Rattle.log_blocks.specs.Making.{CanHold, log_blocks, log_of}
use Rattle.log_blocks.specs.Stops.{blocks_to, part_of, rest_of, renumbered}

pub record Logs : Type 0 where
  -- Edits cut into blocks and read back are the same edits.
  pub read_back : (edits : List (List ℕ)) → CanHold edits → length (log_blocks edits) ≤ suc last_number → read_log (log_of edits) ≡ record { edits = edits; ending = passed tt }
  -- A log that is good to its end is the log of its edits, byte for byte.
  pub one_log : (log : List ℕ) → Bytes log → (read_log log).ending ≡ passed tt → (log ≡ log_of (read_log log).edits) × CanHold (read_log log).edits
  -- After i edits of a log: what was read up to there is those edits, with no fault;
  pub part_read : (log : List ℕ) (i : ℕ) → i ≤ length (read_log log).edits → read_log (part_of i log) ≡ record { edits = take i (read_log log).edits; ending = passed tt }
  -- and the rest of a log of at most 65,535 whole blocks, read by itself, is the other edits, and ends as the log does, except for the blocks' numbers.
  pub rest_read : (log : List ℕ) (i : ℕ) → i ≤ length (read_log log).edits → length log / block_bytes ≤ suc last_number
      → renumbered (blocks_to i (blocks_of log)) (read_log (rest_of i log)) ≡ record { edits = drop i (read_log log).edits; ending = (read_log log).ending }
