-- Stopping in a log after an edit, and starting again with the rest of it.
use Rattle.std.specs.Prelude.{cond, List, [], ◌∷◌, ℕ, zero, suc, ◌+◌, ◌*◌, take, drop}
use Rattle.answer.specs.Asked.{Asked, passed, refused}
use Rattle.seal.specs.Seal.{block_bytes}
use Rattle.log_blocks.specs.Log.{is_last, Recorded, blocks_of}

-- How many blocks a log has up to the last one of that many edits.
unfoldable pub blocks_to : (edits : ℕ) → List (List ℕ) → ℕ
blocks_to zero ks = 0
blocks_to (suc i) [] = 0
blocks_to (suc i) (k ∷ ks) = suc (cond (is_last k) (blocks_to i ks) (blocks_to (suc i) ks))

-- The part of a log's bytes that holds that many edits, and the rest.
abbrev pub part_of : (edits : ℕ) → List ℕ → List ℕ
part_of i log = take (block_bytes * blocks_to i (blocks_of log)) log

abbrev pub rest_of : (edits : ℕ) → List ℕ → List ℕ
rest_of i log = drop (block_bytes * blocks_to i (blocks_of log)) log

-- An answer about the rest, with the block numbered in the whole log, m blocks further on.
unfoldable pub placed : ℕ → Asked (Unit {0}) → Asked (Unit {0})
placed m (passed u) = passed u
placed m (refused q p) = refused q (m + p)

abbrev pub renumbered : ℕ → Recorded → Recorded
renumbered m r = record { edits = r.edits; ending = placed m r.ending }
