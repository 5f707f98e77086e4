-- Where a log is bad, and which edits it holds before that place.
use Rattle.std.specs.Prelude.{Bool, false, not, cond, List, [], ◌∷◌, ◌++◌, ℕ, zero, suc}
use Rattle.answer.specs.Asked.{Asked}
use Rattle.log_blocks.specs.Log.{is_last, content, ask_log_block, ask_log_end}

-- The questions at a place of a log: about the block there, whole or cut short, or where there is none, about the log's end.
-- An edit is begun after each block that is not its edit's last.
unfoldable pub ask_from : (number : ℕ) (begun : Bool) → List (List ℕ) → ℕ → Asked (Unit {0})
ask_from number begun [] i = ask_log_end begun number
ask_from number begun (k ∷ ks) zero = ask_log_block begun number k
ask_from number begun (k ∷ ks) (suc i) = ask_from (suc number) (not (is_last k)) ks i

abbrev pub ask_place : List (List ℕ) → ℕ → Asked (Unit {0})
ask_place ks i = ask_from 0 false ks i

-- The edits whose last block is among these blocks, from the bytes in the blocks of each; `gathered` is what came before the first.
unfoldable pub edits_from : (gathered : List ℕ) → List (List ℕ) → List (List ℕ)
edits_from gathered [] = []
edits_from gathered (k ∷ ks) = cond (is_last k) ((gathered ++ content k) ∷ edits_from [] ks) (edits_from (gathered ++ content k) ks)

abbrev pub edits_in : List (List ℕ) → List (List ℕ)
edits_in ks = edits_from [] ks
