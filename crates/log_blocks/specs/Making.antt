-- The log of edits: each cut into blocks.
use Rattle.std.specs.Prelude.{cond, List, [], ◌∷◌, ◌++◌, ℕ, zero, suc, ◌+◌, ◌-◌, ◌<◌, leb, length, take, drop, replicate}
use Rattle.logic.specs.Lists.{All}
use Rattle.bitset.specs.Words.{bytes}
use Rattle.seal.specs.Seal.{modulo257, sealed}
use Rattle.log_blocks.specs.Log.{content_bytes}

-- The block with this byte 1 and these edit bytes.
unfoldable pub block : (mark : ℕ) → List ℕ → List ℕ
block mark part = sealed modulo257 (3 ∷ mark ∷ bytes 2 (length part) ++ part ++ replicate (content_bytes - length part) 0)

-- The blocks of an edit's bytes; in byte 1, 1 marks the first and 2 the last. There are no more blocks than bytes.
unfoldable pub edit_blocks : (most : ℕ) (first : ℕ) → List ℕ → List (List ℕ)
edit_blocks zero first edit = []
edit_blocks (suc most) first edit =
    cond (leb (length edit) content_bytes) (block (first + 2) edit ∷ [])
    (block first (take content_bytes edit) ∷ edit_blocks most 0 (drop content_bytes edit))

unfoldable pub log_blocks : List (List ℕ) → List (List ℕ)
log_blocks [] = []
log_blocks (edit ∷ edits) = edit_blocks (length edit) 1 edit ++ log_blocks edits

-- Their bytes.
unfoldable pub joined : List (List ℕ) → List ℕ
joined [] = []
joined (k ∷ ks) = k ++ joined ks

-- A log can hold an edit that has at least one byte.
abbrev pub CanHold : List (List ℕ) → Type 0
CanHold = All (λ edit. 0 < length edit)

abbrev pub log_of : List (List ℕ) → List ℕ
log_of edits = joined (log_blocks edits)
