-- Plans to come back to (item 7 of document 02): what the names 1 to 7 hold, and the store of 61,440 bytes for them: a head block and seven sheets.
use Rattle.std.specs.Prelude.{◌≡◌, Bool, true, false, ◌&&◌, cond, List, ◌∷◌, ◌++◌, ℕ, ◌+◌, ◌*◌, ◌≤◌, ltb, get_or, take, drop, replicate}
use Rattle.logic.specs.Graph.{Graph, Nodes}
use Rattle.logic.specs.Limits.{Within}
use Rattle.bitset.specs.Words.{set_of, member}
use Rattle.seal.specs.Seal.{block_bytes, modulo257, sealed}
use Rattle.sheet.specs.Sheet.{sheet_bytes, chunks, store, graph_of}

-- "names 1 to 7", and "A store of 61,440 bytes"
abbrev pub plan_count : ℕ
plan_count = 7

abbrev pub store_bytes : ℕ
store_bytes = block_bytes + plan_count * sheet_bytes

-- What a name holds: nothing, or a sheet's graph.
pub data Plan : Type 0 where
  unfilled : Plan
  filled : (g : Graph) → Plan

-- What each name holds. Name v has place v - 1.
abbrev pub Plans : Type 0
Plans = ℕ → Plan

abbrev pub no_plans : Plans
no_plans i = unfilled

abbrev pub is_filled : Plan → Bool
is_filled unfilled = false
is_filled (filled g) = true

-- The limits of a value: seven names, and each graph is one that a sheet stores.
abbrev pub PlanWithin : Plan → Type 0
PlanWithin unfilled = Unit {0}
PlanWithin (filled g) = Within g

pub record PlansWithin (p : Plans) : Type 0 where
  pub no_more : (i : ℕ) → plan_count ≤ i → p i ≡ unfilled
  pub each : (i : ℕ) → PlanWithin (p i)

-- "a head block (byte 0 is 4, byte 1 has bit v minus 1 set when name v is filled, zeros, sums)": the sums of item 2.
unfoldable pub head_block : (names : ℕ) → List ℕ
head_block names = sealed modulo257 (4 ∷ names ∷ replicate 506 0)

-- "an unfilled place is all zero"
unfoldable pub plan_bytes : Plan → List ℕ
plan_bytes unfilled = replicate sheet_bytes 0
plan_bytes (filled g) = store g

-- The store of a value.
unfoldable pub store_of : Plans → List ℕ
store_of p = head_block (set_of plan_count (λ i. is_filled (p i))) ++ chunks plan_count 0 (λ i. plan_bytes (p i))

-- The bytes of a place, and where they start.
abbrev pub place_start : ℕ → ℕ
place_start i = block_bytes + sheet_bytes * i

abbrev pub place_in : List ℕ → ℕ → List ℕ
place_in t i = take sheet_bytes (drop (place_start i) t)

-- The names that a store's byte 1 says are filled.
abbrev pub filled_in : List ℕ → Nodes
filled_in t i = ltb i plan_count && member (get_or t 1 0) i

-- The value that bytes store.
unfoldable pub plans_of : List ℕ → Plans
plans_of t i = cond (filled_in t i) (filled (graph_of (place_in t i))) unfilled
