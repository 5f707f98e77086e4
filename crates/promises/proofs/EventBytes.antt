-- The sheet that enter leaves and the store after each call are bytes.
use mathlib.Core.Bool.{Bool, true, false, cond}
use mathlib.Core.List.{List}
use Prim.Native.Nat.{ℕ, ◌+◌, ◌-◌, ◌<◌}
use native.Mathlib.Omega.{arith}
use native.Mathlib.Decide.{dec_lt}
use lib.Dec.{eqb}
use lib.ListN.{get_or, take, drop, length-take, get_or-eq_default}
use lib.Seq.{get_or-take, get_or-drop}
use Rattle.answer.specs.Asked.{Asked, passed, refused, after}
use Rattle.logic.specs.Steps.{update, run}
use Rattle.logic.proofs.Inside.{run-n}
use Rattle.sheet.specs.Sheet.{sheet_bytes, graph_in, graph_of}
use Rattle.runs.specs.Enter.{ask_enter, enter_sheet}
use Rattle.bitset.specs.Words.{Bytes}
use Rattle.plan_store.specs.Store.{Plan, unfilled, filled, store_of, plans_of, place_in, place_start, filled_in}
use Rattle.plan_store.specs.Questions.{ask_keep, ask_drop}
use Rattle.plan_store.specs.Calls.{kept_store, dropped_store}
use Rattle.store.proofs.StoredBytes.{store-small}
use Rattle.plan_store.proofs.StoreIsBytes.{FewNodes, store_of-small}
use Rattle.promises.specs.Plans.{PlanEvent, making, keeping, returning, dropping, State, left}

part_bytes : (t : List ℕ) (n m : ℕ) → Bytes t → Bytes (take n (drop m t))
part_bytes t n m b p = go (dec_lt p n) where
  go : Dec (p < n) → get_or (take n (drop m t)) p 0 < 256
  go (yes l) = omega (arith, get_or-take n (drop m t) p 0 l, get_or-drop m t p 0, b (m + p))
  go (no l) = omega (arith, get_or-eq_default (take n (drop m t)) 0 {n = p} (omega (arith, length-take n (drop m t))))

after-bytes : {A : Type 0} (x : Asked A) (made : A → List ℕ) (before : List ℕ) → ((a : A) → Bytes (made a)) → Bytes before → Bytes (after x made before)
unfolding after
after-bytes (passed a) made before h b = h a
after-bytes (refused q p) made before h b = b

pub n-bytes : (t : List ℕ) → Bytes t → (graph_of t).n < 256
n-bytes t b = unfold graph_in in b 2

pub enter-bytes : (sheet book edit : List ℕ) (room : ℕ) → Bytes sheet → Bytes (enter_sheet sheet book edit room)
enter-bytes sheet book edit room b = unfold enter_sheet in after-bytes (ask_enter sheet book edit room) _ sheet (λ Z. store-small (run Z (graph_of sheet)) (omega (arith, run-n Z (graph_of sheet), n-bytes sheet b))) b

-- a store with one plan replaced
pub plans-bytes : (t : List ℕ) (i : ℕ) (x : Plan) → Bytes t → FewNodes x → Bytes (store_of (update (plans_of t) i x))
unfolding update plans_of
plans-bytes t i x b h = store_of-small (update (plans_of t) i x) (λ j. go j (eqb j i) (filled_in t j)) where
  go : (j : ℕ) (c d : Bool) → FewNodes (cond c x (cond d (filled (graph_of (place_in t j))) unfilled))
  go j true d = h
  go j false true = n-bytes (place_in t j) (part_bytes t sheet_bytes (place_start j) b)
  go j false false = tt

-- The store after a call.
pub store-next : (book : List ℕ) (x : State) (c : PlanEvent) → Bytes x.sheet → Bytes x.store → Bytes (left book x c).store
unfolding kept_store dropped_store
store-next book x (making e) b t = t
store-next book x (keeping v) b t =
    after-bytes (ask_keep x.sheet x.store v) _ x.store (λ u. plans-bytes x.store (v - 1) (filled (graph_of x.sheet)) t (n-bytes x.sheet b)) t
store-next book x (returning v) b t = t
store-next book x (dropping v) b t = after-bytes (ask_drop x.store v) _ x.store (λ u. plans-bytes x.store (v - 1) unfilled t tt) t
