-- What the calls write: a name put into the head or taken out, and a place replaced.
use mathlib.Core.Path.{◌≡◌, refl, sym, ap, ap₂, ◌∙◌}
use mathlib.Core.Bool.{Bool, true, false, ◌&&◌, cond}
use mathlib.Core.Logic.{◌≢◌}
use mathlib.Core.List.{List, ◌++◌, append_assoc}
use Prim.Native.Nat.{ℕ, suc, ◌+◌, ◌-◌, ◌≤◌, ◌<◌}
use native.Mathlib.Omega.{arith}
use borrow.Author.Tests.{eqb-true, lt-ltb}
use lib.Dec.{eqb, ltb}
use lib.ListN.{length, get_or, take, drop, replicate, set, length-append, get_or-replicate}
use lib.Seq.{take_at, drop_at, drop-set-lt}
use Rattle.logic.specs.Steps.{update}
use Rattle.bitset.specs.Words.{Bytes, set_of, member, combined}
use Rattle.bitset.proofs.SetLaws.{set_of-cong, set_of-wide, set_of-none, member_of, member-set_of, set_of-member-lt}
use Rattle.seal.specs.Seal.{block_bytes, modulo257, sealed, reseal}
use Rattle.sheet.specs.Sheet.{sheet_bytes, present, graph_of, chunks}
use Rattle.sheet.proofs.ChunkLaws.{length-chunks, chunks-same, chunks-at}
use Rattle.logic.proofs.Tables.{update_same, update_other}
use Rattle.sheet.specs.Questions.{Sound}
use Rattle.sheet.proofs.SoundSheets as sheets
use Rattle.plan_store.specs.Store.{plan_count, store_bytes, Plan, unfilled, filled, Plans, no_plans, is_filled, head_block, plan_bytes, store_of, place_start, place_in, plans_of}
use Rattle.plan_store.specs.Questions.{head_right_def, SoundStore}
use Rattle.plan_store.proofs.StoreHead.{length-head, head_byte, head-holds, head-made}
use Rattle.plan_store.proofs.StorePlaces.{all-zero-place, places, length-built}
use Rattle.plan_store.proofs.StoreLaws.{length-plan, names, names-low, opening}

-- The names with one put in or taken out, by an operation that puts or takes.
module _ (names : ℕ) (h : names < 128) (i : ℕ) (l : i < plan_count) (used : Bool) (f : Bool → Bool → Bool) (there : (a : Bool) → f a true ≡ used) (elsewhere : (a : Bool) → f a false ≡ a) where
  pub names-with : (one x : ℕ) → one ≡ set_of 64 (λ j. eqb j i) → x ≡ combined f names one → x ≡ set_of plan_count (update (member names) i used)
  unfolding update
  names-with one x o e =
      e
      ∙ set_of-cong 64 (λ k. f (member names k) (member one k)) (λ k. ltb k plan_count && update (member names) i used k)
      (λ k m. ap (f (member names k)) (ap (λ y. member y k) o ∙ member-set_of 64 (λ j. eqb j i) k m) ∙ go k (eqb k i) refl)
      ∙ set_of-wide plan_count 64 (update (member names) i used) (omega arith) where
        low : (k : ℕ) → member names k ≡ (ltb k plan_count && member names k)
        low k = ap (λ y. member y k) (sym (set_of-member-lt plan_count names h)) ∙ member_of plan_count (member names) k

        go : (k : ℕ) (b : Bool) → eqb k i ≡ b → f (member names k) b ≡ (ltb k plan_count && cond b used (member names k))
        go k true e = there (member names k) ∙ sym (ap (◌&& used) (ap (λ j. ltb j plan_count) (eqb-true k i e) ∙ lt-ltb i plan_count l))
        go k false e = elsewhere (member names k) ∙ low k

-- The bytes of a plan: a sheet's, or zeros.
pub sheet-plan : (sheet b : List ℕ) → Bytes sheet → Sound sheet → b ≡ sheet → b ≡ plan_bytes (filled (graph_of sheet))
sheet-plan sheet b small sound e = unfold plan_bytes in e ∙ (sheets.sound-is-stored present sheet small sound).stored

pub zero-plan : (b : List ℕ) (m : ℕ) → b ≡ replicate m 0 → m ≡ sheet_bytes → b ≡ plan_bytes unfilled
zero-plan b m e q = unfold plan_bytes in e ∙ ap (λ k. replicate k 0) q

-- A place of a store replaced by the bytes of a plan, then its name in the head.
pub record Replaced (p : Plans) (i : ℕ) (x : Plan) (w : List ℕ) : Type 0 where
  pub size : length w ≡ store_bytes
  pub head-size : length (take block_bytes w) ≡ block_bytes
  pub head-right : head_right_def (take block_bytes w) ≡ true
  pub headed : (head : List ℕ) → head ≡ head_block (set_of plan_count (update (member (get_or (take block_bytes w) 1 0)) i (is_filled x)))
      → head ++ drop block_bytes w ≡ store_of (update p i x)

module _ (p : Plans) (i : ℕ) (l : i < plan_count) (x : Plan) where
  abbrev q : Plans
  q = update p i x

  abbrev bytes_of : Plans → ℕ → List ℕ
  bytes_of r j = plan_bytes (r j)

  -- the places before it, the place itself, and those after it
  parts : (r : Plans) → head_block (names p) ++ chunks plan_count 0 (bytes_of r) ≡ (head_block (names p) ++ chunks i 0 (bytes_of r)) ++ (plan_bytes (r i) ++ chunks (plan_count - suc i) (suc i) (bytes_of r))
  parts r = ap (head_block (names p) ++◌) (chunks-at plan_count i (bytes_of r) l) ∙ sym (append_assoc (head_block (names p)) (chunks i 0 (bytes_of r)) _)

  same : (m k : ℕ) → ((j : ℕ) → k ≤ j → j < k + m → j ≢ i) → chunks m k (bytes_of p) ≡ chunks m k (bytes_of q)
  same m k d = chunks-same m k _ _ (λ j a b. ap plan_bytes (sym (update_other p i x j (d j a b))))

  -- one of them is written
  written : (b t : List ℕ) → b ≡ plan_bytes x → t ≡ store_of p → take (place_start i) t ++ (b ++ drop sheet_bytes (drop (place_start i) t)) ≡ head_block (names p) ++ chunks plan_count 0 (bytes_of q)
  unfolding store_of
  written b t s e =
      let front = head_block (names p) ++ chunks i 0 (bytes_of p) in
      let n : length front ≡ place_start i = length-append (head_block (names p)) (chunks i 0 (bytes_of p)) ∙ omega (arith, length-head (names p), length-chunks sheet_bytes (bytes_of p) (λ j. length-plan (p j)) i 0) in
      ap (λ y. take (place_start i) y ++ (b ++ drop sheet_bytes (drop (place_start i) y))) (e ∙ parts p)
      ∙ ap₂ (λ y z. y ++ (b ++ drop sheet_bytes z)) (take_at front _ (place_start i) n) (drop_at front _ (place_start i) n)
      ∙ ap₂ (λ y z. front ++ (y ++ z)) (s ∙ ap plan_bytes (sym (update_same p i x))) (drop_at (plan_bytes (p i)) _ sheet_bytes (length-plan (p i)))
      ∙ ap₂ (λ y z. (head_block (names p) ++ y) ++ (plan_bytes (q i) ++ z)) (same i 0 (λ j a b d. omega arith)) (same (plan_count - suc i) (suc i) (λ j a b d. omega arith))
      ∙ sym (parts q)

  abbrev now : List ℕ
  now = head_block (names p) ++ chunks plan_count 0 (bytes_of q)

  now-replaced : Replaced p i x now
  unfolding store_of update
  now-replaced =
      record {
        size = length-built (head_block (names p)) (length-head (names p)) (bytes_of q) (λ j. length-plan (q j));
        head-size = ap length first ∙ length-head (names p);
        head-right = rw first (head-holds (head_block (names p)) (head-made (names p) (names-low p)));
        headed = λ head e. ap₂ ◌++◌ (e ∙ ap head_block (set_of-cong plan_count _ _ (λ j h. name j h (eqb j i)))) (drop_at (head_block (names p)) _ block_bytes (length-head (names p)));
      } where
        first : take block_bytes now ≡ head_block (names p)
        first = take_at (head_block (names p)) _ block_bytes (length-head (names p))

        name : (j : ℕ) → j < plan_count → (b : Bool) → cond b (is_filled x) (member (get_or (take block_bytes now) 1 0) j) ≡ is_filled (cond b x (p j))
        name j h true = refl
        name j h false = rw (first, head_byte (names p) 1 (omega arith)) (member-set_of plan_count (λ k. is_filled (p k)) j h)

pub place-written : (t : List ℕ) → Bytes t → SoundStore t → (i : ℕ) → i < plan_count → (s e : ℕ) → s ≡ place_start i → e ≡ place_start i + sheet_bytes → (x : Plan) (b : List ℕ) → b ≡ plan_bytes x
    → Replaced (plans_of t) i x (take s t ++ (b ++ drop (e - s) (drop s t)))
place-written t small sound i l s e p q x b w =
    let d : e - s ≡ sheet_bytes = omega arith in
    rw (d, p, written (plans_of t) i l x b t w (opening t small sound).stored) (now-replaced (plans_of t) i l x)

-- The blank store: all zero, except the head.
module _ (t : List ℕ) (n : length t ≡ store_bytes) (z : t ≡ replicate store_bytes 0) where
  abbrev first : List ℕ
  first = set t 0 4

  zero-place : (i : ℕ) → i < plan_count → place_in t i ≡ replicate sheet_bytes 0
  zero-place i l = all-zero-place t n i l (λ q v. ap (λ k. get_or k (place_start i + q) 0) z ∙ get_or-replicate store_bytes (place_start i + q) 0 0 (omega arith))

  pub blanked : (head : List ℕ) → head ≡ reseal modulo257 (take block_bytes first) → head ++ drop block_bytes first ≡ store_of no_plans
  unfolding store_of plan_bytes reseal head_block
  blanked head e =
      ap₂ ◌++◌ (e ∙ ap (λ k. sealed modulo257 (take 508 (take block_bytes (set k 0 4)))) z ∙ ap head_block (sym (set_of-none plan_count)))
      (drop-set-lt block_bytes t 0 4 (omega arith) ∙ places t n (λ i. replicate sheet_bytes 0) zero-place)
