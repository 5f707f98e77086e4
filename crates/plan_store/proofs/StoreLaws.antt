-- One store for one value, and that store reads as it.
use mathlib.Core.Path.{◌≡◌, refl, sym, ap, ◌∙◌, fun_ext}
use mathlib.Core.Bool.{Bool, true, false, cond}
use mathlib.Core.List.{List}
use Prim.Native.Nat.{ℕ, ◌+◌, ◌<◌}
use native.Mathlib.Omega.{arith}
use native.Mathlib.Decide.{dec_lt}
use borrow.Author.Tests.{lt-ltb, le-ltb}
use lib.ListN.{length, get_or, take, length-replicate, get_or-replicate}
use lib.Seq.{length-take-le, get_or-take}
use Rattle.answer.specs.Asked.{Asked, passed, refused}
use Rattle.logic.proofs.Bools.{true-false}
use Rattle.bitset.specs.Words.{Bytes, set_of, member}
use Rattle.bitset.proofs.WordLaws.{part_small}
use Rattle.bitset.proofs.SetLaws.{set_of-lt, set_of-cong, set_of-member-lt, member-set_of}
use Rattle.seal.specs.Seal.{block_bytes}
use Rattle.sheet.specs.Sheet.{sheet_bytes, present, graph_of}
use Rattle.sheet.specs.Questions.{ask_sheet, Sound}
use Rattle.sheet.specs.Masks.{zeros_at}
use Rattle.sheet.proofs.BlockLaws.{length-store}
use Rattle.sheet.proofs.ZeroLaws.{zeros-are}
use Rattle.store.proofs.StoredReads as sheets-read
use Rattle.store.proofs.StoredPasses as sheets-pass
use Rattle.sheet.proofs.SoundSheets as sheets-open
use Rattle.plan_store.specs.Store.{plan_count, store_bytes, Plan, unfilled, filled, Plans, is_filled, PlanWithin, PlansWithin, head_block, plan_bytes, store_of, place_start, place_in, filled_in, plans_of}
use Rattle.plan_store.specs.Questions.{is_passed, place_right_def, SoundStore}
use Rattle.plan_store.proofs.ByteLoops.{zeros-each}
use Rattle.plan_store.proofs.StoreHead.{HeadIs, head-told, head-holds, head-is, length-head, head_byte, head-made}
use Rattle.plan_store.proofs.StorePlaces.{place_byte, all-zero-place, built, length-built, head-built, place-built}
use Rattle.plan_store.proofs.Asks.{StoreIs, store-sound, store_told}

pub passed-told : (x : Asked (Unit {0})) → is_passed x ≡ true → x ≡ passed tt
passed-told (passed u) e = refl
passed-told (refused q p) e = true-false e refl

pub length-plan : (x : Plan) → length (plan_bytes x) ≡ sheet_bytes
unfolding plan_bytes
length-plan unfilled = length-replicate {A = ℕ} sheet_bytes 0
length-plan (filled g) = length-store present g

-- byte 1 of a store is that of its head
pub byte-1 : (t : List ℕ) → get_or (take block_bytes t) 1 0 ≡ get_or t 1 0
byte-1 t = get_or-take block_bytes t 1 0 (omega arith)

-- The store of a value: its parts.
module _ (p : Plans) where
  abbrev pub names : ℕ
  names = set_of plan_count (λ i. is_filled (p i))

  pub names-low : names < 128
  names-low = set_of-lt plan_count (λ i. is_filled (p i))

  pub length-store_of : length (store_of p) ≡ store_bytes
  length-store_of = unfold store_of in length-built (head_block names) (length-head names) (λ i. plan_bytes (p i)) (λ i. length-plan (p i))

  pub head-store_of : take block_bytes (store_of p) ≡ head_block names
  head-store_of = unfold store_of in head-built (head_block names) (length-head names) (λ i. plan_bytes (p i)) (λ i. length-plan (p i))

  pub place-store_of : (i : ℕ) → i < plan_count → place_in (store_of p) i ≡ plan_bytes (p i)
  place-store_of i l = unfold store_of in place-built (head_block names) (length-head names) (λ i. plan_bytes (p i)) (λ i. length-plan (p i)) i l

  names-store_of : get_or (store_of p) 1 0 ≡ names
  names-store_of = sym (byte-1 (store_of p)) ∙ ap (λ k. get_or k 1 0) head-store_of ∙ head_byte names 1 (omega arith)

  pub filled-store_of : (i : ℕ) → i < plan_count → member (get_or (store_of p) 1 0) i ≡ is_filled (p i)
  filled-store_of i l = ap (λ x. member x i) names-store_of ∙ member-set_of plan_count (λ i. is_filled (p i)) i l

  module _ (w : PlansWithin p) where
    -- it passes
    place-passes : (i : ℕ) → i < plan_count → place_right_def (store_of p) i ≡ true
    unfolding place_right_def plan_bytes
    place-passes i l = rw (filled-store_of i l) (go (p i) refl (w.each i)) where
      go : (x : Plan) → p i ≡ x → PlanWithin x → cond (is_filled x) (is_passed (ask_sheet (place_in (store_of p) i))) (zeros_at (store_of p) (place_start i) sheet_bytes) ≡ true
      go unfilled e h =
          zeros-are (store_of p) (place_start i) sheet_bytes (λ j u. sym (place_byte (store_of p) length-store_of i j l u) ∙ rw (place-store_of i l, e) (get_or-replicate sheet_bytes j 0 0 u))
      go (filled g) e h = rw (place-store_of i l, e, sheets-pass.stored-passes g h)

    pub stored-passes : SoundStore (store_of p)
    stored-passes = sym (store-sound (store_of p) (record { size = length-store_of; head = rw head-store_of (head-holds (head_block names) (head-made names names-low)); places = place-passes }))

    -- and reads as the value
    pub read_back : plans_of (store_of p) ≡ p
    unfolding plans_of plan_bytes
    read_back = fun_ext (λ i. go i (dec_lt i plan_count)) where
      plan : (i : ℕ) → i < plan_count → (x : Plan) → p i ≡ x → PlanWithin x → cond (is_filled x) (filled (graph_of (place_in (store_of p) i))) unfilled ≡ x
      plan i l unfilled e h = refl
      plan i l (filled g) e h = rw (place-store_of i l, e, sheets-read.read_back g h)

      go : (i : ℕ) → Dec (i < plan_count) → cond (filled_in (store_of p) i) (filled (graph_of (place_in (store_of p) i))) unfilled ≡ p i
      go i (yes l) = rw (lt-ltb i plan_count l, filled-store_of i l) (plan i l (p i) refl (w.each i))
      go i (no l) = rw (le-ltb i plan_count (omega arith)) (sym (w.no_more i (omega arith)))

-- A store that passes is the one of the value that it reads as.
module _ (t : List ℕ) (small : Bytes t) (sound : SoundStore t) where
  abbrev is : StoreIs t
  is = store_told t sound

  head_of : HeadIs (take block_bytes t)
  head_of = head-told (take block_bytes t) is.head

  pub names-below : get_or t 1 0 < 128
  names-below = omega (arith, byte-1 t, head_of.low)

  pub place-sound : (i : ℕ) → i < plan_count → member (get_or t 1 0) i ≡ true → Sound (place_in t i)
  place-sound i l e = unfold place_right_def in passed-told (ask_sheet (place_in t i)) (rw e at (is.places i l))

  pub place-zero : (i : ℕ) → i < plan_count → member (get_or t 1 0) i ≡ false → (q : ℕ) → q < sheet_bytes → get_or t (place_start i + q) 0 ≡ 0
  place-zero i l e = unfold place_right_def in zeros-each t (place_start i) sheet_bytes (rw e at (is.places i l))

  -- a name's plan is what its place holds
  record HeldAt (i : ℕ) (x : Plan) : Type 0 where
    fills : is_filled x ≡ member (get_or t 1 0) i
    are : place_in t i ≡ plan_bytes x
    within : PlanWithin x

  held_at : (i : ℕ) → i < plan_count → HeldAt i (plans_of t i)
  unfolding plans_of plan_bytes
  held_at i l = rw (lt-ltb i plan_count l) (go (member (get_or t 1 0) i) refl) where
    go : (b : Bool) → member (get_or t 1 0) i ≡ b → HeldAt i (cond b (filled (graph_of (place_in t i))) unfilled)
    go true e =
        let s = sheets-open.sound-is-stored present (place_in t i) (part_small t sheet_bytes (place_start i) small) (place-sound i l e) in
        record { fills = sym e; are = s.stored; within = s.within }
    go false e = record { fills = sym e; are = all-zero-place t is.size i l (place-zero i l e); within = tt }

  names_at : get_or t 1 0 ≡ set_of plan_count (λ i. is_filled (plans_of t i))
  names_at = sym (set_of-member-lt plan_count (get_or t 1 0) names-below) ∙ set_of-cong plan_count (member (get_or t 1 0)) (λ i. is_filled (plans_of t i)) (λ i l. sym (held_at i l).fills)

  within-at : (i : ℕ) → Dec (i < plan_count) → PlanWithin (plans_of t i)
  within-at i (yes l) = (held_at i l).within
  within-at i (no l) = unfold plans_of in rw (le-ltb i plan_count (omega arith)) tt

  pub record Opened : Type 0 where
    pub stored : t ≡ store_of (plans_of t)
    pub within : PlansWithin (plans_of t)

  pub opening : Opened
  unfolding store_of plans_of
  opening =
      record {
        stored = built t is.size (head_block (set_of plan_count (λ i. is_filled (plans_of t i)))) (λ i. plan_bytes (plans_of t i))
            (head-is (take block_bytes t) (length-take-le block_bytes t (omega (arith, is.size))) head_of ∙ ap head_block (byte-1 t ∙ names_at)) (λ i l. (held_at i l).are);
        within = record { no_more = λ i l. rw (le-ltb i plan_count l); each = λ i. within-at i (dec_lt i plan_count) };
      }

-- So each value has one store.
pub one_store : (s t : List ℕ) → Bytes s → Bytes t → SoundStore s → SoundStore t → plans_of s ≡ plans_of t → s ≡ t
one_store s t small-s small-t sound-s sound-t e = (opening s small-s sound-s).stored ∙ ap store_of e ∙ sym (opening t small-t sound-t).stored
