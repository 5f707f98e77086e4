-- The places of a store: a list of its length is its first block and its places, one after the other.
use mathlib.Core.Path.{◌≡◌, refl, sym, ap, ap₂, ◌∙◌}
use mathlib.Core.List.{List, ◌++◌}
use Prim.Native.Nat.{ℕ, zero, suc, ◌+◌, ◌*◌, ◌<◌}
use native.Mathlib.Omega.{arith}
use lib.ListN.{length, get_or, take, drop, length-append, length-drop, take-append-drop, drop_of_length-le, replicate, length-replicate, get_or-replicate}
use lib.Seq.{length-take-le, get_or-take, get_or-drop, ext_get_or, take_at, drop-drop, drop-append-add}
use Rattle.seal.specs.Seal.{block_bytes}
use Rattle.sheet.specs.Sheet.{sheet_bytes, chunks}
use Rattle.sheet.proofs.ChunkLaws.{length-chunks, take_chunk, chunks-same}
use Rattle.plan_store.specs.Store.{plan_count, store_bytes, place_start, place_in}

module _ (t : List ℕ) (n : length t ≡ store_bytes) where
  pub length-place : (i : ℕ) → i < plan_count → length (place_in t i) ≡ sheet_bytes
  length-place i l = length-take-le sheet_bytes (drop (place_start i) t) (omega (arith, length-drop (place_start i) t))

  pub place_byte : (i q : ℕ) → i < plan_count → q < sheet_bytes → get_or (place_in t i) q 0 ≡ get_or t (place_start i + q) 0
  place_byte i q h l = get_or-take sheet_bytes (drop (place_start i) t) q 0 l ∙ get_or-drop (place_start i) t q 0

  pub all-zero-place : (i : ℕ) → i < plan_count → ((q : ℕ) → q < sheet_bytes → get_or t (place_start i + q) 0 ≡ 0) → place_in t i ≡ replicate sheet_bytes 0
  all-zero-place i l z =
      ext_get_or 0 (place_in t i) (replicate sheet_bytes 0) (length-place i l ∙ sym (length-replicate {A = ℕ} sheet_bytes 0))
      (λ q u. let v : q < sheet_bytes = omega (arith, length-place i l) in place_byte i q l v ∙ z q v ∙ sym (get_or-replicate sheet_bytes q 0 0 v))

  places-from : (m i : ℕ) → i + m ≡ plan_count → drop (place_start i) t ≡ chunks m i (place_in t)
  unfolding chunks
  places-from zero i e = drop_of_length-le t {i = place_start i} (omega arith)
  places-from (suc m) i e =
      let q : place_start i + sheet_bytes ≡ place_start (suc i) = omega arith in
      sym (take-append-drop sheet_bytes (drop (place_start i) t)) ∙ ap (place_in t i ++◌) (drop-drop sheet_bytes (place_start i) t ∙ ap (λ p. drop p t) q ∙ places-from m (suc i) (omega arith))

  pub places : (f : ℕ → List ℕ) → ((i : ℕ) → i < plan_count → place_in t i ≡ f i) → drop block_bytes t ≡ chunks plan_count 0 f
  places f h = places-from plan_count 0 refl ∙ chunks-same plan_count 0 (place_in t) f (λ i l u. h i (omega arith))

  -- so it is known by its first block and its places
  pub built : (head : List ℕ) (f : ℕ → List ℕ) → take block_bytes t ≡ head → ((i : ℕ) → i < plan_count → place_in t i ≡ f i) → t ≡ head ++ chunks plan_count 0 f
  built head f e h = sym (take-append-drop block_bytes t) ∙ ap₂ ◌++◌ e (places f h)

-- A block and places put together.
module _ (head : List ℕ) (h : length head ≡ block_bytes) (f : ℕ → List ℕ) (len : (i : ℕ) → length (f i) ≡ sheet_bytes) where
  pub length-built : length (head ++ chunks plan_count 0 f) ≡ store_bytes
  length-built = length-append head (chunks plan_count 0 f) ∙ omega (arith, length-chunks sheet_bytes f len plan_count 0)

  pub head-built : take block_bytes (head ++ chunks plan_count 0 f) ≡ head
  head-built = take_at head (chunks plan_count 0 f) block_bytes h

  pub place-built : (i : ℕ) → i < plan_count → place_in (head ++ chunks plan_count 0 f) i ≡ f i
  place-built i l =
      let e : place_start i ≡ length head + sheet_bytes * i = omega arith in
      let z : 0 + i ≡ i = omega arith in
      ap (λ p. take sheet_bytes (drop p (head ++ chunks plan_count 0 f))) e
      ∙ ap (take sheet_bytes) (drop-append-add head (chunks plan_count 0 f) (sheet_bytes * i)) ∙ take_chunk sheet_bytes f len plan_count 0 i l ∙ ap f z
