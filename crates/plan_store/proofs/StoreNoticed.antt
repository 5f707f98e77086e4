-- In a sound store every change of a single byte is noticed: 55, by each call that takes the store.
use mathlib.Core.Path.{◌≡◌, refl, sym, ap, ◌∙◌}
use mathlib.Core.Bool.{Bool, true, false, cond}
use mathlib.Core.List.{List}
use Prim.Native.Nat.{ℕ, ◌+◌, ◌-◌, ◌/◌, ◌%◌, ◌<◌}
use native.Mathlib.Omega.{arith}
use native.Mathlib.Decide.{dec_lt}
use lib.Dec.{lit≤}
use lib.ListN.{length, get_or, take, drop, set}
use lib.Seq.{length-take-le, get_or-take, get_or-set_same, get_or-set_other, take-set-lt, drop-set-add}
use Rattle.answer.specs.Asked.{refused, ◌>>◌}
use Rattle.bitset.specs.Words.{Bytes, member}
use Rattle.bitset.proofs.WordLaws.{part_small}
use Rattle.seal.specs.Seal.{block_bytes, modulo257}
use Rattle.seal.proofs.SealNoticed.{change_noticed}
use Rattle.sheet.specs.Sheet.{sheet_bytes}
use Rattle.sheet.specs.Questions.{ask_sheet, Sound}
use Rattle.sheet.specs.Masks.{zeros_at}
use Rattle.sheet.proofs.SheetNoticed as sheets
use Rattle.plan_store.specs.Store.{plan_count, store_bytes, place_start, place_in}
use Rattle.plan_store.specs.Questions.{is_passed, head_right_def, place_right_def, ask_store, SoundStore, ask_name_def, ask_filled_def, ask_keep, ask_return, ask_drop}
use Rattle.plan_store.proofs.ByteLoops.{zeros-not}
use Rattle.plan_store.proofs.StoreHead.{head-told}
use Rattle.plan_store.proofs.Asks.{store_told, store-head, store-place}
use Rattle.plan_store.proofs.StoreLaws.{place-sound, place-zero}
use Rattle.plan_store.proofs.StorePlaces.{place_byte}

module _ (t : List ℕ) (small : Bytes t) (sound : SoundStore t) (x : ℕ) (byte : x < 256) where
  n : length t ≡ store_bytes
  n = (store_told t sound).size

  abbrev head : List ℕ
  head = take block_bytes t

  in_head : (p : ℕ) → p < block_bytes → (x ≡ get_or t p 0 → ⊥) → head_right_def (take block_bytes (set t p x)) ≡ false
  unfolding head_right_def
  in_head p l other =
      rw (
        take-set-lt block_bytes t p x l,
        change_noticed modulo257 (lit≤ tt) head (length-take-le block_bytes t (omega (arith, n))) (part_small t block_bytes 0 small) (head-told head (store_told t sound).head).sums p x l byte (λ e. other (e ∙ get_or-take block_bytes t p 0 l)),
      )

  -- a byte of a place
  module _ (i q : ℕ) (l : i < plan_count) (u : q < sheet_bytes) (other : x ≡ get_or t (place_start i + q) 0 → ⊥) where
    abbrev s : List ℕ
    s = set t (place_start i + q) x

    place_set : place_in s i ≡ set (place_in t i) q x
    place_set = ap (take sheet_bytes) (drop-set-add (place_start i) t q x) ∙ take-set-lt sheet_bytes (drop (place_start i) t) q x u

    in_place : place_right_def s i ≡ false
    unfolding place_right_def
    in_place = rw (get_or-set_other t (place_start i + q) 1 x 0 (λ e. omega arith)) (go (member (get_or t 1 0) i) refl) where
      go : (b : Bool) → member (get_or t 1 0) i ≡ b → cond b (is_passed (ask_sheet (place_in s i))) (zeros_at s (place_start i) sheet_bytes) ≡ false
      go true e = rw (place_set, sheets.every-change (place_in t i) (part_small t sheet_bytes (place_start i) small) (place-sound t small sound i l e) q x u byte (λ d. other (d ∙ place_byte t n i q l u)))
      go false e = zeros-not s (place_start i) sheet_bytes q u (λ d. other (sym (get_or-set_same t (place_start i + q) x 0 (omega (arith, n))) ∙ d ∙ sym (place-zero t small sound i l e q u)))

  pub every-change : (p : ℕ) → p < store_bytes → (x ≡ get_or t p 0 → ⊥) → ask_store (set t p x) ≡ refused 55 0
  every-change p l other = go (dec_lt p block_bytes) where
    go : Dec (p < block_bytes) → ask_store (set t p x) ≡ refused 55 0
    go (yes u) = sym (store-head (set t p x) (in_head p u other))
    go (no u) =
        let i : ℕ = (p - block_bytes) / sheet_bytes in
        let q : ℕ = (p - block_bytes) % sheet_bytes in
        let e : place_start i + q ≡ p = omega arith in
        let h : i < plan_count = omega arith in
        ap (λ r. ask_store (set t r x)) (sym e)
        ∙ sym (store-place (set t (place_start i + q) x) i h (in_place i q h (omega arith) (λ d. other (d ∙ ap (λ r. get_or t r 0) e))))

  -- so each call notices it, once the sheet passed to it has passed
  module _ (p : ℕ) (l : p < store_bytes) (other : x ≡ get_or t p 0 → ⊥) (name : ℕ) where
    pub drop-notices : ask_drop (set t p x) name ≡ refused 55 0
    drop-notices = unfold ask_filled_def ask_name_def ◌>>◌ in rw (every-change p l other)

    module _ (sheet : List ℕ) (sheet-sound : Sound sheet) where
      pub keep-notices : ask_keep sheet (set t p x) name ≡ refused 55 0
      keep-notices = unfold ask_keep ask_name_def ◌>>◌ in rw (sheet-sound, every-change p l other)

      pub return-notices : (book : List ℕ) → ask_return sheet (set t p x) name book ≡ refused 55 0
      return-notices book = unfold ask_return ask_filled_def ask_name_def ◌>>◌ in rw (sheet-sound, every-change p l other)
