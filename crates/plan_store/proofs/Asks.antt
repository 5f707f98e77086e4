-- 55 to 57 as the code asks them.
use mathlib.Core.Path.{◌≡◌, ap₂}
use mathlib.Core.Bool.{Bool, true, false, and-false, and-eq-true_iff}
use mathlib.Core.List.{List}
use Prim.Native.Nat.{ℕ, ◌+◌, ◌-◌, ◌≤◌, ◌<◌}
use native.Mathlib.Omega.{arith}
use borrow.Author.Tests.{eq-eqb, ne_eqb, eqb-true, lt-ltb, le-leb, lt-leb, leb-true}
use lib.Dec.{eqb, leb, ltb}
use lib.ListN.{length, get_or, take, drop}
use Rattle.answer.specs.Asked.{Asked, passed, refused, ◌>>◌, is}
use Rattle.answer.specs.Answers.{asked}
use Rattle.answer.specs.declared.Refusal.{Refusal}
use Rattle.answer.specs.declared.Answer.{Answer}
use Rattle.answer.specs.declared.Answer.TheVariants.{Refused}
use Rattle.answer.proofs.AskedLaws.{is-yes, then-passed}
use Rattle.logic.proofs.Below.{all_true, all-stop, all-each}
use Rattle.bitset.specs.Words.{member}
use Rattle.seal.specs.Seal.{block_bytes}
use Rattle.sheet.specs.Sheet.{sheet_bytes}
use Rattle.sheet.specs.Questions.{ask_sheet}
use Rattle.sheet.specs.Masks.{zeros_at}
use Rattle.plan_store.specs.Store.{plan_count, store_bytes, place_start, place_in}
use Rattle.plan_store.specs.Questions.{is_passed, head_right_def, place_right_def, store_right, ask_store, SoundStore, ask_name_def, ask_filled_def}

-- a part of a store that is a place
pub place-part : (t : List ℕ) (i s e : ℕ) → s ≡ place_start i → e ≡ place_start i + sheet_bytes → take (e - s) (drop s t) ≡ place_in t i
place-part t i s e p q = let n : e - s ≡ sheet_bytes = omega arith in ap₂ (λ (x y : ℕ). take x (drop y t)) n p

module _ (t : List ℕ) (i x : ℕ) (w : x ≡ get_or t 1 0) where
  pub place-unfilled : member x i ≡ false → zeros_at t (place_start i) sheet_bytes ≡ place_right_def t i
  place-unfilled e = unfold place_right_def in rw (← w, e)

  pub place-filled : (a : Answer) (k : List ℕ) → member x i ≡ true → k ≡ place_in t i → asked a ≡ ask_sheet k → is_passed (asked a) ≡ place_right_def t i
  place-filled a k e p q = unfold place_right_def in rw (← w, e, ← p, ← q)

-- what a sound store is
pub record StoreIs (t : List ℕ) : Type 0 where
  pub size : length t ≡ store_bytes
  pub head : head_right_def (take block_bytes t) ≡ true
  pub places : (i : ℕ) → i < plan_count → place_right_def t i ≡ true

-- the first of two questions refuses
pub first_stops : (x y : Asked (Unit {0})) {a : Answer} {r : Refusal} → a ≡ Refused r → asked a ≡ x → asked a ≡ (x >> y)
first_stops x y e s = unfold ◌>>◌ in rw (← s, e)

module _ (t : List ℕ) where
  pub store-short : (length t ≡ store_bytes → ⊥) → refused 55 0 ≡ ask_store t
  store-short h = unfold ask_store store_right is in rw (ne_eqb (length t) store_bytes h)

  pub store-head : head_right_def (take block_bytes t) ≡ false → refused 55 0 ≡ ask_store t
  store-head e = unfold ask_store store_right is in rw (e, and-false)

  pub store-place : (i : ℕ) → i < plan_count → place_right_def t i ≡ false → refused 55 0 ≡ ask_store t
  store-place i l e = unfold ask_store store_right is in rw (all-stop (place_right_def t) plan_count i l e, and-false, and-false)

  pub store-sound : StoreIs t → passed tt ≡ ask_store t
  store-sound s = unfold ask_store store_right is in rw (eq-eqb (length t) store_bytes s.size, s.head, all_true plan_count (place_right_def t) s.places)

  pub store_told : SoundStore t → StoreIs t
  unfolding ask_store store_right
  store_told e =
      let a = (and-eq-true_iff (eqb (length t) store_bytes) _).0 (is-yes _ 55 0 e) in
      let b = (and-eq-true_iff (head_right_def (take block_bytes t)) _).0 a.1 in
      record { size = eqb-true _ _ a.0; head = b.0; places = all-each plan_count (place_right_def t) b.1 }

  module _ (name : ℕ) where
    pub name-low : SoundStore t → name < 1 → refused 56 0 ≡ ask_name_def t name
    name-low q l = unfold ask_name_def ◌>>◌ is in rw (q, lt-leb 1 name l)

    pub name-high : SoundStore t → plan_count < name → refused 56 0 ≡ ask_name_def t name
    name-high q l = unfold ask_name_def ◌>>◌ is in rw (q, lt-leb name plan_count l, and-false)

    pub name-right : SoundStore t → 1 ≤ name → name ≤ plan_count → passed tt ≡ ask_name_def t name
    name-right q l u = unfold ask_name_def ◌>>◌ is in rw (q, le-leb 1 name l, le-leb name plan_count u)

    -- what is known when 56 has passed
    pub record Named : Type 0 where
      pub sound : SoundStore t
      pub some : 1 ≤ name
      pub few : name ≤ plan_count
      pub place : name - 1 < plan_count
      pub size : length t ≡ store_bytes

    pub name-told : ask_name_def t name ≡ passed tt → Named
    unfolding ask_name_def
    name-told e =
        let (u, sound, right) = then-passed (ask_store t) _ tt e in
        let r = (and-eq-true_iff (leb 1 name) (leb name plan_count)).0 (is-yes _ 56 0 right) in
        let few = leb-true name plan_count r.1 in
        record { sound = sound; some = leb-true _ _ r.0; few = few; place = omega (arith, leb-true 1 name r.0); size = (store_told sound).size }

    pub filled-asked : ask_name_def t name ≡ passed tt → {x : ℕ} → x ≡ get_or t 1 0 → (b : Bool) → member x (name - 1) ≡ b → is b 57 0 ≡ ask_filled_def t name
    filled-asked q w b e = unfold ask_filled_def ◌>>◌ in rw (q, ← w, e, lt-ltb (name - 1) plan_count (name-told q).place)

    pub record Filled : Type 0 where
      pub named : Named
      pub place : name - 1 < plan_count
      pub held : member (get_or t 1 0) (name - 1) ≡ true

    pub filled-told : ask_filled_def t name ≡ passed tt → Filled
    unfolding ask_filled_def
    filled-told e =
        let (u, named, filled) = then-passed (ask_name_def t name) _ tt e in
        let k = name-told named in
        record { named = k; place = k.place; held = ((and-eq-true_iff (ltb (name - 1) plan_count) _).0 (is-yes _ 57 0 filled)).1 }
