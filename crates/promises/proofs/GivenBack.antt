-- A return that is done gives back the sheet last kept under that name.
use mathlib.Core.Path.{◌≡◌, refl, sym, ap, ap₂, ◌∙◌, subst}
use mathlib.Core.Bool.{Bool, true, false, ◌&&◌, cond, and-eq-true_iff}
use mathlib.Core.List.{List, [], ◌∷◌}
use Prim.Native.Nat.{ℕ, ◌-◌, ◌≤◌, ◌<◌}
use native.Mathlib.Omega.{arith}
use borrow.Author.Tests.{eq-eqb, eqb-true, lt-ltb, le-leb, leb-true}
use lib.Dec.{eqb, leb}
use lib.ListN.{length}
use Rattle.answer.specs.Asked.{Asked, passed, refused, ◌>>◌, is, after}
use Rattle.logic.specs.Steps.{update}
use Rattle.sheet.specs.Sheet.{present, graph_of, store}
use Rattle.sheet.specs.Questions.{ask_sheet}
use Rattle.sheet.proofs.SoundSheets as sheets
use Rattle.plan_store.specs.Store.{plan_count, store_bytes, Plan, unfilled, filled, Plans, no_plans, is_filled, plan_bytes, store_of, plans_of, place_in, filled_in}
use Rattle.plan_store.specs.Questions.{name_right, SoundStore, ask_name_def, ask_filled_def, ask_kept, ask_blank_store, ask_keep, ask_return, ask_drop}
use Rattle.plan_store.specs.Calls.{blank_store_def, kept_store, returned_sheet, dropped_store}
use Rattle.plan_store.proofs.Asks.{Named, name-told, Filled, filled-told, store_told}
use Rattle.plan_store.proofs.StoreLaws.{opening, place-store_of, filled-store_of}
use Rattle.plan_store.proofs.StoreIsBytes.{FewNodes, store_of-small}
use Rattle.bitset.specs.Words.{Bytes}
use Rattle.logic.specs.Lists.{All}
use Rattle.promises.specs.StoreCalls.{StoreCall, blank, keep, return, drop, KeepsBytes, store_after, store_at_end, Kept, nothing, some, told, last_kept, held_in, GivesBack}
use Rattle.promises.proofs.EventBytes.{n-bytes, plans-bytes}

-- What a value holds under a name.
kept_of : Plan → Kept
kept_of unfilled = nothing
kept_of (filled g) = some (store g)

held_of : Plans → ℕ → Kept
held_of p v = cond (name_right v) (kept_of (p (v - 1))) nothing

name-place : (v : ℕ) → name_right v ≡ true → (1 ≤ v) × (v ≤ plan_count)
name-place v e = let r = (and-eq-true_iff (leb 1 v) (leb v plan_count)).0 e in (leb-true 1 v r.0, leb-true v plan_count r.1)

held-stored : (p : Plans) (v : ℕ) → held_in (store_of p) v ≡ held_of p v
unfolding plan_bytes kept_of held_of
held-stored p v = go (name_right v) refl where
  plan : (i : ℕ) → i < plan_count → (x : Plan) → p i ≡ x → cond (is_filled x) (some (place_in (store_of p) i)) nothing ≡ kept_of x
  plan i l unfilled e = refl
  plan i l (filled g) e = ap some (place-store_of p i l ∙ ap plan_bytes e)

  go : (b : Bool) → name_right v ≡ b → cond (b && filled_in (store_of p) (v - 1)) (some (place_in (store_of p) (v - 1))) nothing ≡ cond b (kept_of (p (v - 1))) nothing
  go false e = refl
  go true e =
      let r = name-place v e in
      let l : v - 1 < plan_count = omega (arith, r.0, r.1) in
      ap (λ b. cond b (some (place_in (store_of p) (v - 1))) nothing) (ap₂ ◌&&◌ (lt-ltb (v - 1) plan_count l) (filled-store_of p (v - 1) l)) ∙ plan (v - 1) l (p (v - 1)) refl

held-sound : (t : List ℕ) → Bytes t → SoundStore t → (v : ℕ) → held_in t v ≡ held_of (plans_of t) v
held-sound t small sound v = ap (λ (s : List ℕ). held_in s v) (opening t small sound).stored ∙ held-stored (plans_of t) v

-- with one plan replaced
held_update : (p : Plans) (w : ℕ) (x : Plan) (v : ℕ) → 1 ≤ w → name_right w ≡ true → held_of (update p (w - 1) x) v ≡ cond (eqb w v) (kept_of x) (held_of p v)
unfolding held_of update
held_update p w x v one named = go (eqb w v) refl (name_right v) refl (eqb (v - 1) (w - 1)) refl where
  go : (c : Bool) → eqb w v ≡ c → (b : Bool) → name_right v ≡ b → (d : Bool) → eqb (v - 1) (w - 1) ≡ d → cond b (kept_of (cond d x (p (v - 1)))) nothing ≡ cond c (kept_of x) (cond b (kept_of (p (v - 1))) nothing)
  go true e false f d g = cc (named, ap name_right (eqb-true w v e))
  go true e true f true g = refl
  go true e true f false g = let q : v - 1 ≡ w - 1 = ap (◌- 1) (sym (eqb-true w v e)) in cc (eq-eqb (v - 1) (w - 1) q)
  go false e false f d g = refl
  go false e true f false g = refl
  go false e true f true g =
      let r = name-place v f in
      let q : w ≡ v = omega (arith, eqb-true (v - 1) (w - 1) g, r.0) in
      cc (eq-eqb w v q)

named-right : (t : List ℕ) (w : ℕ) → Named t w → name_right w ≡ true
named-right t w k = ap₂ ◌&&◌ (le-leb 1 w k.some) (le-leb w plan_count k.few)

either_way : {A : Type 0} (b : Bool) (x : A) → x ≡ cond b x x
either_way true x = refl
either_way false x = refl

held-blank : (v : ℕ) → held_in (store_of no_plans) v ≡ nothing
held-blank v = unfold held_of kept_of in held-stored no_plans v ∙ sym (either_way (name_right v) nothing)

-- What is known about a store that is sound: it is bytes, and holds what was last kept. From one that is not sound, no return is done.
record Holds (v : ℕ) (k : Kept) (t : List ℕ) : Type 0 where
  bytes : Bytes t
  held : k ≡ held_in t v

abbrev Agrees : ℕ → Kept → List ℕ → Type 0
Agrees v k t = SoundStore t → Holds v k t

-- one more call
module _ (v : ℕ) (k : Kept) (t : List ℕ) (h : Agrees v k t) where
  stays : (b : Bool) → Agrees v (cond b k k) t
  stays b = subst (λ (j : Kept). Agrees v j t) (either_way b k) h

  -- one plan replaced
  replaced : (w : ℕ) (x : Plan) (j : Kept) → Named t w → FewNodes x → j ≡ kept_of x → Holds v (cond (eqb w v) j k) (store_of (update (plans_of t) (w - 1) x))
  replaced w x j n few e =
      let o = h n.sound in
      record {
        bytes = plans-bytes t (w - 1) x o.bytes few;
        held = ap₂ (cond (eqb w v)) e (o.held ∙ held-sound t o.bytes n.sound v) ∙ sym (held-stored (update (plans_of t) (w - 1) x) v ∙ held_update (plans_of t) w x v n.some (named-right t w n));
      }

  agrees-next : (c : StoreCall) → KeepsBytes c → Agrees v (told v k t c) (store_after t c)
  unfolding blank_store_def kept_store dropped_store after kept_of ask_keep
  agrees-next blank b = go (ask_blank_store (length t)) where
    go : (q : Asked (Unit {0})) → Agrees v (after q (λ u. nothing) k) (after q (λ u. store_of no_plans) t)
    go (refused n p) = h
    go (passed u) = λ s. record { bytes = store_of-small no_plans (λ i. tt); held = sym (held-blank v) }
  agrees-next (keep sheet w) b = go (ask_keep sheet t w) refl where
    go : (q : Asked (Unit {0})) → ask_keep sheet t w ≡ q
        → Agrees v (cond (eqb w v) (after q (λ u. some sheet) k) k) (after q (λ u. store_of (update (plans_of t) (w - 1) (filled (graph_of sheet)))) t)
    go (refused n p) e = stays (eqb w v)
    go (passed u) e =
        let both = sheets.both_yes (ask_sheet sheet) (ask_name_def t w) e in
        λ s. replaced w (filled (graph_of sheet)) (some sheet) (name-told t w both.1) (n-bytes sheet b) (ap some (sheets.sound-is-stored present sheet b both.0).stored)
  agrees-next (return sheet w book) b = h
  agrees-next (drop w) b = go (ask_drop t w) refl where
    go : (q : Asked (Unit {0})) → ask_drop t w ≡ q → Agrees v (cond (eqb w v) (after q (λ u. nothing) k) k) (after q (λ u. store_of (update (plans_of t) (w - 1) unfilled)) t)
    go (refused n p) e = stays (eqb w v)
    go (passed u) e = λ s. replaced w unfilled nothing (filled-told t w e).named tt refl

-- all of them
agrees-last : (v : ℕ) (k : Kept) (t : List ℕ) → Agrees v k t → (calls : List StoreCall) → All KeepsBytes calls → Agrees v (last_kept v k t calls) (store_at_end t calls)
unfolding last_kept store_at_end
agrees-last v k t h [] b = h
agrees-last v k t h (c ∷ cs) b = agrees-last v (told v k t c) (store_after t c) (agrees-next v k t h c b.0) cs b.1

-- a return that is done
module _ (sheet t book : List ℕ) (v : ℕ) (e : ask_return sheet t v book ≡ passed tt) where
  pub return-told : Filled t v × (ask_kept (place_in t (v - 1)) book ≡ passed tt)
  unfolding ask_return
  return-told =
      let last = sheets.both_yes (ask_filled_def t v) (ask_kept (place_in t (v - 1)) book) (sheets.both_yes (ask_sheet sheet) (ask_filled_def t v >> ask_kept (place_in t (v - 1)) book) e).1 in
      (filled-told t v last.0, last.1)

  pub is-returned : returned_sheet sheet t v book ≡ place_in t (v - 1)
  is-returned = unfold returned_sheet after in cc

  returned : held_in t v ≡ some (returned_sheet sheet t v book)
  returned =
      let k = return-told.0 in
      ap (λ b. cond b (some (place_in t (v - 1))) nothing) (ap₂ ◌&&◌ (named-right t v k.named) (ap₂ ◌&&◌ (lt-ltb (v - 1) plan_count k.place) k.held))
      ∙ ap some (sym is-returned)

back : (v : ℕ) (k : Kept) (t : List ℕ) → Agrees v k t → (calls : List StoreCall) → All KeepsBytes calls → GivesBack k t calls v
back v k t h calls b sheet book e =
    let end = store_at_end t calls in
    (agrees-last v k t h calls b (return-told sheet end book v e).0.named.sound).held ∙ returned sheet end book v e

-- From any store.
pub gives_back_from : (t : List ℕ) → Bytes t → (calls : List StoreCall) → All KeepsBytes calls → (name : ℕ) → GivesBack (held_in t name) t calls name
gives_back_from t bytes calls b name = back name (held_in t name) t (λ s. record { bytes = bytes; held = refl }) calls b

-- From any buffer made blank: a blank that is refused leaves no sound store.
begun : (v : ℕ) (buffer : List ℕ) → Agrees v (told v nothing buffer blank) (blank_store_def buffer)
unfolding blank_store_def ask_blank_store after is
begun v buffer = go (eqb (length buffer) store_bytes) refl where
  go : (q : Bool) → eqb (length buffer) store_bytes ≡ q → Agrees v (after (is q 55 0) (λ u. nothing) nothing) (after (is q 55 0) (λ u. store_of no_plans) buffer)
  go true e = λ s. record { bytes = store_of-small no_plans (λ i. tt); held = sym (held-blank v) }
  go false e = λ s. let z : ◌≡◌ {A = ℕ} 0 1 = cc (sym e ∙ eq-eqb _ _ (store_told buffer s).size) in absurd (omega arith)

pub gives_back : (buffer : List ℕ) (calls : List StoreCall) → All KeepsBytes calls → (name : ℕ) → GivesBack nothing buffer (blank ∷ calls) name
gives_back buffer calls b name = unfold last_kept store_at_end in back name (told name nothing buffer blank) (blank_store_def buffer) (begun name buffer) calls b
