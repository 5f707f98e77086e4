-- An entry that passes: its name is in its slot, and everything else is unchanged.
use mathlib.Core.Path.{◌≡◌, refl, sym, ◌∙◌, ap, ap₂, subst}
use mathlib.Core.Bool.{Bool, true, false, ◌||◌, cond, and-eq-true_iff}
use mathlib.Core.List.{List, [], ◌∷◌}
use Prim.Native.Nat.{ℕ, ◌+◌, ◌*◌, ◌≤◌, ◌<◌}
use native.Mathlib.Omega.{arith}
use borrow.Author.Tests.{eqb-true, eq-eqb, lt-ltb, le-ltb}
use lib.Dec.{eqb, ltb}
use lib.ListN.{length, get_or}
use Rattle.logic.specs.Limits.{Kind, label_number, arrow_number, node_number, least_count, most_count}
use Rattle.logic.proofs.Bools.{true-false, and_left, and_right}
use Rattle.names.specs.Token.{Token, same, Found, found, absent}
use Rattle.names.specs.Names.{Entry, kind_number, is_for, given, taken, unnamed}
use Rattle.names.proofs.TokenLaws.{same_true}
use Rattle.names.proofs.NameLaws.{HasNames}
use Rattle.buffers.specs.Slots.{slot_at, put_slot_def}
use Rattle.name_table.specs.NameSlots.{name_width, name_count, slot_base, slot_count}
use Rattle.name_table.specs.Entries.{named_slots, or_nothing, given_names, Stands, Partly, well_spelled}
use Rattle.buffers.proofs.SlotLaws.{put-length, put-there, put-elsewhere, put-slots}
use Rattle.name_table.proofs.PartlyLaws.{given-names, slot-inside, spelled-some, spelled-short}

-- A slot of a name belongs to one kind and number.
abbrev kind_at : ℕ → ℕ
kind_at j = cond (ltb j 48) 0 (cond (ltb j 64) 1 2)

kind-at : (k : Kind) (x : ℕ) → HasNames k → x < slot_count k → kind_at (slot_base k + x) ≡ kind_number k
kind-at label_number x n l = ap (λ b. cond b 0 (cond (ltb (0 + x) 64) 1 2)) (lt-ltb (0 + x) 48 (omega arith))
kind-at arrow_number x n l = ap₂ (λ a b. cond a 0 (cond b 1 2)) (le-ltb (48 + x) 48 (omega arith)) (lt-ltb (48 + x) 64 (omega arith))
kind-at node_number x n l = ap₂ (λ a b. cond a 0 (cond b 1 2)) (le-ltb (64 + x) 48 (omega arith)) (le-ltb (64 + x) 64 (omega arith))
kind-at least_count x n l = absurd n
kind-at most_count x n l = absurd n

abbrev kind_from : ℕ → Kind
kind_from n = get_or (label_number ∷ arrow_number ∷ node_number ∷ least_count ∷ most_count ∷ []) n label_number

kind-from : (k : Kind) → kind_from (kind_number k) ≡ k
kind-from label_number = refl
kind-from arrow_number = refl
kind-from node_number = refl
kind-from least_count = refl
kind-from most_count = refl

same_kind : (k k' : Kind) → kind_number k ≡ kind_number k' → k ≡ k'
same_kind k k' e = sym (kind-from k) ∙ ap kind_from e ∙ kind-from k'

pub named-slot : (k : Kind) (x : ℕ) → HasNames k → x < slot_count k → slot_base k + x < named_slots
named-slot label_number x n l = omega arith
named-slot arrow_number x n l = omega arith
named-slot node_number x n l = omega arith
named-slot least_count x n l = absurd n
named-slot most_count x n l = absurd n

module _ {es : List Entry} {table : List ℕ} (p : Partly es table) (k : Kind) (n : HasNames k) (x : ℕ) (l : x < slot_count k) (u : unnamed es k x ≡ true) (t : Token) (w : well_spelled t ≡ true) where
  abbrev entry : Entry
  entry = record { kind = k; number = x; name = t }

  abbrev after : List ℕ
  after = put_slot_def name_width table (slot_base k + x) t

  room : name_width * (slot_base k + x) + name_width ≤ length table
  room = let i = slot-inside k x l in let r = p.holds.slots.room in omega arith

  there : slot_at name_width after (slot_base k + x) ≡ t
  there = put-there name_width table (slot_base k + x) t room (spelled-short t w)

  elsewhere : (j : ℕ) → (j ≡ slot_base k + x → ⊥) → j < name_count → slot_at name_width after j ≡ slot_at name_width table j
  elsewhere j d b = put-elsewhere name_width table (slot_base k + x) t room (spelled-short t w) j d (p.holds.slots.short j b)

  nothing_yet : slot_at name_width table (slot_base k + x) ≡ []
  unfolding unnamed or_nothing
  nothing_yet = p.holds.each k x l ∙ given-names es k x n ∙ go (given es k x) u
    where
      go : (f : Found Token) → elim f as (λ z. Bool) [ found t ↦ false | absent ↦ true ] ≡ true → or_nothing f ≡ []
      go (found t) e = true-false e refl
      go absent e = refl

  given-first : (k' : Kind) (y : ℕ) → is_for entry k' y ≡ true → given (entry ∷ es) k' y ≡ found t
  unfolding given
  given-first k' y e = ap (λ b. elim b as (λ z. Found Token) [ true ↦ found t | false ↦ given es k' y ]) e

  given-rest : (k' : Kind) (y : ℕ) → is_for entry k' y ≡ false → given (entry ∷ es) k' y ≡ given es k' y
  unfolding given
  given-rest k' y e = ap (λ b. elim b as (λ z. Found Token) [ true ↦ found t | false ↦ given es k' y ]) e

  each-named : (k' : Kind) → HasNames k' → (y : ℕ) → y < slot_count k' → slot_at name_width after (slot_base k' + y) ≡ given_names (entry ∷ es) k' y
  unfolding or_nothing
  each-named k' n' y b = go (is_for entry k' y) refl
    where
      same-slot : is_for entry k' y ≡ true → slot_base k' + y ≡ slot_base k + x
      same-slot e = sym (ap₂ (λ k x. slot_base k + x) (same_kind k k' (eqb-true _ _ (and_left _ _ e))) (eqb-true x y (and_right (eqb (kind_number k) (kind_number k')) (eqb x y) e)))

      other-slot : is_for entry k' y ≡ false → slot_base k' + y ≡ slot_base k + x → ⊥
      other-slot e q =
          let kinds = same_kind k k' (sym (kind-at k x n l) ∙ ap kind_at (sym q) ∙ kind-at k' y n' b) in
          let bases = ap slot_base kinds in
          let numbers : x ≡ y = omega arith in
          true-false ((and-eq-true_iff (eqb (kind_number k) (kind_number k')) (eqb x y)).1 (eq-eqb _ _ (ap kind_number kinds), eq-eqb x y numbers)) e

      go : (f : Bool) → is_for entry k' y ≡ f → slot_at name_width after (slot_base k' + y) ≡ given_names (entry ∷ es) k' y
      go true e = ap (slot_at name_width after) (same-slot e) ∙ there ∙ sym (given-names (entry ∷ es) k' y n' ∙ ap or_nothing (given-first k' y e))
      go false e =
          elsewhere (slot_base k' + y) (other-slot e) (slot-inside k' y b)
          ∙ p.holds.each k' y b ∙ given-names es k' y n' ∙ sym (given-names (entry ∷ es) k' y n' ∙ ap or_nothing (given-rest k' y e))

  each : (k' : Kind) (y : ℕ) → y < slot_count k' → slot_at name_width after (slot_base k' + y) ≡ given_names (entry ∷ es) k' y
  unfolding given_names
  each label_number y b = each-named label_number tt y b
  each arrow_number y b = each-named arrow_number tt y b
  each node_number y b = each-named node_number tt y b
  each least_count y b = elsewhere (124 + y) (λ q. let s = named-slot k x n l in omega arith) (omega arith) ∙ p.holds.each least_count y b
  each most_count y b = elsewhere (124 + y) (λ q. let s = named-slot k x n l in omega arith) (omega arith) ∙ p.holds.each most_count y b

  stands : (v : Token) → taken (entry ∷ es) v ≡ true → Stands after v
  unfolding taken
  stands v h = go (same v t) refl h
    where
      go : (b : Bool) → same v t ≡ b → (b || taken es v) ≡ true → Stands after v
      go true e h = let q = same_true v t e in record { slot = slot_base k + x; named = named-slot k x n l; there = there ∙ sym q; some_byte = subst (λ z. 0 < length z) (sym q) (spelled-some t w) }
      go false e h =
          let s = p.names v h in
          let old : s.slot ≡ slot_base k + x → ⊥ = (λ q. let z = ap length (sym s.there ∙ ap (slot_at name_width table) q ∙ nothing_yet) in let b = s.some_byte in omega arith) in
          record { slot = s.slot; named = s.named; there = elsewhere s.slot old (let m = s.named in omega arith) ∙ s.there; some_byte = s.some_byte }

  pub entered : Partly (entry ∷ es) after
  entered = record {
    size = put-length name_width table (slot_base k + x) t room (spelled-short t w) ∙ p.size;
    holds = record { slots = put-slots name_width table (slot_base k + x) t room (spelled-short t w) name_count p.holds.slots; each = each };
    names = stands;
  }
