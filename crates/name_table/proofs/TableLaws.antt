-- A table's slots before its first entry, and once its plain names are in.
use mathlib.Core.Path.{◌≡◌, refl, ◌∙◌, ap}
use mathlib.Core.List.{List, []}
use Prim.Native.Nat.{ℕ, ◌+◌, ◌*◌, ◌≤◌, ◌<◌}
use native.Mathlib.Omega.{arith}
use lib.ListN.{length, get_or, take, drop, replicate, length-replicate, get_or-replicate}
use Rattle.answer.specs.Asked.{Asked, passed, refused, outcome}
use Rattle.logic.specs.Limits.{Kind, label_number, arrow_number, node_number, least_count, most_count}
use Rattle.logic.proofs.Bools.{true-false}
use Rattle.names.specs.Token.{Token, Found, found, absent, ascii}
use Rattle.names.specs.Names.{decimal, plain, Entry, given, given_or_plain, name_in, taken}
use Rattle.names.proofs.NameLaws.{HasNames}
use Rattle.buffers.specs.Slots.{Slots, slot_at}
use Rattle.name_table.specs.NameSlots.{name_width, name_count, table_bytes, slot_base, slot_count, Holds, Held}
use Rattle.name_table.specs.Entries.{named_slots, or_nothing, given_names, Partly, or_else, Filled, Read}
use Rattle.name_table.proofs.PlainLaws.{or_else_some}
use Rattle.name_table.proofs.PartlyLaws.{given-some, given-names}

-- Slots of zeros are empty.
module _ (n : ℕ) {table : List ℕ} (e : table ≡ replicate n 0) (room : name_width * name_count ≤ n) where
  zero-head : (i : ℕ) → i < name_count → get_or table (name_width * i) 0 ≡ 0
  zero-head i l = ap (λ t. get_or t (name_width * i) 0) e ∙ get_or-replicate n (name_width * i) 0 0 (omega arith)

  pub zero-slots : Slots name_width name_count table
  zero-slots = record { room = omega (arith, ap length e ∙ length-replicate n 0); short = λ i l. let z = zero-head i l in omega arith }

  zero_word : (i : ℕ) → i < name_count → slot_at name_width table i ≡ []
  unfolding slot_at
  zero_word i l = ap (λ m. take m (drop (name_width * i + 1) table)) (zero-head i l)

  -- With the counts filled in, no name is given yet.
  module _ {after : List ℕ} (f : Filled named_slots 61 [] table after) where
    counted : (x : ℕ) → x < 61 → slot_at name_width after (named_slots + x) ≡ decimal x
    unfolding or_else
    counted x l = f.filled x l ∙ ap (λ t. or_else t (decimal x)) (zero_word (named_slots + x) (omega arith))

    nothing : (i : ℕ) → i < named_slots → slot_at name_width after i ≡ []
    nothing i l = f.below i l ∙ zero_word i (omega arith)

    none-given : (k : Kind) (x : ℕ) → x < slot_count k → slot_at name_width after (slot_base k + x) ≡ given_names [] k x
    unfolding given_names given or_nothing
    none-given label_number x l = nothing (0 + x) (omega arith)
    none-given arrow_number x l = nothing (48 + x) (omega arith)
    none-given node_number x l = nothing (64 + x) (omega arith)
    none-given least_count x l = counted x l
    none-given most_count x l = counted x l

    pub begun : n ≡ table_bytes → Partly [] after
    unfolding taken
    begun s = record { size = f.size ∙ ap length e ∙ length-replicate n 0 ∙ s; holds = record { slots = f.slots; each = none-given }; names = λ t h. true-false h refl }

-- With the plain names filled in, the slots hold the table's naming.
module _ {es : List Entry} {t u v w : List ℕ} (p : Partly es t) (labels : Filled 0 48 (ascii "label:") t u) (arrows : Filled 48 16 (ascii "arrow:") u v)
    (nodes : Filled 64 60 (ascii "node:") v w) where
  or-plain : (k : Kind) (x : ℕ) → or_else (or_nothing (given es k x)) (plain k x) ≡ given_or_plain es k x
  unfolding or_else or_nothing given_or_plain
  or-plain k x = go (given es k x) refl
    where
      go : (f : Found Token) → given es k x ≡ f → or_else (or_nothing f) (plain k x) ≡ elim f as (λ z. Token) [ found t ↦ t | absent ↦ plain k x ]
      go (found t) q = or_else_some t (plain k x) (given-some p k x q)
      go absent q = refl

  -- A slot that was filled, compared with what it was before.
  named : (k : Kind) → HasNames k → (x : ℕ) → x < slot_count k → {word : Token} → word ≡ slot_at name_width t (slot_base k + x) → or_else word (plain k x) ≡ given_or_plain es k x
  named k n x l e = ap (λ z. or_else z (plain k x)) (e ∙ p.holds.each k x l ∙ given-names es k x n) ∙ or-plain k x

  count : (x : ℕ) → x < 61 → slot_at name_width w (named_slots + x) ≡ slot_at name_width t (named_slots + x)
  count x l = nodes.above (named_slots + x) (omega arith) (omega arith) ∙ arrows.above (named_slots + x) (omega arith) (omega arith) ∙ labels.above (named_slots + x) (omega arith) (omega arith)

  each : (k : Kind) (x : ℕ) → x < slot_count k → slot_at name_width w (slot_base k + x) ≡ name_in es k x
  unfolding name_in plain given_names
  each label_number x l = nodes.below (0 + x) (omega arith) ∙ arrows.below (0 + x) (omega arith) ∙ labels.filled x l ∙ named label_number tt x l refl
  each arrow_number x l = nodes.below (48 + x) (omega arith) ∙ arrows.filled x l ∙ named arrow_number tt x l (labels.above (48 + x) (omega arith) (omega arith))
  each node_number x l = nodes.filled x l ∙ named node_number tt x l (arrows.above (64 + x) (omega arith) (omega arith) ∙ labels.above (64 + x) (omega arith) (omega arith))
  each least_count x l = count x l ∙ p.holds.each least_count x l
  each most_count x l = count x l ∙ p.holds.each most_count x l

  pub all_named : Holds w (name_in es)
  all_named = record { slots = nodes.slots; each = each }

-- What is held, by the answer.
pub held-refused : (a : Asked (List Entry)) (table : List ℕ) {q p : ℕ} → refused q p ≡ outcome a → length table ≡ table_bytes → Held a table
unfolding outcome Held
held-refused (passed es) table e l = let z : ◌≡◌ {A = ℕ} 0 1 = cc in absurd (omega arith)
held-refused (refused q p) table e l = l

pub read-slots : (a : Asked (List Entry)) {table : List ℕ} → passed tt ≡ outcome a → Read a table → Slots name_width name_count table
unfolding outcome
read-slots (passed es) e p = p.holds.slots
read-slots (refused q p) e r = let z : ◌≡◌ {A = ℕ} 0 1 = cc in absurd (omega arith)

pub held-done : (a : Asked (List Entry)) {t u v w : List ℕ} → passed tt ≡ outcome a → Read a t
    → Filled 0 48 (ascii "label:") t u → Filled 48 16 (ascii "arrow:") u v → Filled 64 60 (ascii "node:") v w → Held a w
unfolding outcome Held
held-done (passed es) e p labels arrows nodes = all_named p labels arrows nodes
held-done (refused q p) e r labels arrows nodes = let z : ◌≡◌ {A = ℕ} 0 1 = cc in absurd (omega arith)
