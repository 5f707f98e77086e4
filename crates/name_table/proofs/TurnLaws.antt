-- One entry of a table, read from the text: three tokens, or the first that is wrong.
use mathlib.Core.Path.{◌≡◌, refl, sym, ◌∙◌, ap, subst}
use mathlib.Core.Bool.{true, false, ◌&&◌}
use mathlib.Core.List.{List, [], ◌∷◌}
use Prim.Native.Nat.{ℕ, ◌+◌, ◌-◌, ◌≤◌, ◌<◌}
use native.Mathlib.Omega.{arith}
use native.Mathlib.Decide.{dec_lt}
use lib.ListN.{length, take, drop_of_length-le}
use lib.Seq.{take-nil}
use Rattle.answer.specs.Asked.{passed, refused}
use Rattle.decimal.proofs.DigitLaws.{digits-length}
use Rattle.logic.specs.Limits.{Kind}
use Rattle.logic.proofs.Bools.{true-false, and_left, and_right}
use Rattle.std.specs.Prelude.{Some, None}
use Rattle.names.specs.Token.{Token, same, Found, found, absent}
use Rattle.names.specs.Scan.{Placed, is_word_def}
use Rattle.names.specs.Scanned.{slice, tokens_from, Next}
use Rattle.names.specs.Names.{width, decimal, Entry, unnamed, free_name_def, count_of, ask_entries}
use Rattle.names.proofs.TokenLaws.{same_true, Hit, found-hit}
use Rattle.names.proofs.NameLaws.{HasNames}
use Rattle.buffers.specs.Slots.{put_slot_def}
use Rattle.keywords.specs.Rows.{kind_of}
use Rattle.name_table.specs.NameSlots.{name_width, slot_base, slot_count}
use Rattle.name_table.specs.Entries.{named_slots, Partly, free_number, slot_found, item_of, Entered}
use Rattle.name_table.proofs.PlainLaws.{width_small}
use Rattle.name_table.proofs.NumberLaws.{name-item}
use Rattle.name_table.proofs.PartlyLaws.{count-is, count_small, free-spelled, spelled-short}
use Rattle.name_table.proofs.EntryLaws.{ItemWord, item-word, item-absent, ask-kind-wrong, ask-number-missing, ask-number-wrong, ask-name-missing, ask-name-wrong, ask-name-right}
use Rattle.name_table.proofs.EnterLaws.{named-slot, entered}

abbrev at_place : List ℕ → ℕ → ℕ → Placed
at_place text from to = record { place = from; token = slice text from to }

-- At the text's end there is no byte.
no_byte : (text : List ℕ) (from to : ℕ) → length text ≤ from → slice text from to ≡ []
no_byte text from to h = ap (take (to - from)) (drop_of_length-le text h) ∙ take-nil (to - from)

-- The tokens from a place on, if one begins there, and at the text's end.
module _ {text : List ℕ} {at from to : ℕ} (n : Next text at from to) where
  token-there : {ts : List Placed} → tokens_from text to ≡ ts → from < length text → tokens_from text at ≡ at_place text from to ∷ ts
  token-there e h = n.there h ∙ ap (at_place text from to ∷◌) e

  at-end : (from < length text → ⊥) → from ≡ length text
  at-end h = let a = n.in_order in let b = n.inside in omega arith

  token-missing : (from < length text → ⊥) → tokens_from text at ≡ []
  token-missing h = n.ended (at-end h)

pub none_free : (es : List Entry) (k : Kind) (t : Token) → None ≡ slot_found k (free_number es k t) → free_number es k t ≡ absent
none_free es k t e = go (free_number es k t) e
  where
    go : (f : Found ℕ) → None ≡ slot_found k f → f ≡ absent
    go (found x) r = absurd cc
    go absent r = refl

-- The number of a slot that was found.
module _ (es : List Entry) (k : Kind) (n : HasNames k) (t : Token) {slot : ℕ} (e : Some slot ≡ slot_found k (free_number es k t)) where
  pub record Free : Type 0 where
    pub number : ℕ
    pub is : free_number es k t ≡ found number
    pub at : slot ≡ slot_base k + number

  pub some-free : Free
  some-free = go (free_number es k t) refl e
    where
      go : (f : Found ℕ) → free_number es k t ≡ f → Some slot ≡ slot_found k f → Free
      go (found x) q r = record { number = x; is = q; at = cc }
      go absent q r = absurd cc

  module _ (f : Free) where
    hit : Hit (λ x. same t (decimal x) && unnamed es k x) (count_of k) f.number
    hit = found-hit _ (count_of k) f.number f.is

    below : f.number < slot_count k
    below = subst (λ m. f.number < m) (count-is k n) hit.below

    not_named : unnamed es k f.number ≡ true
    not_named = and_right (same t (decimal f.number)) (unnamed es k f.number) hit.yes_of

    pub slot-named : slot < named_slots
    slot-named = subst (λ j. j < named_slots) (sym f.at) (named-slot k f.number n below)

    -- A number is not an empty word.
    some_byte : t ≡ [] → ⊥
    some_byte z =
        let s = width_small f.number (let c = count_small k n in let b = hit.below in omega arith) in
        let q = ap length (sym z ∙ same_true t (decimal f.number) (and_left _ _ hit.yes_of)) in
        omega (arith, digits-length (width f.number) f.number)

-- What the last token of an entry decides.
pub record NameTurn (text : List ℕ) (at : ℕ) (es : List Entry) (slot from to : ℕ) : Type 0 where
  pub inside : slot < named_slots
  pub wrong : free_name_def es (slice text from to) ≡ false → ask_entries (length text) (tokens_from text at) es ≡ refused 63 from
  pub short : free_name_def es (slice text from to) ≡ true → length (slice text from to) < name_width
  pub next : free_name_def es (slice text from to) ≡ true → (table after : List ℕ) → Partly es table → after ≡ put_slot_def name_width table slot (slice text from to) → Entered text at to es after

-- The turns.
module _ {text : List ℕ} {at a b : ℕ} (sort : Next text at a b) (es : List Entry) where
  pub turn_end : length text ≤ a → ask_entries (length text) (tokens_from text at) es ≡ passed es
  unfolding ask_entries
  turn_end h = ap (λ ts. ask_entries (length text) ts es) (token-missing sort (λ l. omega arith))

  module _ (h : a < length text) where
    pub turn-kind : None ≡ item_of (slice text a b) → ask_entries (length text) (tokens_from text at) es ≡ refused 63 a
    turn-kind i = ap (λ ts. ask_entries (length text) ts es) (sort.there h) ∙ ask-kind-wrong (length text) es (at_place text a b) _ (item-absent _ i)

    module _ {item : ℕ} (i : Some item ≡ item_of (slice text a b)) {c d : ℕ} (number : Next text b c d) where
      w : ItemWord (slice text a b) item
      w = item-word (slice text a b) i

      n : HasNames (kind_of item)
      n = (name-item item w.low w.high).has-names

      pub turn-number : None ≡ slot_found (kind_of item) (free_number es (kind_of item) (slice text c d)) → ask_entries (length text) (tokens_from text at) es ≡ refused 63 c
      turn-number e =
          elim (dec_lt c (length text)) [
            | yes l ↦ ap (λ ts. ask_entries (length text) ts es) (token-there sort (number.there l) h)
                ∙ ask-number-wrong (length text) es (at_place text a b) w.kind (at_place text c d) _ (none_free es (kind_of item) (slice text c d) e)
            | no l ↦ ap (λ ts. ask_entries (length text) ts es) (token-there sort (token-missing number l) h)
                ∙ ask-number-missing (length text) es (at_place text a b) w.kind ∙ ap (refused 63) (sym (at-end number l))
          ]

      module _ {slot : ℕ} (f : Some slot ≡ slot_found (kind_of item) (free_number es (kind_of item) (slice text c d))) {from to : ℕ} (name : Next text d from to) where
        free : Free es (kind_of item) n (slice text c d) f
        free = some-free es (kind_of item) n (slice text c d) f

        number-there : c < length text
        number-there = elim (dec_lt c (length text)) [ yes l ↦ l | no l ↦ absurd (some_byte es (kind_of item) n (slice text c d) f free (no_byte text c d (omega arith))) ]

        wrong : free_name_def es (slice text from to) ≡ false → ask_entries (length text) (tokens_from text at) es ≡ refused 63 from
        wrong g =
            elim (dec_lt from (length text)) [
              | yes l ↦ ap (λ ts. ask_entries (length text) ts es) (token-there sort (token-there number (name.there l) number-there) h)
                  ∙ ask-name-wrong (length text) es (at_place text a b) w.kind (at_place text c d) free.is (at_place text from to) _ g
              | no l ↦ ap (λ ts. ask_entries (length text) ts es) (token-there sort (token-there number (token-missing name l) number-there) h)
                  ∙ ask-name-missing (length text) es (at_place text a b) w.kind (at_place text c d) free.is ∙ ap (refused 63) (sym (at-end name l))
            ]

        module _ (g : free_name_def es (slice text from to) ≡ true) where
          name-there : from < length text
          unfolding free_name_def is_word_def
          name-there = elim (dec_lt from (length text)) [ yes l ↦ l | no l ↦ true-false (sym (ap (free_name_def es) (no_byte text from to (omega arith))) ∙ g) refl ]

          next : (table after : List ℕ) → Partly es table → after ≡ put_slot_def name_width table slot (slice text from to) → Entered text at to es after
          next table after p q = record {
            entry = record { kind = kind_of item; number = free.number; name = slice text from to };
            reads =
                ap (λ ts. ask_entries (length text) ts es) (token-there sort (token-there number (name.there name-there) number-there) h)
                ∙ ask-name-right (length text) es (at_place text a b) w.kind (at_place text c d) free.is (at_place text from to) _ g;
            partly =
                subst (Partly _) (sym (q ∙ ap (λ j. put_slot_def name_width table j (slice text from to)) free.at))
                (entered p (kind_of item) n free.number (below es (kind_of item) n (slice text c d) f free) (not_named es (kind_of item) n (slice text c d) f free)
                (slice text from to) (free-spelled es _ g));
            on = let a1 = sort.on in let a2 = sort.forward h in let a3 = number.on in let a4 = number.in_order in let a5 = name.on in let a6 = name.in_order in omega arith;
            inside = name.inside;
          }

        pub turn-name : NameTurn text at es slot from to
        turn-name = record { inside = slot-named es (kind_of item) n (slice text c d) f free; wrong = wrong; short = λ g. spelled-short _ (free-spelled es _ g); next = next }
