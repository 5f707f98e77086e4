-- A plain name, made from its beginning and its number; and filling slots with plain names.
use mathlib.Core.Path.{◌≡◌, refl, sym, ◌∙◌, ap, ap₂, subst}
use mathlib.Core.Bool.{Bool, true, false, cond}
use mathlib.Core.List.{List, [], ◌∷◌, ◌++◌, append_assoc}
use Prim.Native.Nat.{ℕ, ◌+◌, ◌*◌, ◌-◌, ◌≤◌, ◌<◌}
use native.Mathlib.Omega.{arith}
use native.Mathlib.Decide.{dec_lt}
use borrow.Author.Tests.{ltb-false}
use borrow.Rule.Slice.PartMut.{put_mid, post_of}
use lib.Dec.{ltb}
use lib.ListN.{length, get_or, take, drop, length-append, length-take, length-drop}
use lib.Seq.{take-length, take_at, length-take-le}
use Rattle.decimal.specs.Digits.{digits}
use Rattle.decimal.proofs.DigitLaws.{digits-length}
use Rattle.names.specs.Token.{Token}
use Rattle.names.specs.Names.{width, decimal}
use Rattle.buffers.specs.Slots.{Slots, slot_at, put_slot_def}
use Rattle.name_table.specs.NameSlots.{name_width, name_count}
use Rattle.name_table.specs.Entries.{or_else, Filled}
use Rattle.buffers.proofs.SlotLaws.{slot-length, put-length, put-there, put-elsewhere, put-slots}

pub width_small : (x : ℕ) → x < 100 → (0 < width x) × (width x ≤ 2)
unfolding width
width_small x h = go (ltb x 10) (ltb x 100) (ltb-false x 100)
  where
    go : (a b : Bool) → (b ≡ false → 100 ≤ x) → (0 < cond a 1 (cond b 2 3)) × (cond a 1 (cond b 2 3) ≤ 2)
    go true b f = (omega arith, omega arith)
    go false true f = (omega arith, omega arith)
    go false false f = let z = f refl in absurd (omega arith)

pub plain-short : (start : Token) (x : ℕ) → length start ≤ 6 → x < 100 → length (start ++ decimal x) < 9
plain-short start x s h = omega (arith, length-append start (decimal x), digits-length (width x) x, width_small x h)

-- A buffer that holds a plain name up to a place.
pub record Named (start : Token) (x to : ℕ) (buffer : List ℕ) : Type 0 where
  pub name : take to buffer ≡ start ++ decimal x
  pub inside : to ≤ length buffer

-- The number's digits, written after the beginning in a buffer of eight bytes.
module _ (start : Token) (x w : ℕ) (blank copied last : List ℕ) (eight : length blank ≡ 8) (s : length start ≤ 6) (h : x < 100) (wide : w ≡ width x)
    (c : copied ≡ take (length start) start ++ drop (length start) blank) (d : last ≡ digits (length (take (length start + w - length start) (drop (length start) copied))) x) where
  copied_is : copied ≡ start ++ drop (length start) blank
  copied_is = c ∙ ap (◌++ drop (length start) blank) (take-length start)

  copied-length : length copied ≡ 8
  copied-length = ap length copied_is ∙ length-append start (drop (length start) blank) ∙ omega (arith, length-drop (length start) blank)

  small : (0 < w) × (w ≤ 2)
  small = subst (λ n. (0 < n) × (n ≤ 2)) (sym wide) (width_small x h)

  last-is : last ≡ decimal x
  last-is = d ∙ ap (λ n. digits n x) (part_length ∙ wide)
    where
      part_length : length (take (length start + w - length start) (drop (length start) copied)) ≡ w
      part_length = length-take (length start + w - length start) (drop (length start) copied) ∙ omega (arith, length-drop (length start) copied, copied-length, small)

  last-length : length last ≡ w
  last-length = ap length last-is ∙ digits-length (width x) x ∙ sym wide

  front_length : length (take (length start) copied) ≡ length start
  front_length = length-take-le (length start) copied (omega (arith, copied-length))

  both-length : length (take (length start) copied ++ last) ≡ length start + w
  both-length = length-append (take (length start) copied) last ∙ omega (arith, front_length, last-length)

  pub written : Named start x (length start + w) (put_mid (length start) (length start + w - length start) copied last)
  written = record {
    name =
        ap (take (length start + w)) (sym (append_assoc (take (length start) copied) last (post_of (length start) (length start + w - length start) copied)))
        ∙ take_at (take (length start) copied ++ last) _ (length start + w) both-length
        ∙ ap₂ ◌++◌ (ap (take (length start)) copied_is ∙ take_at start (drop (length start) blank) (length start) refl) last-is;
    inside =
        omega (
          arith,
          both-length,
          ap length (sym (append_assoc (take (length start) copied) last (post_of (length start) (length start + w - length start) copied))),
          length-append (take (length start) copied ++ last) (post_of (length start) (length start + w - length start) copied),
        );
  }

-- Slots filled one after the other.
pub filled_none : (base : ℕ) (start : Token) (table : List ℕ) → Slots name_width name_count table → Filled base 0 start table table
filled_none base start table s = record { size = refl; slots = s; filled = λ x l. absurd (omega arith); below = λ i l. refl; above = λ i l m. refl }

pub filled-all : {base x count : ℕ} {start : Token} {before table : List ℕ} → x ≡ count → Filled base x start before table → Filled base count start before table
filled-all {base} {x} {count} {start} {before} {table} e f = subst (λ n. Filled base n start before table) e f

pub or_else_some : (t u : Token) → 0 < length t → or_else t u ≡ t
unfolding or_else
or_else_some [] u h = absurd (omega arith)
or_else_some (b ∷ t) u h = refl

pub or_else_none : (t u : Token) → length t ≡ 0 → or_else t u ≡ u
unfolding or_else
or_else_none [] u h = refl
or_else_none (b ∷ t) u h = absurd (omega arith)

module _ {base x : ℕ} {start : Token} {before table : List ℕ} (f : Filled base x start before table) (inside : base + x < name_count) where
  head-length : length (slot_at name_width table (base + x)) ≡ get_or table (name_width * (base + x)) 0
  head-length = slot-length name_width table (base + x) (let r = f.slots.room in omega arith) (f.slots.short (base + x) inside)

  same-yet : slot_at name_width table (base + x) ≡ slot_at name_width before (base + x)
  same-yet = f.above (base + x) (omega arith) inside

  -- A slot that holds a name keeps it.
  pub filled-kept : (get_or table (name_width * (base + x)) 0 ≡ 0 → ⊥) → Filled base (x + 1) start before table
  filled-kept n = record { size = f.size; slots = f.slots; filled = filled; below = f.below; above = λ i l m. f.above i (omega arith) m }
    where
      filled : (y : ℕ) → y < x + 1 → slot_at name_width table (base + y) ≡ or_else (slot_at name_width before (base + y)) (start ++ decimal y)
      filled y l =
          elim (dec_lt y x) [
            | yes k ↦ f.filled y k
            | no k ↦ let e : x ≡ y = omega arith in
                subst (λ y. slot_at name_width table (base + y) ≡ or_else (slot_at name_width before (base + y)) (start ++ decimal y)) e
                (same-yet ∙ sym (or_else_some _ _ (let z = ap length same-yet in omega (arith, head-length))))
          ]

  -- One that holds none gets its plain name.
  pub filled_more : {after : List ℕ} → get_or table (name_width * (base + x)) 0 ≡ 0 → length (start ++ decimal x) < name_width → after ≡ put_slot_def name_width table (base + x) (start ++ decimal x)
      → Filled base (x + 1) start before after
  filled_more {after} z short e = subst (Filled base (x + 1) start before) (sym e) put
    where
      room : name_width * (base + x) + name_width ≤ length table
      room = let r = f.slots.room in omega arith

      elsewhere : (j : ℕ) → (j ≡ base + x → ⊥) → j < name_count → slot_at name_width (put_slot_def name_width table (base + x) (start ++ decimal x)) j ≡ slot_at name_width table j
      elsewhere j n l = put-elsewhere name_width table (base + x) (start ++ decimal x) room short j n (f.slots.short j l)

      filled : (y : ℕ) → y < x + 1 → slot_at name_width (put_slot_def name_width table (base + x) (start ++ decimal x)) (base + y) ≡ or_else (slot_at name_width before (base + y)) (start ++ decimal y)
      filled y l =
          elim (dec_lt y x) [
            | yes k ↦ elsewhere (base + y) (λ q. omega arith) (omega arith) ∙ f.filled y k
            | no k ↦ let q : x ≡ y = omega arith in
                subst (λ y. slot_at name_width (put_slot_def name_width table (base + x) (start ++ decimal x)) (base + y) ≡ or_else (slot_at name_width before (base + y)) (start ++ decimal y)) q
                (put-there name_width table (base + x) (start ++ decimal x) room short
                ∙ sym (or_else_none _ _ (let v = ap length same-yet in omega (arith, head-length))))
          ]

      put : Filled base (x + 1) start before (put_slot_def name_width table (base + x) (start ++ decimal x))
      put = record {
        size = put-length name_width table (base + x) (start ++ decimal x) room short ∙ f.size;
        slots = put-slots name_width table (base + x) (start ++ decimal x) room short name_count f.slots;
        filled = filled;
        below = λ i l. elsewhere i (λ q. omega arith) (omega arith) ∙ f.below i l;
        above = λ i l m. elsewhere i (λ q. omega arith) m ∙ f.above i (omega arith) m;
      }
