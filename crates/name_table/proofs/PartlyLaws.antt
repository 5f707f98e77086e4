-- The slots while a table is read: which numbers and names are free, and what an entry changes.
use mathlib.Core.Path.{◌≡◌, refl, sym, ◌∙◌, ap, ap₂, subst}
use mathlib.Core.Bool.{Bool, true, false, not, ◌&&◌, ◌||◌, and-eq-true_iff}
use mathlib.Core.List.{List, [], ◌∷◌}
use Prim.Native.Nat.{ℕ, ◌+◌, ◌*◌, ◌-◌, ◌≤◌, ◌<◌}
use native.Mathlib.Nat.{zero-add}
use native.Mathlib.Omega.{arith}
use native.Mathlib.Decide.{dec_lt}
use borrow.Author.Tests.{leb-true}
use lib.Dec.{leb}
use lib.ListN.{length, get_or}
use Rattle.logic.specs.Limits.{Kind, label_number, arrow_number, node_number, least_count, most_count}
use Rattle.logic.proofs.Bools.{true-false, and_left, and_right, is_false}
use Rattle.names.specs.Token.{Token, same, Found, found, absent, first_below}
use Rattle.names.specs.Scan.{is_word_def}
use Rattle.names.specs.Names.{decimal, Entry, is_for, given, name_in, taken, unnamed, name_bytes, longest_name, notation_words, among, begins_plain_def, free_name_def, count_of}
use Rattle.names.proofs.TokenLaws.{same_true, same_refl, Hit, found-hit, none-hit, found-only, found_none}
use Rattle.names.proofs.NameLaws.{HasNames, names-one}
use Rattle.buffers.specs.Slots.{slot_at, found_option}
use Rattle.keywords.specs.Rows.{kind_of}
use Rattle.names.proofs.FirstLaws.{first-same}
use Rattle.name_table.specs.NameSlots.{name_width, name_count, slot_base, slot_count}
use Rattle.name_table.specs.Entries.{named_slots, or_nothing, given_names, Partly, free_number, slot_found, well_spelled}
use Rattle.buffers.proofs.SlotLaws.{slot-length}
use Rattle.std.specs.Prelude.{Some, None, is_none}
use Rattle.buffers.proofs.FoundLaws.{none-found, some-found}
use Rattle.name_table.proofs.NumberLaws.{bases, counts, NameItem, name-item}

or_left : (a b : Bool) → a ≡ true → (a || b) ≡ true
or_left a b e = ap (◌|| b) e

or_right : (a b : Bool) → b ≡ true → (a || b) ≡ true
or_right true b e = refl
or_right false b e = e

-- A name that is given is taken.
given-taken : (es : List Entry) (k : Kind) (x : ℕ) {t : Token} → given es k x ≡ found t → taken es t ≡ true
unfolding given taken
given-taken [] k x e = let z : ◌≡◌ {A = ℕ} 0 1 = cc in absurd (omega arith)
given-taken (n ∷ es) k x {t} e = go (is_for n k x) e (given-taken es k x)
  where
    go : (b : Bool) → elim b as (λ z. Found Token) [ true ↦ found n.name | false ↦ given es k x ] ≡ found t → (given es k x ≡ found t → taken es t ≡ true)
        → (same t n.name || taken es t) ≡ true
    go true e r = let w : n.name ≡ t = cc in or_left (same t n.name) (taken es t) (subst (λ z. same t z ≡ true) (sym w) (same_refl t))
    go false e r = or_right (same t n.name) (taken es t) (r e)

pub given-names : (es : List Entry) (k : Kind) (x : ℕ) → HasNames k → given_names es k x ≡ or_nothing (given es k x)
unfolding given_names
given-names es label_number x n = refl
given-names es arrow_number x n = refl
given-names es node_number x n = refl
given-names es least_count x n = absurd n
given-names es most_count x n = absurd n

pub slot-inside : (k : Kind) (x : ℕ) → x < slot_count k → slot_base k + x < name_count
slot-inside label_number x h = omega arith
slot-inside arrow_number x h = omega arith
slot-inside node_number x h = omega arith
slot-inside least_count x h = omega arith
slot-inside most_count x h = omega arith

pub count-is : (k : Kind) → HasNames k → count_of k ≡ slot_count k
count-is label_number n = refl
count-is arrow_number n = refl
count-is node_number n = refl
count-is least_count n = absurd n
count-is most_count n = absurd n

pub count_small : (k : Kind) → HasNames k → count_of k ≤ 60
count_small label_number n = omega arith
count_small arrow_number n = omega arith
count_small node_number n = omega arith
count_small least_count n = absurd n
count_small most_count n = absurd n

decimals-differ : (x y : ℕ) → x < 1000 → y < 1000 → decimal x ≡ decimal y → x ≡ y
unfolding name_in
decimals-differ x y a b e = names-one [] tt most_count x y a b e

module _ {es : List Entry} {table : List ℕ} (p : Partly es table) where
  -- A name that is given has at least one byte.
  pub given-some : (k : Kind) (x : ℕ) {t : Token} → given es k x ≡ found t → 0 < length t
  given-some k x e = (p.names _ (given-taken es k x e)).some_byte

  -- A slot's first byte is 0 exactly when its number has no name.
  module _ (k : Kind) (n : HasNames k) (x : ℕ) (l : x < slot_count k) where
    head-is : get_or table (name_width * (slot_base k + x)) 0 ≡ length (or_nothing (given es k x))
    head-is =
        sym (slot-length name_width table (slot_base k + x) (let i = slot-inside k x l in let r = p.holds.slots.room in omega arith) (p.holds.slots.short (slot_base k + x) (slot-inside k x l)))
        ∙ ap length (p.holds.each k x l ∙ given-names es k x n)

    head-free : get_or table (name_width * (slot_base k + x)) 0 ≡ 0 → unnamed es k x ≡ true
    unfolding unnamed or_nothing
    head-free z = go (given es k x) refl (sym head-is ∙ z)
      where
        go : (f : Found Token) → given es k x ≡ f → length (or_nothing f) ≡ 0 → elim f as (λ z. Bool) [ found t ↦ false | absent ↦ true ] ≡ true
        go (found t) q e = let s = given-some k x q in absurd (omega arith)
        go absent q e = refl

    head-named : (get_or table (name_width * (slot_base k + x)) 0 ≡ 0 → ⊥) → unnamed es k x ≡ false
    unfolding unnamed or_nothing
    head-named z = go (given es k x) (λ e. z (head-is ∙ e))
      where
        go : (f : Found Token) → (length (or_nothing f) ≡ 0 → ⊥) → elim f as (λ z. Bool) [ found t ↦ false | absent ↦ true ] ≡ false
        go (found t) e = refl
        go absent e = absurd (e refl)

  count-slot : (y : ℕ) → y < 61 → slot_at name_width table (named_slots + y) ≡ decimal y
  unfolding given_names
  count-slot y h = p.holds.each most_count y h

  -- The number that a word says, and whether it is free.
  module _ (k : Kind) (n : HasNames k) (t : Token) where
    searched : first_below (λ x. same t (slot_at name_width table (named_slots + x))) (count_of k) ≡ first_below (λ x. same t (decimal x)) (count_of k)
    searched = first-same _ _ (count_of k) (λ x l. ap (same t) (count-slot x (let s = count_small k n in omega arith)))

    no_number : first_below (λ x. same t (slot_at name_width table (named_slots + x))) (count_of k) ≡ absent → free_number es k t ≡ absent
    no_number e = found_none _ (count_of k) (λ y l h. true-false (and_left _ _ h) (none-hit _ (count_of k) (sym searched ∙ e) y l))

    module _ (x : ℕ) (e : first_below (λ x. same t (slot_at name_width table (named_slots + x))) (count_of k) ≡ found x) where
      hit : Hit (λ x. same t (decimal x)) (count_of k) x
      hit = found-hit _ (count_of k) x (sym searched ∙ e)

      pub number-below : x < count_of k
      number-below = hit.below

      only : (y : ℕ) → y < count_of k → (same t (decimal y) && unnamed es k y) ≡ true → y ≡ x
      only y l h =
          let s = count_small k n in let b = hit.below in
          decimals-differ y x (omega arith) (omega arith) (sym (same_true t (decimal y) (and_left _ _ h)) ∙ same_true t (decimal x) hit.yes_of)

      number-free : unnamed es k x ≡ true → free_number es k t ≡ found x
      number-free u = found-only _ (count_of k) x hit.below ((and-eq-true_iff (same t (decimal x)) (unnamed es k x)).1 (hit.yes_of, u)) only

      number-named : unnamed es k x ≡ false → free_number es k t ≡ absent
      number-named u = found_none _ (count_of k) (λ y l h. true-false (and_right (same t (decimal y)) (unnamed es k y) h) (ap (unnamed es k) (only y l h) ∙ u))

  module _ (item : ℕ) (low : 4 ≤ item) (high : item < 7) (t : Token) where
    i : NameItem item
    i = name-item item low high

    abbrev pub found-in : ℕ → Found ℕ
    found-in = first_below (λ x. same t (slot_at name_width table (named_slots + x)))

    pub slot-none : None ≡ found_option (found-in (get_or counts (item - 4) 0)) → None ≡ slot_found (kind_of item) (free_number es (kind_of item) t)
    slot-none e = ap (slot_found (kind_of item)) (sym (no_number (kind_of item) i.has-names t (ap found-in (sym i.count) ∙ none-found _ e)))

    module _ {x : ℕ} (e : Some x ≡ found_option (found-in (get_or counts (item - 4) 0))) where
      at : found-in (count_of (kind_of item)) ≡ found x
      at = ap found-in (sym i.count) ∙ some-found _ e

      below : x < slot_count (kind_of item)
      below = subst (λ n. x < n) (count-is (kind_of item) i.has-names) (number-below (kind_of item) i.has-names t x at)

      pub slot-named : (get_or table (name_width * (get_or bases (item - 4) 0 + x)) 0 ≡ 0 → ⊥) → None ≡ slot_found (kind_of item) (free_number es (kind_of item) t)
      slot-named z =
          ap (slot_found (kind_of item))
          (sym (number-named (kind_of item) i.has-names t x at
          (head-named (kind_of item) i.has-names x below (subst (λ b. get_or table (name_width * (b + x)) 0 ≡ 0 → ⊥) i.base z))))

      pub slot-free : get_or table (name_width * (get_or bases (item - 4) 0 + x)) 0 ≡ 0 → Some (get_or bases (item - 4) 0 + x) ≡ slot_found (kind_of item) (free_number es (kind_of item) t)
      slot-free z =
          ap (λ b. Some (b + x)) i.base
          ∙ ap (slot_found (kind_of item))
          (sym (number-free (kind_of item) i.has-names t x at (head-free (kind_of item) i.has-names x below (subst (λ b. get_or table (name_width * (b + x)) 0 ≡ 0) i.base z))))

  -- A word in a slot of names is taken.
  slot-taken : (t : Token) → 0 < length t → (j : ℕ) → j < named_slots → slot_at name_width table j ≡ t → taken es t ≡ true
  unfolding or_nothing
  slot-taken t h j l e =
      elim (dec_lt j 48) [
        | yes a ↦ at label_number tt j a (zero-add j)
        | no a ↦ elim (dec_lt j 64) [ yes b ↦ at arrow_number tt (j - 48) (omega arith) (omega arith) | no b ↦ at node_number tt (j - 64) (omega arith) (omega arith) ]
      ]
    where
      go : (k : Kind) (y : ℕ) (f : Found Token) → given es k y ≡ f → or_nothing f ≡ t → taken es t ≡ true
      go k y (found u) q r = given-taken es k y (q ∙ ap found r)
      go k y absent q r = let z = ap length r in absurd (omega arith)

      at : (k : Kind) → HasNames k → (y : ℕ) → y < slot_count k → slot_base k + y ≡ j → taken es t ≡ true
      at k n y b q = go k y (given es k y) refl (sym (p.holds.each k y b ∙ given-names es k y n) ∙ ap (slot_at name_width table) q ∙ e)

  pub taken_is : (t : Token) → 0 < length t → is_none (found_option (first_below (λ x. same t (slot_at name_width table (0 + x))) named_slots)) ≡ not (taken es t)
  taken_is t h = go (first_below (λ x. same t (slot_at name_width table (0 + x))) named_slots) refl
    where
      none : first_below (λ x. same t (slot_at name_width table (0 + x))) named_slots ≡ absent → taken es t ≡ true → ⊥
      none a e =
          let s = p.names t e in
          true-false (same_refl t) (sym (ap (same t) (ap (slot_at name_width table) (zero-add s.slot) ∙ s.there)) ∙ none-hit _ named_slots a s.slot s.named)

      some : {x : ℕ} → Hit (λ x. same t (slot_at name_width table (0 + x))) named_slots x → taken es t ≡ true
      some {x} i = slot-taken t h x i.below (sym (same_true t (slot_at name_width table (0 + x)) i.yes_of ∙ ap (slot_at name_width table) (zero-add x)))

      go : (f : Found ℕ) → first_below (λ x. same t (slot_at name_width table (0 + x))) named_slots ≡ f → is_none (found_option f) ≡ not (taken es t)
      go (found x) q = ap not (sym (some (found-hit _ named_slots x q)))
      go absent q = ap not (sym (is_false (taken es t) (none q)))

-- What a name must be, in the code's order.
grouped : (a b c d : Bool) → (a && (b && (c && d))) ≡ ((a && (b && c)) && d)
grouped true true c d = refl
grouped true false c d = refl
grouped false b c d = refl

module _ (es : List Entry) (t : Token) where
  free-is : free_name_def es t ≡ (well_spelled t && (not (among t notation_words) && (not (begins_plain_def t) && not (taken es t))))
  unfolding free_name_def well_spelled
  free-is = grouped (is_word_def t) (name_bytes t) (leb (length t) longest_name) (not (among t notation_words) && (not (begins_plain_def t) && not (taken es t)))

  pub free-unspelled : well_spelled t ≡ false → false ≡ free_name_def es t
  free-unspelled w = sym (free-is ∙ ap (◌&& (not (among t notation_words) && (not (begins_plain_def t) && not (taken es t)))) w)

  module _ (w : well_spelled t ≡ true) where
    pub free-keyword : among t notation_words ≡ true → false ≡ free_name_def es t
    free-keyword a = sym (free-is ∙ ap₂ (λ u v. u && (not v && (not (begins_plain_def t) && not (taken es t)))) w a)

    pub free-plain : among t notation_words ≡ false → begins_plain_def t ≡ true → false ≡ free_name_def es t
    free-plain a b = sym (free-is ∙ ap₂ (λ u v. u && (not v && (not (begins_plain_def t) && not (taken es t)))) w a ∙ ap (λ v. not v && not (taken es t)) b)

    pub free-else : among t notation_words ≡ false → begins_plain_def t ≡ false → not (taken es t) ≡ free_name_def es t
    free-else a b = sym (free-is ∙ ap₂ (λ u v. u && (not v && (not (begins_plain_def t) && not (taken es t)))) w a ∙ ap (λ v. not v && not (taken es t)) b)

  pub free-spelled : free_name_def es t ≡ true → well_spelled t ≡ true
  free-spelled e = and_left (well_spelled t) _ (sym free-is ∙ e)

pub spelled-some : (t : Token) → well_spelled t ≡ true → 0 < length t
unfolding well_spelled is_word_def
spelled-some [] e = true-false e refl
spelled-some (b ∷ t) e = omega arith

pub spelled-short : (t : Token) → well_spelled t ≡ true → length t < name_width
unfolding well_spelled
spelled-short t e = let z = leb-true (length t) longest_name (and_right (name_bytes t) (leb (length t) longest_name) (and_right (is_word_def t) (name_bytes t && leb (length t) longest_name) e)) in omega arith
