-- The search for a name among the slots of its kind is the definition's search.
use mathlib.Core.Path.{◌≡◌, refl, sym, ◌∙◌, ap, ap₂, subst}
use mathlib.Core.Bool.{true, false, ◌&&◌}
use mathlib.Core.List.{List, [], ◌∷◌}
use Prim.Native.Nat.{ℕ, ◌+◌, ◌-◌, ◌≤◌, ◌<◌}
use native.Mathlib.Omega.{arith}
use native.Mathlib.Decide.{dec_lt}
use borrow.Author.Tests.{lt-ltb, le-ltb, le-leb, lt-leb, ltb-true, leb-true}
use lib.Dec.{T, leb}
use lib.ListN.{get_or}
use Rattle.logic.specs.Limits.{Kind, label_number, arrow_number, node_number, least_count, most_count, ranges, max_nodes, fits}
use Rattle.logic.proofs.Bools.{is_true, both_so}
use Rattle.names.specs.Token.{Token, same, Found, first_below}
use Rattle.names.specs.Names.{Naming, count_of}
use Rattle.names.proofs.NameLaws.{HasNames}
use Rattle.notation.specs.Parse.{number_of}
use Rattle.notation.specs.Words.{word_limits}
use Rattle.buffers.specs.Slots.{slot_at, found_option}
use Rattle.keywords.specs.Rows.{kind_of}
use Rattle.name_table.specs.NameSlots.{name_width, name_count, slot_base, slot_count, Holds}
use Rattle.names.proofs.FirstLaws.{further, search-range}
use Rattle.std.specs.Prelude.{Some, None}
use Rattle.buffers.proofs.FoundLaws.{none-found, some-found}

-- The items that are names or counts.
pub by-item : (P : ℕ → Type 0) → P 4 → P 5 → P 6 → P 7 → P 8 → (item : ℕ) → 4 ≤ item → item < 9 → P item
by-item P a b c d e item l h =
    elim (dec_lt item 5) [
      | yes k ↦ let q : 4 ≡ item = omega arith in subst P q a
      | no k ↦ elim (dec_lt item 6) [
        | yes m ↦ let q : 5 ≡ item = omega arith in subst P q b
        | no m ↦ elim (dec_lt item 7) [
          | yes n ↦ let q : 6 ≡ item = omega arith in subst P q c
          | no n ↦ elim (dec_lt item 8) [ yes o ↦ let q : 7 ≡ item = omega arith in subst P q d | no o ↦ let q : 8 ≡ item = omega arith in subst P q e ]
        ]
      ]
    ]

-- The constant tables of the code.
abbrev pub bases : List ℕ
bases = 0 ∷ 48 ∷ 64 ∷ 124 ∷ 124 ∷ []

abbrev pub leasts : List ℕ
leasts = 0 ∷ 0 ∷ 0 ∷ 1 ∷ 0 ∷ []

abbrev pub counts : List ℕ
counts = 48 ∷ 16 ∷ 60 ∷ 60 ∷ 60 ∷ []

-- The least number of a kind, and how many there are.
abbrev least : Kind → ℕ
least label_number = 0
least arrow_number = 0
least node_number = 0
least least_count = 1
least most_count = 0

abbrev many : Kind → ℕ
many label_number = 48
many arrow_number = 16
many node_number = 60
many least_count = 60
many most_count = 60

below-least : (k : Kind) (x : ℕ) → x < least k → fits (ranges max_nodes) k x ≡ false
below-least label_number x h = absurd (omega arith)
below-least arrow_number x h = absurd (omega arith)
below-least node_number x h = absurd (omega arith)
below-least least_count x h = ap (◌&& leb x 60) (lt-leb 1 x h)
below-least most_count x h = absurd (omega arith)

in-range : (k : Kind) (x : ℕ) → x < many k → fits (ranges max_nodes) k (least k + x) ≡ true
in-range label_number x h = lt-ltb (0 + x) 48 (omega arith)
in-range arrow_number x h = lt-ltb (0 + x) 16 (omega arith)
in-range node_number x h = lt-ltb (0 + x) 60 (omega arith)
in-range least_count x h = ap₂ ◌&&◌ (le-leb 1 (1 + x) (omega arith)) (le-leb (1 + x) 60 (omega arith))
in-range most_count x h = le-leb (0 + x) 59 (omega arith)

above-range : (k : Kind) (x : ℕ) → least k + many k ≤ x → fits (ranges max_nodes) k x ≡ false
above-range label_number x h = le-ltb x 48 (omega arith)
above-range arrow_number x h = le-ltb x 16 (omega arith)
above-range node_number x h = le-ltb x 60 (omega arith)
above-range least_count x h = ap₂ ◌&&◌ (le-leb 1 x (omega arith)) (lt-leb x 60 (omega arith))
above-range most_count x h = lt-leb x 59 (omega arith)

has-slot : (k : Kind) (x : ℕ) → x < many k → least k + x < slot_count k
has-slot label_number x h = omega arith
has-slot arrow_number x h = omega arith
has-slot node_number x h = omega arith
has-slot least_count x h = omega arith
has-slot most_count x h = omega arith

few : (k : Kind) → least k + many k ≤ 256
few label_number = omega arith
few arrow_number = omega arith
few node_number = omega arith
few least_count = omega arith
few most_count = omega arith

module _ (table : List ℕ) (name : Naming) (h : Holds table name) (t : Token) where
  -- What is found among the slots of a kind, from that of its least number on.
  number_is : (k : Kind) → number_of name word_limits k t ≡ further (least k) (first_below (λ x. same t (slot_at name_width table (slot_base k + least k + x))) (many k))
  unfolding number_of
  number_is k =
      search-range (λ x. fits (ranges max_nodes) k x && same t (name k x)) (λ x. same t (slot_at name_width table (slot_base k + least k + x))) (least k)
      (λ x l. ap (◌&& same t (name k x)) (below-least k x l)) (many k) 256 (few k)
      (λ x l. ap (◌&& same t (name k (least k + x))) (in-range k x l) ∙ ap (same t) (sym (slot-at x l)))
      (λ x l. ap (◌&& same t (name k x)) (above-range k x l))
    where
      slot-at : (x : ℕ) → x < many k → slot_at name_width table (slot_base k + least k + x) ≡ name k (least k + x)
      slot-at x l = let e : slot_base k + least k + x ≡ slot_base k + (least k + x) = omega arith in ap (slot_at name_width table) e ∙ h.each k (least k + x) (has-slot k x l)

  pub number_at : (item : ℕ) → 4 ≤ item → item < 9
      → number_of name word_limits (kind_of item) t
      ≡ further (get_or leasts (item - 4) 0) (first_below (λ x. same t (slot_at name_width table (get_or bases (item - 4) 0 + get_or leasts (item - 4) 0 + x))) (get_or counts (item - 4) 0))
  unfolding kind_of
  number_at =
      by-item
      (λ item. number_of name word_limits (kind_of item) t
      ≡ further (get_or leasts (item - 4) 0) (first_below (λ x. same t (slot_at name_width table (get_or bases (item - 4) 0 + get_or leasts (item - 4) 0 + x))) (get_or counts (item - 4) 0)))
      (number_is label_number) (number_is arrow_number) (number_is node_number) (number_is least_count) (number_is most_count)

-- The slots of an item are slots of the table.
pub item-inside : (item : ℕ) → 4 ≤ item → item < 9 → get_or bases (item - 4) 0 + get_or leasts (item - 4) 0 + get_or counts (item - 4) 0 ≤ name_count
item-inside = by-item (λ item. get_or bases (item - 4) 0 + get_or leasts (item - 4) 0 + get_or counts (item - 4) 0 ≤ name_count) (omega arith) (omega arith) (omega arith) (omega arith) (omega arith)

pub item_count : (item : ℕ) → 4 ≤ item → item < 9 → get_or counts (item - 4) 0 ≤ 60
item_count = by-item (λ item. get_or counts (item - 4) 0 ≤ 60) (omega arith) (omega arith) (omega arith) (omega arith) (omega arith)

-- What was found, as a number.
module _ (m : ℕ) (f : Found ℕ) where
  pub number-none : None ≡ found_option f → None ≡ found_option (further m f)
  number-none e = ap (λ z. found_option (further m z)) (sym (none-found f e))

  pub number-some : {x : ℕ} → Some x ≡ found_option f → Some (m + x) ≡ found_option (further m f)
  number-some e = ap (λ z. found_option (further m z)) (sym (some-found f e))

-- The slot of a number in range.
pub in-slots : (item : ℕ) → 4 ≤ item → item < 9 → (x : ℕ) → T (fits (ranges max_nodes) (kind_of item) x) → get_or bases (item - 4) 0 + x < name_count
unfolding kind_of
in-slots =
    by-item (λ item. (x : ℕ) → T (fits (ranges max_nodes) (kind_of item) x) → get_or bases (item - 4) 0 + x < name_count)
    (λ x h. let z = ltb-true x 48 (is_true _ h) in omega arith)
    (λ x h. let z = ltb-true x 16 (is_true _ h) in omega arith)
    (λ x h. let z = ltb-true x 60 (is_true _ h) in omega arith)
    (λ x h. let z = leb-true x 60 (is_true _ (both_so (leb 1 x) (leb x 60) h).1) in omega arith)
    (λ x h. let z = leb-true x 59 (is_true _ h) in omega arith)

pub name-at : (table : List ℕ) (name : Naming) → Holds table name → (item : ℕ) → 4 ≤ item → item < 9 → (x : ℕ) → T (fits (ranges max_nodes) (kind_of item) x)
    → slot_at name_width table (get_or bases (item - 4) 0 + x) ≡ name (kind_of item) x
unfolding kind_of
name-at table name g =
    by-item (λ item. (x : ℕ) → T (fits (ranges max_nodes) (kind_of item) x) → slot_at name_width table (get_or bases (item - 4) 0 + x) ≡ name (kind_of item) x)
    (λ x h. g.each label_number x (ltb-true x 48 (is_true _ h)))
    (λ x h. g.each arrow_number x (ltb-true x 16 (is_true _ h)))
    (λ x h. g.each node_number x (ltb-true x 60 (is_true _ h)))
    (λ x h. g.each least_count x (let z = leb-true x 60 (is_true _ (both_so (leb 1 x) (leb x 60) h).1) in omega arith))
    (λ x h. g.each most_count x (let z = leb-true x 59 (is_true _ h) in omega arith))

-- An item that is a name.
pub record NameItem (item : ℕ) : Type 0 where
  pub base : get_or bases (item - 4) 0 ≡ slot_base (kind_of item)
  pub count : get_or counts (item - 4) 0 ≡ count_of (kind_of item)
  pub has-names : HasNames (kind_of item)

pub name-item : (item : ℕ) → 4 ≤ item → item < 7 → NameItem item
unfolding kind_of
name-item item l h =
    by-item (λ item. item < 7 → NameItem item)
    (λ z. record { base = refl; count = refl; has-names = tt }) (λ z. record { base = refl; count = refl; has-names = tt }) (λ z. record { base = refl; count = refl; has-names = tt })
    (λ z. absurd (omega arith)) (λ z. absurd (omega arith)) item l (omega arith) h
