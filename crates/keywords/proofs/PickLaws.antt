-- Looking for a phrase among those of an item, by its word or its code, gives its number.
use mathlib.Core.Path.{◌≡◌, refl, sym, ◌∙◌, ap, subst}
use mathlib.Core.Bool.{Bool, true, false, not, cond}
use mathlib.Core.List.{List, [], ◌∷◌, map}
use Prim.Native.Nat.{ℕ, suc, ◌+◌, ◌-◌, ◌≤◌, ◌<◌}
use native.Mathlib.Omega.{arith}
use native.Mathlib.Numerals.{one-add}
use lib.Dec.{eqb, ltb, lit≤, leb-suc-suc}
use lib.ListN.{length, get_or, take, drop, length-take}
use lib.Seq.{get_or-take, get_or-drop}
use borrow.Author.Tests.{lt-ltb, eqb-true, eqb-false}
use Rattle.std.specs.Prelude.{Option, Some, None, position}
use Rattle.std.specs.List.{between, position_or_len}
use Rattle.names.specs.Token.{Token, same, Found, found, absent, first_below}
use Rattle.names.proofs.FirstLaws.{up_one, first-front, first-same}
use Rattle.notation.specs.Grammar.{Phrase, phrases}
use Rattle.notation.specs.Spell.{phrase_of_def}
use Rattle.notation.specs.Parse.{phrase_for_def}
use Rattle.buffers.specs.Slots.{found_option, slot_at, Slots}
use Rattle.std.proofs.lemmas.List.Quantifiers.{position-Some}
use Rattle.buffers.proofs.FoundLaws.{found-below}
use Rattle.buffers.proofs.SlotLaws.{fewer-slots}
use Rattle.keywords.specs.Rows.{slot_of}
use Rattle.keywords.specs.Phrases.{all_phrases, no_phrase, phrase_at, phrase_count, first_of, count_of, InSlot, Picked, word_table, slot_width}
use Rattle.keywords.proofs.Each.{Each, each_at}
use Rattle.keywords.proofs.WordSlots.{phrase-word, word-slots}

-- The phrase at a number of a list, or none.
abbrev pub nth : List Phrase → Option ℕ → Found Phrase
nth rs (Some i) = found (get_or rs i no_phrase)
nth rs None = absent

-- By its code: the number of the first that has it.
pub by_code : (c : ℕ) (rs : List Phrase) → phrase_of_def c rs ≡ nth rs (position (λ b. eqb b c) (map (λ r. r.byte) rs))
unfolding phrase_of_def
by_code c [] = refl
by_code c (r ∷ rs) = go (eqb c r.byte) (eqb r.byte c) refl refl (by_code c rs)
  where
    codes : List ℕ
    codes = map (λ r. r.byte) rs

    here : found r ≡ nth (r ∷ rs) (cond (ltb 0 (suc (length codes))) (Some 0) None)
    here = sym (ap (λ (b : Bool). nth (r ∷ rs) (cond b (Some 0) None)) (lt-ltb 0 (suc (length codes)) (omega arith)))

    -- the place among the others
    one-on : (n : ℕ) (b : Bool) → nth rs (cond b (Some n) None) ≡ nth (r ∷ rs) (cond b (Some (suc n)) None)
    one-on n true = refl
    one-on n false = refl

    later : (n : ℕ) → nth rs (cond (ltb n (length codes)) (Some n) None) ≡ nth (r ∷ rs) (cond (ltb (1 + n) (suc (length codes))) (Some (1 + n)) None)
    later n = rw (one-add n) (one-on n (ltb n (length codes)) ∙ ap (λ (b : Bool). nth (r ∷ rs) (cond b (Some (suc n)) None)) (sym (leb-suc-suc (suc n) (length codes))))

    go : (a b : Bool) → eqb c r.byte ≡ a → eqb r.byte c ≡ b → phrase_of_def c rs ≡ nth rs (position (λ b. eqb b c) codes)
        → elim a as (λ z. Found Phrase) [ true ↦ found r | false ↦ phrase_of_def c rs ]
        ≡ nth (r ∷ rs) (cond (ltb (cond (not b) (1 + position_or_len (λ b. eqb b c) codes) 0) (suc (length codes))) (Some (cond (not b) (1 + position_or_len (λ b. eqb b c) codes) 0)) None)
    go true true e f h = here
    go false false e f h = h ∙ later (position_or_len (λ b. eqb b c) codes)
    go true false e f h = absurd (eqb-false r.byte c f (sym (eqb-true c r.byte e)))
    go false true e f h = absurd (eqb-false c r.byte e (sym (eqb-true r.byte c f)))

-- By its word.
pub by_word : (t : Token) (rs : List Phrase) → phrase_for_def t rs ≡ nth rs (found_option (first_below (λ x. same t (get_or rs x no_phrase).word) (length rs)))
unfolding phrase_for_def
by_word t [] = unfold first_below in refl
by_word t (r ∷ rs) =
    go (same t r.word) (first_below (λ x. same t (get_or rs x no_phrase).word) (length rs)) (by_word t rs)
    ∙ sym (ap (λ (f : Found ℕ). nth (r ∷ rs) (found_option f)) (first-front (λ x. same t (get_or (r ∷ rs) x no_phrase).word) (length rs)))
  where
    go : (b : Bool) (f : Found ℕ) → phrase_for_def t rs ≡ nth rs (found_option f)
        → elim b as (λ z. Found Phrase) [ true ↦ found r | false ↦ phrase_for_def t rs ] ≡ nth (r ∷ rs) (found_option (cond b (found 0) (up_one f)))
    go true f h = refl
    go false (found x) h = h
    go false absent h = h

-- The phrases of an item: a part of all phrases.
pub record Part (item : ℕ) : Type 0 where
  pub are : phrases (slot_of item) ≡ take (count_of item) (drop (first_of item) all_phrases)
  pub many : length (phrases (slot_of item)) ≡ count_of item
  pub codes : between (first_of item) (first_of item + count_of item) (map (λ r. r.byte) all_phrases) ≡ map (λ r. r.byte) (phrases (slot_of item))
  pub ends : first_of item + count_of item ≤ phrase_count

all-parts : Each 9 (λ k. Part (k + 9))
unfolding Each slot_of first_of count_of all_phrases phrases
all-parts =
    let i9 : Part 9 = record { are = refl; many = refl; codes = refl; ends = lit≤ tt } in
    let i10 : Part 10 = record { are = refl; many = refl; codes = refl; ends = lit≤ tt } in
    let i11 : Part 11 = record { are = refl; many = refl; codes = refl; ends = lit≤ tt } in
    let i12 : Part 12 = record { are = refl; many = refl; codes = refl; ends = lit≤ tt } in
    let i13 : Part 13 = record { are = refl; many = refl; codes = refl; ends = lit≤ tt } in
    let i14 : Part 14 = record { are = refl; many = refl; codes = refl; ends = lit≤ tt } in
    let i15 : Part 15 = record { are = refl; many = refl; codes = refl; ends = lit≤ tt } in
    let i16 : Part 16 = record { are = refl; many = refl; codes = refl; ends = lit≤ tt } in
    let i17 : Part 17 = record { are = refl; many = refl; codes = refl; ends = lit≤ tt } in
    (i9, (i10, (i11, (i12, (i13, (i14, (i15, (i16, (i17, tt)))))))))

pub part : (item : ℕ) → 9 ≤ item → item < 18 → Part item
part item h k = let e : item - 9 + 9 ≡ item = omega arith in subst Part e (each_at 9 (λ k. Part (k + 9)) all-parts (item - 9) (omega arith))

pub phrase-below : (item p : ℕ) → InSlot item p → p < phrase_count
phrase-below item p s = let ends = (part item s.a_thing s.known).ends in omega arith

module _ (item : ℕ) (h : 9 ≤ item) (k : item < 18) where
  pub nth-phrase : (x : ℕ) → x < count_of item → get_or (phrases (slot_of item)) x no_phrase ≡ phrase_at (first_of item + x)
  unfolding phrase_at
  nth-phrase x l =
      ap (λ (rs : List Phrase). get_or rs x no_phrase) (part item h k).are
      ∙ get_or-take (count_of item) (drop (first_of item) all_phrases) x no_phrase l ∙ get_or-drop (first_of item) all_phrases x no_phrase

  pub picked : (f : Found Phrase) (x : ℕ) → f ≡ nth (phrases (slot_of item)) (Some x) → x < count_of item → Picked item f (Some (first_of item + x))
  picked f x e l = (e ∙ ap found (nth-phrase x l), record { a_thing = h; known = k; from = omega arith; to = omega arith })

  pub part-slots : Slots slot_width (first_of item + count_of item) word_table
  part-slots = let ends = (part item h k).ends in fewer-slots word-slots (omega arith)

  -- What the code finds in its tables: the code among the codes, the word among the words.
  pub found-code : (c : ℕ) → phrase_of_def c (phrases (slot_of item)) ≡ nth (phrases (slot_of item)) (position (λ b. eqb b c) (between (first_of item) (first_of item + count_of item) (map (λ r. r.byte) all_phrases)))
  found-code c = by_code c (phrases (slot_of item)) ∙ ap (λ (l : List ℕ). nth (phrases (slot_of item)) (position (λ b. eqb b c) l)) (sym (part item h k).codes)

  pub found_word : (t : Token)
      → phrase_for_def t (phrases (slot_of item)) ≡ nth (phrases (slot_of item)) (found_option (first_below (λ x. same t (slot_at slot_width word_table (first_of item + x))) (count_of item)))
  found_word t =
      let q = part item h k in
      let ends = q.ends in
      by_word t (phrases (slot_of item))
      ∙ ap (λ (n : ℕ). nth (phrases (slot_of item)) (found_option (first_below (λ x. same t (get_or (phrases (slot_of item)) x no_phrase).word) n))) q.many
      ∙ ap (λ (f : Found ℕ). nth (phrases (slot_of item)) (found_option f))
      (first-same (λ x. same t (get_or (phrases (slot_of item)) x no_phrase).word) (λ x. same t (slot_at slot_width word_table (first_of item + x))) (count_of item)
      (λ x l. ap (same t) (ap (λ (r : Phrase). r.word) (nth-phrase x l) ∙ sym (phrase-word (first_of item + x) (omega arith)))))

  -- What the functions return, by what they found.
  module _ (t : Token) where
    pub word-absent : None ≡ found_option (first_below (λ x. same t (slot_at slot_width word_table (first_of item + x))) (count_of item)) → Picked item (phrase_for_def t (phrases (slot_of item))) None
    word-absent e = found_word t ∙ sym (ap (nth (phrases (slot_of item))) e)

    pub word-picked : {x : ℕ} → Some x ≡ found_option (first_below (λ x. same t (slot_at slot_width word_table (first_of item + x))) (count_of item)) → Picked item (phrase_for_def t (phrases (slot_of item))) (Some (first_of item + x))
    word-picked {x} e = picked (phrase_for_def t (phrases (slot_of item))) x (found_word t ∙ sym (ap (nth (phrases (slot_of item))) e)) (found-below _ (count_of item) x e)

  module _ (c : ℕ) where
    pub code-absent : None ≡ position (λ b. eqb b c) (between (first_of item) (first_of item + count_of item) (map (λ r. r.byte) all_phrases)) → Picked item (phrase_of_def c (phrases (slot_of item))) None
    code-absent e = found-code c ∙ sym (ap (nth (phrases (slot_of item))) e)

    pub code-picked : {x : ℕ} → Some x ≡ position (λ b. eqb b c) (between (first_of item) (first_of item + count_of item) (map (λ r. r.byte) all_phrases)) → Picked item (phrase_of_def c (phrases (slot_of item))) (Some (first_of item + x))
    code-picked {x} e =
        let codes = between (first_of item) (first_of item + count_of item) (map (λ r. r.byte) all_phrases) in
        let long = length-take (first_of item + count_of item - first_of item) (drop (first_of item) (map (λ r. r.byte) all_phrases)) in
        let below : x < length codes = (position-Some (λ b. eqb b c) codes x 0 (sym e)).0 in
        picked (phrase_of_def c (phrases (slot_of item))) x (found-code c ∙ sym (ap (nth (phrases (slot_of item))) e)) (omega arith)
