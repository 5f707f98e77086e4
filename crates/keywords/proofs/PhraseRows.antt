-- The goals of a phrase are those of its row; so the number of its phrase determines what a word or a code begins.
use mathlib.Core.Path.{◌≡◌, refl, ap, subst}
use mathlib.Core.Bool.{Bool, true, ◌&&◌}
use mathlib.Core.List.{List, [], ◌∷◌}
use Prim.Native.Nat.{ℕ, zero, suc, ◌+◌, ◌-◌, ◌^◌, ◌<◌}
use native.Mathlib.Omega.{arith}
use lib.Dec.{ltb}
use lib.ListN.{get_or}
use borrow.Author.Tests.{ltb-true}
use Rattle.logic.proofs.Bools.{and_left, and_right}
use Rattle.text.specs.Reading.{Limits}
use Rattle.names.specs.Token.{Token, ascii}
use Rattle.names.specs.Names.{Naming}
use Rattle.notation.specs.Grammar.{phrases, bracketed, after_comma, Goal, goals}
use Rattle.notation.specs.Spell.{phrase_of_def, bare, opens}
use Rattle.notation.specs.Parse.{starts, phrase_for_def, bare_start, start}
use Rattle.keywords.specs.Rows.{mark_of, kind_of, slot_of, level_of, goal_of, goals_of, row_goals, row_table, closings, closing_of, row_of}
use Rattle.std.specs.Prelude.{Some, None}
use Rattle.keywords.specs.Phrases.{all_phrases, phrase_at, code_at, first_of, count_of, InSlot, Picked}
use Rattle.keywords.proofs.Each.{Each, each_at}

-- The goals of phrase p if an item is wanted.
abbrev Alike : (d item p : ℕ) → Type 0
Alike d item p = goals (slot_of item) d (phrase_at p).items ≡ row_goals (row_of item p) d

abbrev AlikeFrom : (d item : ℕ) → Type 0
AlikeFrom d item = Each (count_of item) (λ j. Alike d item (j + first_of item))

all_alike : (d : ℕ) → Each 9 (λ k. AlikeFrom d (k + 9))
unfolding Each goals slot_of phrase_at all_phrases phrases bracketed after_comma goals_of goal_of mark_of kind_of level_of row_of row_table closing_of first_of count_of ascii
all_alike d =
    let i9 : AlikeFrom d 9 = (refl, (refl, (refl, (refl, (refl, (refl, (refl, (refl, (refl, tt))))))))) in
    let i10 : AlikeFrom d 10 = (refl, (refl, (refl, (refl, (refl, (refl, tt)))))) in
    let i11 : AlikeFrom d 11 = (refl, (refl, (refl, (refl, (refl, (refl, (refl, tt))))))) in
    let i12 : AlikeFrom d 12 = (refl, (refl, (refl, (refl, (refl, tt))))) in
    let i13 : AlikeFrom d 13 = (refl, (refl, (refl, (refl, (refl, tt))))) in
    let i14 : AlikeFrom d 14 = (refl, (refl, (refl, (refl, (refl, tt))))) in
    let i15 : AlikeFrom d 15 = (refl, (refl, (refl, (refl, (refl, tt))))) in
    let i16 : AlikeFrom d 16 = (refl, (refl, (refl, (refl, (refl, tt))))) in
    let i17 : AlikeFrom d 17 = (refl, (refl, (refl, (refl, (refl, (refl, (refl, tt))))))) in
    (i9, (i10, (i11, (i12, (i13, (i14, (i15, (i16, (i17, tt)))))))))

pub row-goals : (item p d : ℕ) → InSlot item p → goals (slot_of item) d (phrase_at p).items ≡ row_goals (row_of item p) d
row-goals item p d s =
    let f : item - 9 + 9 ≡ item = omega (arith, s.a_thing) in
    let e : p - first_of item + first_of item ≡ p = omega (arith, s.from) in
    let h : AlikeFrom d item = subst (AlikeFrom d) f (each_at 9 (λ k. AlikeFrom d (k + 9)) (all_alike d) (item - 9) (omega (arith, s.a_thing, s.known))) in
    subst (Alike d item) e (each_at (count_of item) (λ j. Alike d item (j + first_of item)) h (p - first_of item) (omega (arith, s.from, s.to)))

-- The rows fit into 64 bits.
all_below : ℕ → List ℕ → Bool
all_below b [] = true
all_below b (x ∷ xs) = ltb x b && all_below b xs

all-below : (b : ℕ) (l : List ℕ) → all_below b l ≡ true → 0 < b → (i : ℕ) → get_or l i 0 < b
unfolding all_below
all-below b [] h k i = k
all-below b (x ∷ xs) h k zero = ltb-true x b (and_left (ltb x b) (all_below b xs) h)
all-below b (x ∷ xs) h k (suc i) = all-below b xs (and_right (ltb x b) (all_below b xs) h) k i

pub row_small : (item p : ℕ) → row_of item p < 2 ^ 64
unfolding row_of row_table closing_of all_below
row_small item p = omega (arith, all-below (2 ^ 63) row_table refl (omega arith) p, all-below (2 ^ 63) closings refl (omega arith) (item - 9))

-- What a word begins.
module _ (name : Naming) (l : Limits) (item d : ℕ) (t : Token) where
  pub start-by-word : {p : ℕ} → Picked item (phrase_for_def t (phrases (slot_of item))) (Some p) → start name l (slot_of item) d t ≡ starts (code_at p ∷ []) (row_goals (row_of item p) d)
  unfolding start
  start-by-word {p} h = rw (h.0, start) (ap (starts (code_at p ∷ [])) (row-goals item p d h.1))

  pub start-bare : Picked item (phrase_for_def t (phrases (slot_of item))) None → start name l (slot_of item) d t ≡ bare_start name l (slot_of item) t
  unfolding start
  start-bare h = rw (h, start)

-- What a code writes.
module _ (item d c : ℕ) where
  pub opens-by-phrase : {p : ℕ} → Picked item (phrase_of_def c (phrases (slot_of item))) (Some p) → opens (slot_of item) d c ≡ record { tokens = (phrase_at p).word ∷ []; then = row_goals (row_of item p) d }
  unfolding opens
  opens-by-phrase {p} h = rw (h.0, opens) (ap (λ (g : List Goal). record { tokens = (phrase_at p).word ∷ []; then = g }) (row-goals item p d h.1))

  pub opens-bare : Picked item (phrase_of_def c (phrases (slot_of item))) None → opens (slot_of item) d c ≡ bare (slot_of item) c
  unfolding opens
  opens-bare h = rw (h, opens)
