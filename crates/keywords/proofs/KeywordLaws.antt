-- The words in the slots are the words of the notation.
use mathlib.Core.Path.{◌≡◌, refl, sym, ◌∙◌, ap, subst}
use mathlib.Core.Bool.{Bool, true, false, ◌&&◌, ◌||◌, cond}
use mathlib.Core.List.{List, [], ◌∷◌}
use Prim.Native.Nat.{ℕ, ◌+◌}
use native.Mathlib.Nat.{zero-add}
use native.Mathlib.Omega.{arith}
use lib.ListN.{length, get_or}
use Rattle.std.specs.Prelude.{is_some}
use Rattle.logic.proofs.Bools.{true-false, and_left, and_right}
use Rattle.names.specs.Token.{Token, same, ascii, Found, found, absent, first_below}
use Rattle.names.specs.Names.{among, notation_words}
use Rattle.names.proofs.TokenLaws.{same_true}
use Rattle.names.proofs.FirstLaws.{up_one, first-front, first-same}
use Rattle.notation.specs.Grammar.{phrases}
use Rattle.buffers.specs.Slots.{found_option, slot_at}
use Rattle.keywords.specs.Phrases.{all_phrases, words, word_table, slot_width}
use Rattle.keywords.proofs.WordSlots.{slot-word}

-- A word is found exactly when it is in the list.
found_among : (t : Token) (ws : List Token) → is_some (found_option (first_below (λ x. same t (get_or ws x [])) (length ws))) ≡ among t ws
unfolding among
found_among t [] = unfold first_below in refl
found_among t (w ∷ ws) =
    ap (λ (f : Found ℕ). is_some (found_option f)) (first-front (λ x. same t (get_or (w ∷ ws) x [])) (length ws))
    ∙ go (same t w) (first_below (λ x. same t (get_or ws x [])) (length ws)) (found_among t ws)
  where
    go : (b : Bool) (f : Found ℕ) → is_some (found_option f) ≡ among t ws → is_some (found_option (cond b (found 0) (up_one f))) ≡ (b || among t ws)
    go true f h = refl
    go false (found x) h = h
    go false absent h = h

-- If each word of one list is in another, whatever is in the first is in the other.
all_among : (us ws : List Token) → Bool
all_among us [] = true
all_among us (w ∷ ws) = among w us && all_among us ws

among-all : (t : Token) (ws us : List Token) → all_among us ws ≡ true → among t ws ≡ true → among t us ≡ true
unfolding among all_among
among-all t [] us a h = true-false h refl
among-all t (w ∷ ws) us a h = go (same t w) refl h (among-all t ws us (and_right (among w us) (all_among us ws) a))
  where
    go : (b : Bool) → same t w ≡ b → (b || among t ws) ≡ true → (among t ws ≡ true → among t us ≡ true) → among t us ≡ true
    go true e k later = subst (λ z. among z us ≡ true) (sym (same_true t w e)) (and_left (among w us) (all_among us ws) a)
    go false e k later = later k

same-words : (t : Token) → among t words ≡ among t notation_words
unfolding all_among among same words all_phrases phrases notation_words ascii
same-words t = go (among t words) (among t notation_words) (among-all t words notation_words refl) (among-all t notation_words words refl)
  where
    go : (a b : Bool) → (a ≡ true → b ≡ true) → (b ≡ true → a ≡ true) → a ≡ b
    go true b f g = sym (f refl)
    go false true f g = g refl
    go false false f g = refl

pub keyword-found : (t : Token) → is_some (found_option (first_below (λ x. same t (slot_at slot_width word_table (0 + x))) 29)) ≡ among t notation_words
keyword-found t =
    let n : length words ≡ 29 = unfold words all_phrases phrases in refl in
    ap (λ (f : Found ℕ). is_some (found_option f))
    (first-same (λ x. same t (slot_at slot_width word_table (0 + x))) (λ x. same t (get_or words x [])) 29
    (λ x l. ap (same t) (slot-word (0 + x) (omega arith) ∙ ap (λ (i : ℕ). get_or words i []) (zero-add x))))
    ∙ ap (λ (n : ℕ). is_some (found_option (first_below (λ x. same t (get_or words x [])) n))) (sym n) ∙ found_among t words ∙ same-words t
