-- The words of the phrases are in their slots.
use mathlib.Core.Path.{◌≡◌, refl, ◌∙◌}
use mathlib.Core.Bool.{Bool, true}
use mathlib.Core.List.{[], ◌∷◌, map}
use Prim.Native.Nat.{ℕ, ◌*◌, ◌<◌}
use native.Mathlib.Omega.{arith}
use lib.Dec.{ltb, lit≤}
use lib.ListN.{get_or, get_or-append, get_or-map}
use borrow.Author.Tests.{ltb-true}
use Rattle.names.specs.Token.{same, ascii}
use Rattle.names.proofs.TokenLaws.{same_true}
use Rattle.notation.specs.Grammar.{else_word, end_word, phrases}
use Rattle.buffers.specs.Slots.{Slots, slot_at}
use Rattle.keywords.specs.Phrases.{all_phrases, no_phrase, phrase_at, phrase_count, words, in_slots, word_table, slot_width}
use Rattle.keywords.proofs.Each.{test_each, tested_at}

right-word : ℕ → Bool
right-word i = same (slot_at slot_width word_table i) (get_or words i [])

short-word : ℕ → Bool
short-word i = ltb (get_or word_table (slot_width * i) 0) slot_width

all_right : test_each 29 right-word ≡ true
unfolding test_each right-word same slot_at word_table in_slots words all_phrases phrases ascii
all_right = refl

pub slot-word : (i : ℕ) → i < 29 → slot_at slot_width word_table i ≡ get_or words i []
unfolding right-word
slot-word i l = same_true (slot_at slot_width word_table i) (get_or words i []) (tested_at 29 right-word all_right i l)

pub word-slots : Slots slot_width 29 word_table
unfolding short-word test_each word_table in_slots words all_phrases phrases ascii
word-slots = record { room = lit≤ tt; short = λ i l. ltb-true (get_or word_table (slot_width * i) 0) slot_width (tested_at 29 short-word refl i l) }

pub phrase-word : (p : ℕ) → p < phrase_count → slot_at slot_width word_table p ≡ (phrase_at p).word
unfolding words phrase_at all_phrases phrases
phrase-word p l =
    slot-word p (omega arith) ∙ get_or-append (map (λ r. r.word) all_phrases) (else_word ∷ end_word ∷ []) [] p l ∙ get_or-map (λ r. r.word) all_phrases p no_phrase
