-- Laws of the notation's table, each proved for all phrases at once.
use mathlib.Core.Path.{◌≡◌, refl}
use mathlib.Core.List.{List, []}
use Rattle.logic.specs.Lists.{All}
use Rattle.logic.specs.Syntax.{node, arrow, rule}
use Rattle.names.specs.Token.{found, ascii, same}
use Rattle.notation.specs.Grammar.{Slot, expr, steps, Phrase, phrases}
use Rattle.notation.specs.Spell.{phrase_of_def}
use Rattle.notation.specs.Parse.{phrase_for_def}
use Rattle.notation.proofs.Says.{◌∈◌, first, later}

pub all-at : (P : Phrase → Type 0) {r : Phrase} {rs : List Phrase} → r ∈ rs → All P rs → P r
all-at P first h = h.0
all-at P (later i) h = all-at P i h.1

-- In a slot, each byte has one phrase, and so has each word.
abbrev OnePhrase : List Phrase → Phrase → Type 0
OnePhrase rs r = (phrase_of_def r.byte rs ≡ found r) × (phrase_for_def r.word rs ≡ found r)

one-phrase : (s : Slot) → All (OnePhrase (phrases s)) (phrases s)
unfolding phrases phrase_of_def phrase_for_def same ascii
one-phrase (expr node) = ((refl, refl), ((refl, refl), ((refl, refl), ((refl, refl), ((refl, refl), ((refl, refl), ((refl, refl), ((refl, refl), ((refl, refl), tt)))))))))
one-phrase (expr arrow) = ((refl, refl), ((refl, refl), ((refl, refl), ((refl, refl), ((refl, refl), ((refl, refl), tt))))))
one-phrase (expr rule) = ((refl, refl), ((refl, refl), ((refl, refl), ((refl, refl), ((refl, refl), ((refl, refl), ((refl, refl), tt)))))))
one-phrase (steps c) = ((refl, refl), ((refl, refl), ((refl, refl), ((refl, refl), ((refl, refl), tt)))))

pub phrase-of-byte : (s : Slot) {r : Phrase} → r ∈ phrases s → phrase_of_def r.byte (phrases s) ≡ found r
phrase-of-byte s i = (all-at (OnePhrase (phrases s)) i (one-phrase s)).0

pub phrase-of-word : (s : Slot) {r : Phrase} → r ∈ phrases s → phrase_for_def r.word (phrases s) ≡ found r
phrase-of-word s i = (all-at (OnePhrase (phrases s)) i (one-phrase s)).1
