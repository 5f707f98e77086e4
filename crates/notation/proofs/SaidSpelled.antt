-- Bytes and tokens that say the same: the tokens are the spelling of the bytes.
use mathlib.Core.Path.{◌≡◌, refl, ◌∙◌, ap}
use mathlib.Core.List.{List, [], ◌∷◌, ◌++◌}
use Prim.Native.Nat.{ℕ, suc}
use Rattle.logic.specs.Syntax.{rule}
use Rattle.text.specs.Reading.{Limits}
use Rattle.names.specs.Token.{Token}
use Rattle.names.specs.Names.{Naming}
use Rattle.notation.specs.Grammar.{Slot, expr, Phrase, phrases, Goal, mark, thing, goals}
use Rattle.notation.specs.Spell.{phrase_of_def, bare, opens, spell}
use Rattle.notation.proofs.Says.{◌∈◌, Begins, by_word, label, nominal, arrow_kind, closing-else, closing_end, Says, nothing, a-mark, a-number, begin, last, one-rule}
use Rattle.notation.proofs.PhraseLaws.{phrase-of-byte}

opens-phrase : (s : Slot) (d : ℕ) {r : Phrase} → r ∈ phrases s → opens s d r.byte ≡ record { tokens = r.word ∷ []; then = goals s d r.items }
unfolding opens
opens-phrase s d i = rw (phrase-of-byte s i, opens)

module _ (name : Naming) (l : Limits) where
  mark-spelled : (bytes : List ℕ) (t : Token) (g : List Goal) (m : ℕ) → spell name bytes (mark t ∷ g) m ≡ t ∷ spell name bytes g m
  unfolding spell
  mark-spelled [] t g m = refl
  mark-spelled (x ∷ bytes) t g m = refl

  -- a thing's first token, in the spelling
  begins-spelled : {s : Slot} {d : ℕ} {t : Token} {c : List ℕ} {then : List Goal} → Begins name l s d t c then → (bytes : List ℕ) (g : List Goal) (m : ℕ)
      → spell name (c ++ bytes) (thing s d ∷ g) m ≡ t ∷ spell name bytes (then ++ g) m
  unfolding spell opens bare phrase_of_def phrases
  begins-spelled {s} {d} (by_word r i) bytes g m = ap (λ o. o.tokens ++ spell name bytes (o.then ++ g) m) (opens-phrase s d i)
  begins-spelled (label x h) bytes g m = refl
  begins-spelled (nominal x h) bytes g m = refl
  begins-spelled (arrow_kind x h) bytes g m = refl
  begins-spelled closing-else bytes g m = refl
  begins-spelled closing_end bytes g m = refl

  rule-spelled : {bytes : List ℕ} {t : Token} {ts : List Token} {m : ℕ} → Says name l bytes (t ∷ ts) (thing (expr rule) 1 ∷ []) m
      → spell name bytes [] (suc m) ≡ spell name bytes (thing (expr rule) 1 ∷ []) m
  unfolding spell
  rule-spelled (begin d (by_word r i) h) = refl

  -- THE TOKENS ARE THE SPELLING.
  pub says-spelled : {bytes : List ℕ} {ts : List Token} {g : List Goal} {m : ℕ} → Says name l bytes ts g m → spell name bytes g m ≡ ts
  unfolding spell opens bare phrase_of_def phrases
  says-spelled nothing = refl
  says-spelled (one-rule h) = rule-spelled h ∙ says-spelled h
  says-spelled (a-mark {bytes} {ts} {g} {m} {t} h) = mark-spelled bytes t g m ∙ ap (t ∷◌) (says-spelled h)
  says-spelled (a-number {k = k} x f h) = ap (name k x ∷◌) (says-spelled h)
  says-spelled (begin {bytes} {ts} {g} {m} {t = t} d b h) = begins-spelled b bytes g m ∙ ap (t ∷◌) (says-spelled h)
  says-spelled (last d h) = says-spelled h
