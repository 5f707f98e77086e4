-- What says the same as tokens can be printed, also under wider limits; and what follows printable codes is not printed.
use mathlib.Core.Path.{◌≡◌, refl, ◌∙◌, ap, subst}
use mathlib.Core.List.{List, [], ◌∷◌, ◌++◌}
use Prim.Native.Nat.{ℕ, suc, ◌≤◌}
use native.Mathlib.Omega.{arith}
use lib.Dec.{T}
use Rattle.logic.specs.Syntax.{rule}
use Rattle.logic.specs.Limits.{Kind, label_number, arrow_number, node_number, fits}
use Rattle.text.specs.Reading.{Limits}
use Rattle.names.specs.Token.{Token}
use Rattle.names.specs.Names.{Naming}
use Rattle.notation.specs.Grammar.{Slot, expr, phrases, Goal, mark, number, thing}
use Rattle.notation.specs.Spell.{phrase_of_def, bare, opens, spell}
use Rattle.notation.proofs.Says.{Begins, by_word, label, nominal, arrow_kind, closing-else, closing_end, Says, nothing, a-mark, a-number, begin, last, one-rule}
use Rattle.notation.proofs.PhraseLaws.{phrase-of-byte}
use Rattle.print_words.specs.Printable.{Printable}

-- A mark takes no byte.
mark-printable : (l : Limits) (bytes : List ℕ) (t : Token) (g : List Goal) (m : ℕ) → Printable l bytes g m → Printable l bytes (mark t ∷ g) m
unfolding Printable
mark-printable l [] t g m h = h
mark-printable l (x ∷ bytes) t g m h = h

-- The limits may allow more levels.
module _ (name : Naming) (l l' : Limits) (same : l.numbers ≡ l'.numbers) (deep : l.deepest ≤ l'.deepest) where
  in-range : (k : Kind) (x : ℕ) → T (fits l.numbers k x) → T (fits l'.numbers k x)
  in-range k x f = subst (λ r. T (fits r k x)) same f

  begins-printable : {s : Slot} {d : ℕ} {t : Token} {c : List ℕ} {then : List Goal} → Begins name l s d t c then → d ≤ l'.deepest → (bytes : List ℕ) (g : List Goal) (m : ℕ)
      → Printable l' bytes (then ++ g) m → Printable l' (c ++ bytes) (thing s d ∷ g) m
  unfolding Printable opens bare phrase_of_def phrases
  begins-printable {s} {d} (by_word r i) e bytes g m h = (e, rw (phrase-of-byte s i, opens) h)
  begins-printable (label x f) e bytes g m h = (e, (in-range label_number x f, h))
  begins-printable (nominal x f) e bytes g m h = (e, (in-range node_number x f, h))
  begins-printable (arrow_kind x f) e bytes g m h = (e, (in-range arrow_number x f, h))
  begins-printable closing-else e bytes g m h = (e, h)
  begins-printable closing_end e bytes g m h = (e, h)

  book-rule-printable : {bytes : List ℕ} {t : Token} {ts : List Token} {m : ℕ} → Says name l bytes (t ∷ ts) (thing (expr rule) 1 ∷ []) m
      → Printable l' bytes (thing (expr rule) 1 ∷ []) m → Printable l' bytes [] (suc m)
  unfolding Printable
  book-rule-printable (begin d (by_word r i) s) h = h.1

  -- WHAT SAYS THE SAME AS TOKENS CAN BE PRINTED.
  pub says-printable : {bytes : List ℕ} {ts : List Token} {g : List Goal} {m : ℕ} → Says name l bytes ts g m → Printable l' bytes g m
  unfolding Printable opens bare phrase_of_def phrases
  says-printable nothing = tt
  says-printable (one-rule h) = book-rule-printable h (says-printable h)
  says-printable (a-mark {bytes} {ts} {g} {m} {t} h) = mark-printable l' bytes t g m (says-printable h)
  says-printable (a-number {k = k} x f h) = (in-range k x f, says-printable h)
  says-printable (begin {bytes} {ts} {g} {m} d b h) = begins-printable b (omega arith) bytes g m (says-printable h)
  says-printable (last d h) = (omega arith, says-printable h)

-- Printable codes are printed to their end, whatever follows them.
module _ (l : Limits) (rest : List ℕ) where
  pub printable-more : (bytes : List ℕ) (g : List Goal) → Printable l bytes g 0 → Printable l (bytes ++ rest) g 0
  unfolding Printable
  printable-more [] [] h = nothing-wanted rest
    where
      nothing-wanted : (bytes : List ℕ) → Printable l bytes [] 0
      nothing-wanted [] = tt
      nothing-wanted (x ∷ t) = tt
  printable-more [] (mark t ∷ g) h = mark-printable l rest t g 0 (printable-more [] g h)
  printable-more [] (number k ∷ g) h = absurd h
  printable-more [] (thing s d ∷ g) h = absurd h
  printable-more (x ∷ bytes) [] h = tt
  printable-more (x ∷ bytes) (mark t ∷ g) h = printable-more (x ∷ bytes) g h
  printable-more (x ∷ bytes) (number k ∷ g) h = (h.0, printable-more bytes g h.1)
  printable-more (x ∷ bytes) (thing s d ∷ g) h = (h.0, printable-more bytes ((opens s d x).then ++ g) h.1)

  module _ (name : Naming) where
    pub spell-more : (bytes : List ℕ) (g : List Goal) → Printable l bytes g 0 → spell name (bytes ++ rest) g 0 ≡ spell name bytes g 0
    unfolding Printable spell
    spell-more [] [] h = none rest
      where
        none : (t : List ℕ) → spell name t [] 0 ≡ []
        none [] = refl
        none (x ∷ t) = refl
    spell-more [] (mark t ∷ g) h = mark-first rest ∙ ap (t ∷◌) (spell-more [] g h)
      where
        mark-first : (bytes : List ℕ) → spell name bytes (mark t ∷ g) 0 ≡ t ∷ spell name bytes g 0
        mark-first [] = refl
        mark-first (x ∷ bytes) = refl
    spell-more [] (number k ∷ g) h = absurd h
    spell-more [] (thing s d ∷ g) h = absurd h
    spell-more (x ∷ bytes) [] h = refl
    spell-more (x ∷ bytes) (mark t ∷ g) h = ap (t ∷◌) (spell-more (x ∷ bytes) g h)
    spell-more (x ∷ bytes) (number k ∷ g) h = ap (name k x ∷◌) (spell-more bytes g h.1)
    spell-more (x ∷ bytes) (thing s d ∷ g) h = ap ((opens s d x).tokens ++◌) (spell-more bytes ((opens s d x).then ++ g) h.1)
