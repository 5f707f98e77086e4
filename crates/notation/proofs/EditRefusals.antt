-- The words of an edit are never refused with 69: a token where no step can begin is 65.
use mathlib.Core.Path.{◌≡◌, refl, subst}
use mathlib.Core.Bool.{Bool, true, false}
use mathlib.Core.List.{List, [], ◌∷◌, ◌++◌}
use Prim.Native.Nat.{ℕ}
use native.Mathlib.Omega.{arith}
use lib.Dec.{leb}
use Rattle.answer.specs.Asked.{Asked, passed, refused}
use Rattle.text.specs.Reading.{Limits}
use Rattle.names.specs.Token.{Token, same, Found, found, absent}
use Rattle.names.specs.Scan.{Placed}
use Rattle.names.specs.Names.{Naming}
use Rattle.notation.specs.Grammar.{at_else, at_end, text_end, Slot, expr, steps, Phrase, phrases, bracketed, after_comma, Goal, mark, number, thing, goals}
use Rattle.notation.specs.Parse.{prefixed, ask_start, Start, starts, starts_nothing, number_of, start, parse}
use Rattle.notation.proofs.Says.{◌∈◌, Begins, by_word}
use Rattle.notation.proofs.PhraseLaws.{all-at}
use Rattle.notation.proofs.ReadSays.{StartRight, start_right}

-- Goals with steps that end with the text.
abbrev pub EndsText : List Goal → Type 0
EndsText [] = ⊥
EndsText (mark t ∷ g) = EndsText g
EndsText (number k ∷ g) = EndsText g
EndsText (thing (expr s) d ∷ g) = EndsText g
EndsText (thing (steps at_else) d ∷ g) = EndsText g
EndsText (thing (steps at_end) d ∷ g) = EndsText g
EndsText (thing (steps text_end) d ∷ g) = Unit {0}

later : (f g : List Goal) → EndsText g → EndsText (f ++ g)
later [] g h = h
later (mark t ∷ f) g h = later f g h
later (number k ∷ f) g h = later f g h
later (thing (expr s) d ∷ f) g h = later f g h
later (thing (steps at_else) d ∷ f) g h = later f g h
later (thing (steps at_end) d ∷ f) g h = later f g h
later (thing (steps text_end) d ∷ f) g h = tt

abbrev pub Not69 : Asked (List ℕ) → Type 0
Not69 (passed b) = Unit {0}
Not69 (refused q p) = q ≡ 69 → ⊥

prefixed-not : (c : List ℕ) (r : Asked (List ℕ)) → Not69 r → Not69 (prefixed c r)
unfolding prefixed
prefixed-not c (passed b) h = tt
prefixed-not c (refused q p) h = h

module _ (name : Naming) (l : Limits) where
  -- a step is followed by further steps
  step-on : (d : ℕ) (g : List Goal) {t : Token} {c : List ℕ} {then : List Goal} → Begins name l (steps text_end) d t c then → EndsText (then ++ g)
  unfolding phrases goals bracketed after_comma
  step-on d g (by_word r i) = all-at (λ r. EndsText (goals (steps text_end) d r.items ++ g)) i (tt, (tt, (tt, (tt, (tt, tt)))))

  then-on : (s : Slot) (d : ℕ) (g : List Goal) {t : Token} {c : List ℕ} {then : List Goal} → Begins name l s d t c then → EndsText (thing s d ∷ g) → EndsText (then ++ g)
  then-on (expr s) d g {then = then} b h = later then g h
  then-on (steps at_else) d g {then = then} b h = later then g h
  then-on (steps at_end) d g {then = then} b h = later then g h
  then-on (steps text_end) d g b h = step-on d g b

  start-not : (s : Slot) (d p : ℕ) (g : List Goal) (t : Token) (x : Start) → StartRight name l s d t x → EndsText (thing s d ∷ g) → (rest : List Goal → Asked (List ℕ))
      → ((then : List Goal) → EndsText (then ++ g) → Not69 (rest then)) → Not69 (ask_start l d p x rest)
  start-not s d p g t (starts c then) b h rest k = go (leb d l.deepest)
    where
      go : (x : Bool) → Not69 (elim x as (λ z. Asked (List ℕ)) [ true ↦ prefixed c (rest then) | false ↦ refused 68 p ])
      go true = prefixed-not c (rest then) (k then (then-on s d g b h))
      go false = λ e. omega arith
  start-not s d p g t starts_nothing b h rest k = λ e. omega arith

  module _ (end : ℕ) where
    at-end : (g : List Goal) (m : ℕ) → Not69 (parse name l end [] g m)
    unfolding parse
    at-end [] m = tt
    at-end (mark t ∷ g) m = λ e. omega arith
    at-end (number k ∷ g) m = λ e. omega arith
    at-end (thing (expr s) d ∷ g) m = λ e. omega arith
    at-end (thing (steps at_else) d ∷ g) m = λ e. omega arith
    at-end (thing (steps at_end) d ∷ g) m = λ e. omega arith
    at-end (thing (steps text_end) d ∷ g) m = go (leb d l.deepest) (at-end g m)
      where
        go : (b : Bool) → Not69 (parse name l end [] g m) → Not69 (elim b as (λ z. Asked (List ℕ)) [ true ↦ prefixed (0x30 ∷ []) (parse name l end [] g m) | false ↦ refused 68 end ])
        go true r = prefixed-not (0x30 ∷ []) (parse name l end [] g m) r
        go false r = λ e. omega arith

    pub never-69 : (ts : List Placed) (g : List Goal) (m : ℕ) → EndsText g → Not69 (parse name l end ts g m)
    unfolding parse
    never-69 [] g m h = at-end g m
    never-69 (t ∷ ts) (mark w ∷ g) m h = go (same t.token w) (never-69 ts g m h)
      where
        go : (b : Bool) → Not69 (parse name l end ts g m) → Not69 (elim b as (λ z. Asked (List ℕ)) [ true ↦ parse name l end ts g m | false ↦ refused 66 t.place ])
        go true r = r
        go false r = λ e. omega arith
    never-69 (t ∷ ts) (number k ∷ g) m h = go (number_of name l k t.token) (never-69 ts g m h)
      where
        go : (f : Found ℕ) → Not69 (parse name l end ts g m) → Not69 (elim f as (λ z. Asked (List ℕ)) [ found x ↦ prefixed (x ∷ []) (parse name l end ts g m) | absent ↦ refused 67 t.place ])
        go (found x) r = prefixed-not (x ∷ []) (parse name l end ts g m) r
        go absent r = λ e. omega arith
    never-69 (t ∷ ts) (thing s d ∷ g) m h =
        start-not s d t.place g t.token (start name l s d t.token) (start_right name l s d t.token) h (λ then. parse name l end ts (then ++ g) m) (λ then k. never-69 ts (then ++ g) m k)
    never-69 (t ∷ ts) [] m h = elim h [ ]
