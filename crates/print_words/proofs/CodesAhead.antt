-- Codes that can be printed, from a place on: what meets the next goal, and what it spells.
use mathlib.Core.Path.{◌≡◌, refl, sym, ◌∙◌, ap, subst}
use mathlib.Core.List.{List, [], ◌∷◌, ◌++◌}
use Prim.Native.Nat.{ℕ, zero, suc, ◌+◌, ◌-◌, ◌≤◌, ◌<◌}
use native.Mathlib.Numerals.{add-one}
use native.Mathlib.Omega.{arith}
use lib.Dec.{T}
use lib.ListN.{length, get_or, drop, length-drop, drop_of_length-le}
use lib.Seq.{drop-cons}
use Rattle.logic.specs.Syntax.{rule}
use Rattle.logic.specs.Limits.{Kind, fits}
use Rattle.text.specs.Reading.{Limits}
use Rattle.names.specs.Token.{Token}
use Rattle.names.specs.Names.{Naming}
use Rattle.notation.specs.Grammar.{Slot, expr, Goal, mark, number, thing}
use Rattle.notation.specs.Spell.{opens, spell}
use Rattle.print_words.specs.Printable.{Printable}

drop_here : (codes : List ℕ) (at : ℕ) → at < length codes → drop at codes ≡ get_or codes at 0 ∷ drop (at + 1) codes
drop_here codes at h = drop-cons codes at 0 h ∙ ap (λ (n : ℕ). get_or codes at 0 ∷ drop n codes) (sym (add-one at))

-- Codes that can be printed, after a goal is met.
module _ (l : Limits) (g : List Goal) (m : ℕ) where
  pub printable-mark : (t : Token) (bytes : List ℕ) → Printable l bytes (mark t ∷ g) m → Printable l bytes g m
  unfolding Printable
  printable-mark t [] h = h
  printable-mark t (x ∷ bytes) h = h

  pub spell-mark : (name : Naming) (t : Token) (bytes : List ℕ) → spell name bytes (mark t ∷ g) m ≡ t ∷ spell name bytes g m
  unfolding spell
  spell-mark name t [] = refl
  spell-mark name t (x ∷ bytes) = refl

  number-byte : (k : Kind) (bytes : List ℕ) → Printable l bytes (number k ∷ g) m → 0 < length bytes
  unfolding Printable
  number-byte k [] h = absurd h
  number-byte k (x ∷ bytes) h = omega arith

  thing-byte : (s : Slot) (d : ℕ) (bytes : List ℕ) → Printable l bytes (thing s d ∷ g) m → 0 < length bytes
  unfolding Printable
  thing-byte s d [] h = absurd h
  thing-byte s d (x ∷ bytes) h = omega arith

-- The codes from a place on.
module _ (l : Limits) (codes : List ℕ) (at : ℕ) where
  left-inside : 0 < length (drop at codes) → at < length codes
  left-inside h = omega (arith, length-drop at codes)

  module _ (g : List Goal) (m : ℕ) where
    -- The byte of a number.
    pub record NumberHere (k : Kind) : Type 0 where
      pub inside : at < length codes
      pub in-range : T (fits l.numbers k (get_or codes at 0))
      pub on : Printable l (drop (at + 1) codes) g m
      pub spells : (name : Naming) → spell name (drop at codes) (number k ∷ g) m ≡ name k (get_or codes at 0) ∷ spell name (drop (at + 1) codes) g m

    pub number-here : (k : Kind) → Printable l (drop at codes) (number k ∷ g) m → NumberHere k
    unfolding Printable spell
    number-here k h =
        let i : at < length codes = left-inside (number-byte l g m k (drop at codes) h) in
        let p = subst (λ bytes. Printable l bytes (number k ∷ g) m) (drop_here codes at i) h in
        record { inside = i; in-range = p.0; on = p.1; spells = λ name. ap (λ bytes. spell name bytes (number k ∷ g) m) (drop_here codes at i) }

    -- The code of a thing.
    pub record ThingHere (s : Slot) (d : ℕ) : Type 0 where
      pub inside : at < length codes
      pub within : d ≤ l.deepest
      pub on : Printable l (drop (at + 1) codes) ((opens s d (get_or codes at 0)).then ++ g) m
      pub spells : (name : Naming)
          → spell name (drop at codes) (thing s d ∷ g) m ≡ (opens s d (get_or codes at 0)).tokens ++ spell name (drop (at + 1) codes) ((opens s d (get_or codes at 0)).then ++ g) m

    pub thing-here : (s : Slot) (d : ℕ) → Printable l (drop at codes) (thing s d ∷ g) m → ThingHere s d
    unfolding Printable spell
    thing-here s d h =
        let i : at < length codes = left-inside (thing-byte l g m s d (drop at codes) h) in
        let p = subst (λ bytes. Printable l bytes (thing s d ∷ g) m) (drop_here codes at i) h in
        record { inside = i; within = p.0; on = p.1; spells = λ name. ap (λ bytes. spell name bytes (thing s d ∷ g) m) (drop_here codes at i) }

  -- A rule after the goals is a thing at level 1.
  module _ (inside : at < length codes) where
    pub rule-printable : (m : ℕ) → 0 < m → 1 ≤ l.deepest → Printable l (drop at codes) [] m → Printable l (drop at codes) (thing (expr rule) 1 ∷ []) (m - 1)
    unfolding Printable
    rule-printable zero z d h = absurd (omega arith)
    rule-printable (suc m) z d h =
        let p = subst (λ bytes. Printable l bytes [] (suc m)) (drop_here codes at inside) h in
        subst (λ bytes. Printable l bytes (thing (expr rule) 1 ∷ []) (suc m - 1)) (sym (drop_here codes at inside))
        (d, subst (λ n. Printable l (drop (at + 1) codes) ((opens (expr rule) 1 (get_or codes at 0)).then ++ []) n) (let e : m ≡ suc m - 1 = omega arith in e) p)

    pub rule-spells : (name : Naming) (m : ℕ) → 0 < m → spell name (drop at codes) [] m ≡ spell name (drop at codes) (thing (expr rule) 1 ∷ []) (m - 1)
    unfolding spell
    rule-spells name zero z = absurd (omega arith)
    rule-spells name (suc m) z =
        ap (λ bytes. spell name bytes [] (suc m)) (drop_here codes at inside)
        ∙ ap (λ n. spell name (get_or codes at 0 ∷ drop (at + 1) codes) (thing (expr rule) 1 ∷ []) n) (let e : m ≡ suc m - 1 = omega arith in e)
        ∙ ap (λ bytes. spell name bytes (thing (expr rule) 1 ∷ []) (suc m - 1)) (sym (drop_here codes at inside))

  -- Nothing is left to spell: at the end, or if no rule may follow.
  pub end-spells : (name : Naming) (m : ℕ) → length codes ≤ at → spell name (drop at codes) [] m ≡ []
  unfolding spell
  end-spells name m h = ap (λ bytes. spell name bytes [] m) (drop_of_length-le codes h)

  pub none-spells : (name : Naming) (m : ℕ) → m ≡ 0 → spell name (drop at codes) [] m ≡ []
  unfolding spell
  none-spells name m e = ap (spell name (drop at codes) []) e ∙ go (drop at codes) where
    go : (bytes : List ℕ) → spell name bytes [] 0 ≡ []
    go [] = refl
    go (x ∷ bytes) = refl
