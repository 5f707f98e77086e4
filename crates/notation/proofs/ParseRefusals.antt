-- How reading words can be refused: with 64 to 69, at a token's place or at the words' end.
use mathlib.Core.Bool.{Bool, true, false}
use mathlib.Core.List.{List, [], ◌∷◌, ◌++◌}
use Prim.Native.Nat.{ℕ, zero, suc, ◌<◌, ◌≤◌}
use native.Mathlib.Omega.{arith}
use lib.Dec.{leb}
use Rattle.answer.specs.Asked.{Asked, refused}
use Rattle.answer.proofs.Refusals.{Refuses, passes, refuses}
use Rattle.logic.specs.Syntax.{rule}
use Rattle.text.specs.Reading.{Limits}
use Rattle.names.specs.Token.{same, Found, found, absent}
use Rattle.names.specs.Scan.{Placed}
use Rattle.names.specs.Names.{Naming}
use Rattle.names.proofs.PlaceLaws.{Inside}
use Rattle.notation.specs.Grammar.{at_else, at_end, text_end, expr, steps, Goal, mark, number, thing}
use Rattle.notation.specs.Parse.{prefixed, ask_start, Start, starts, starts_nothing, number_of, start, parse}

prefixed-refuses : {from to most : ℕ} (c : List ℕ) {r : Asked (List ℕ)} → Refuses from to most r → Refuses from to most (prefixed c r)
unfolding prefixed
prefixed-refuses c passes = passes
prefixed-refuses c (refuses q p i j k) = refuses q p i j k

module _ (name : Naming) (l : Limits) (end : ℕ) where
  abbrev Ok : Asked (List ℕ) → Type 0
  Ok r = Refuses 64 69 end r

  at : {q p : ℕ} → 64 ≤ q → q ≤ 69 → p < end → Ok (refused q p)
  at {q} {p} i j k = refuses q p i j (omega arith)

  at-end : {q : ℕ} → 64 ≤ q → q ≤ 69 → Ok (refused q end)
  at-end {q} i j = refuses q end i j (omega arith)

  start-refuses : (d p : ℕ) → p < end → (x : Start) (rest : List Goal → Asked (List ℕ)) → ((then : List Goal) → Ok (rest then)) → Ok (ask_start l d p x rest)
  start-refuses d p h (starts c then) rest k = go (leb d l.deepest)
    where
      go : (b : Bool) → Ok (elim b as (λ z. Asked (List ℕ)) [ true ↦ prefixed c (rest then) | false ↦ refused 68 p ])
      go true = prefixed-refuses c (k then)
      go false = at (omega arith) (omega arith) h
  start-refuses d p h starts_nothing rest k = at (omega arith) (omega arith) h

  pub parse-refuses : (ts : List Placed) (g : List Goal) (m : ℕ) → Inside end ts → Ok (parse name l end ts g m)
  unfolding parse
  parse-refuses [] [] m h = passes
  parse-refuses [] (mark t ∷ g) m h = at-end (omega arith) (omega arith)
  parse-refuses [] (number k ∷ g) m h = at-end (omega arith) (omega arith)
  parse-refuses [] (thing (expr s) d ∷ g) m h = at-end (omega arith) (omega arith)
  parse-refuses [] (thing (steps at_else) d ∷ g) m h = at-end (omega arith) (omega arith)
  parse-refuses [] (thing (steps at_end) d ∷ g) m h = at-end (omega arith) (omega arith)
  parse-refuses [] (thing (steps text_end) d ∷ g) m h = go (leb d l.deepest) (parse-refuses [] g m tt)
    where
      go : (b : Bool) → Ok (parse name l end [] g m) → Ok (elim b as (λ z. Asked (List ℕ)) [ true ↦ prefixed (0x30 ∷ []) (parse name l end [] g m) | false ↦ refused 68 end ])
      go true r = prefixed-refuses (0x30 ∷ []) r
      go false r = at-end (omega arith) (omega arith)
  parse-refuses (t ∷ ts) [] zero h = at (omega arith) (omega arith) h.0
  parse-refuses (t ∷ ts) [] (suc m) h = start-refuses 1 t.place h.0 (start name l (expr rule) 1 t.token) _ (λ then. parse-refuses ts (then ++ []) m h.1)
  parse-refuses (t ∷ ts) (mark w ∷ g) m h = go (same t.token w) (parse-refuses ts g m h.1)
    where
      go : (b : Bool) → Ok (parse name l end ts g m) → Ok (elim b as (λ z. Asked (List ℕ)) [ true ↦ parse name l end ts g m | false ↦ refused 66 t.place ])
      go true r = r
      go false r = at (omega arith) (omega arith) h.0
  parse-refuses (t ∷ ts) (number k ∷ g) m h = go (number_of name l k t.token) (parse-refuses ts g m h.1)
    where
      go : (f : Found ℕ) → Ok (parse name l end ts g m) → Ok (elim f as (λ z. Asked (List ℕ)) [ found x ↦ prefixed (x ∷ []) (parse name l end ts g m) | absent ↦ refused 67 t.place ])
      go (found x) r = prefixed-refuses (x ∷ []) r
      go absent r = at (omega arith) (omega arith) h.0
  parse-refuses (t ∷ ts) (thing s d ∷ g) m h = start-refuses d t.place h.0 (start name l s d t.token) _ (λ then. parse-refuses ts (then ++ g) m h.1)
