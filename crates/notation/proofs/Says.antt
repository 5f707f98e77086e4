-- The notation as a relation between bytes and tokens, which the proofs about printing and reading share.
use mathlib.Core.List.{List, [], ◌∷◌, ◌++◌}
use Prim.Native.Nat.{ℕ, suc, ◌≤◌}
use lib.Dec.{T}
use Rattle.logic.specs.Syntax.{node, arrow, rule}
use Rattle.logic.specs.Limits.{Kind, label_number, arrow_number, node_number, fits}
use Rattle.text.specs.Reading.{Limits}
use Rattle.names.specs.Token.{Token}
use Rattle.names.specs.Names.{Naming}
use Rattle.notation.specs.Grammar.{at_else, at_end, text_end, Slot, expr, steps, Phrase, else_word, end_word, phrases, Goal, mark, number, thing, goals}

-- A phrase in a list.
infix 40 ◌∈◌
pub data ◌∈◌ (r : Phrase) : List Phrase → Type 0 where
  first : {rs : List Phrase} → r ∈ (r ∷ rs)
  later : {q : Phrase} {rs : List Phrase} → r ∈ rs → r ∈ (q ∷ rs)

module _ (name : Naming) (l : Limits) where
  -- The token that begins a thing, the bytes it stands for, and what must follow.
  pub data Begins : Slot → (level : ℕ) → Token → List ℕ → List Goal → Type 0 where
    by_word : {s : Slot} {d : ℕ} (r : Phrase) → r ∈ phrases s → Begins s d r.word (r.byte ∷ []) (goals s d r.items)
    label : {d : ℕ} (x : ℕ) → T (fits l.numbers label_number x) → Begins (expr node) d (name label_number x) (0x03 ∷ x ∷ []) []
    nominal : {d : ℕ} (x : ℕ) → T (fits l.numbers node_number x) → Begins (expr node) d (name node_number x) (0x04 ∷ x ∷ []) []
    arrow_kind : {d : ℕ} (x : ℕ) → T (fits l.numbers arrow_number x) → Begins (expr arrow) d (name arrow_number x) (0x11 ∷ x ∷ []) []
    closing-else : {d : ℕ} → Begins (steps at_else) d else_word (0x30 ∷ []) []
    closing_end : {d : ℕ} → Begins (steps at_end) d end_word (0x30 ∷ []) []

  -- Bytes and tokens say the same: they meet the goals, and then at most m rules follow.
  pub data Says : List ℕ → List Token → List Goal → (m : ℕ) → Type 0 where
    nothing : {m : ℕ} → Says [] [] [] m
    one-rule : {bytes : List ℕ} {t : Token} {ts : List Token} {m : ℕ} → Says bytes (t ∷ ts) (thing (expr rule) 1 ∷ []) m → Says bytes (t ∷ ts) [] (suc m)
    a-mark : {bytes : List ℕ} {ts : List Token} {g : List Goal} {m : ℕ} {t : Token} → Says bytes ts g m → Says bytes (t ∷ ts) (mark t ∷ g) m
    a-number : {bytes : List ℕ} {ts : List Token} {g : List Goal} {m : ℕ} {k : Kind} (x : ℕ) → T (fits l.numbers k x) → Says bytes ts g m → Says (x ∷ bytes) (name k x ∷ ts) (number k ∷ g) m
    begin : {bytes : List ℕ} {ts : List Token} {g : List Goal} {m : ℕ} {s : Slot} {d : ℕ} {t : Token} {c : List ℕ} {then : List Goal}
        → d ≤ l.deepest → Begins s d t c then → Says bytes ts (then ++ g) m → Says (c ++ bytes) (t ∷ ts) (thing s d ∷ g) m
    last : {bytes : List ℕ} {g : List Goal} {m : ℕ} {d : ℕ} → d ≤ l.deepest → Says bytes [] g m → Says (0x30 ∷ bytes) [] (thing (steps text_end) d ∷ g) m
