-- Codes that meet goals within limits and so can be printed: no byte is missing, each number is in range, no level is too deep. Bytes after them do not matter.
use Rattle.std.specs.Prelude.{List, [], ◌∷◌, ◌++◌, ℕ, zero, suc, ◌≤◌, T}
use Rattle.logic.specs.Syntax.{rule}
use Rattle.logic.specs.Limits.{fits}
use Rattle.text.specs.Reading.{Limits}
use Rattle.notation.specs.Grammar.{expr, Goal, mark, number, thing}
use Rattle.notation.specs.Spell.{opens}

unfoldable pub Printable : Limits → List ℕ → List Goal → (m : ℕ) → Type 0
Printable l [] [] m = Unit {0}
Printable l [] (mark t ∷ g) m = Printable l [] g m
Printable l [] (number k ∷ g) m = ⊥
Printable l [] (thing s d ∷ g) m = ⊥
Printable l (x ∷ bytes) [] zero = Unit {0}
Printable l (x ∷ bytes) [] (suc m) = Printable l bytes ((opens (expr rule) 1 x).then ++ []) m
Printable l (x ∷ bytes) (mark t ∷ g) m = Printable l (x ∷ bytes) g m
Printable l (x ∷ bytes) (number k ∷ g) m = T (fits l.numbers k x) × Printable l bytes g m
Printable l (x ∷ bytes) (thing s d ∷ g) m = (d ≤ l.deepest) × Printable l bytes ((opens s d x).then ++ g) m
