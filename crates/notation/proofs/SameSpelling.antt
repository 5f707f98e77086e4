-- Namings that agree on what codes use spell them with the same tokens.
use mathlib.Core.Path.{◌≡◌, refl, ap, ap₂}
use mathlib.Core.List.{List, [], ◌∷◌, ◌++◌}
use Prim.Native.Nat.{ℕ, zero, suc}
use Rattle.logic.specs.Syntax.{rule}
use Rattle.logic.specs.Lists.{All}
use Rattle.names.specs.Names.{Naming}
use Rattle.notation.specs.Grammar.{Goal, mark, number, thing, expr}
use Rattle.notation.specs.Spell.{opens, spell, Used, uses}

module _ (name name' : Naming) where
  abbrev pub Agree : List Used → Type 0
  Agree = All (λ u. name u.kind u.number ≡ name' u.kind u.number)

  pub same-spelling : (bytes : List ℕ) (g : List Goal) (m : ℕ) → Agree (uses bytes g m) → spell name bytes g m ≡ spell name' bytes g m
  unfolding spell uses
  same-spelling [] [] m h = refl
  same-spelling [] (mark t ∷ g) m h = ap (t ∷◌) (same-spelling [] g m tt)
  same-spelling [] (number k ∷ g) m h = refl
  same-spelling [] (thing s d ∷ g) m h = refl
  same-spelling (x ∷ bytes) [] zero h = refl
  same-spelling (x ∷ bytes) [] (suc m) h = ap ((opens (expr rule) 1 x).tokens ++◌) (same-spelling bytes ((opens (expr rule) 1 x).then ++ []) m h)
  same-spelling (x ∷ bytes) (mark t ∷ g) m h = ap (t ∷◌) (same-spelling (x ∷ bytes) g m h)
  same-spelling (x ∷ bytes) (number k ∷ g) m h = ap₂ ◌∷◌ h.0 (same-spelling bytes g m h.1)
  same-spelling (x ∷ bytes) (thing s d ∷ g) m h = ap ((opens s d x).tokens ++◌) (same-spelling bytes ((opens s d x).then ++ g) m h)
