-- The place after an expression of any sort whose numbers are in range.
use mathlib.Core.Path.{◌≡◌, sym, ap, ◌∙◌}
use mathlib.Core.List.{List, ◌++◌}
use Prim.Native.Nat.{ℕ, ◌+◌}
use lib.ListN.{length}
use Rattle.logic.specs.Syntax.{Sort, Expr}
use Rattle.logic.specs.Limits.{Ranges}
use Rattle.text.specs.Code.{code}
use Rattle.text.specs.Stands.{Stands, SomeStands}
use Rattle.tree.specs.Tree.{Tree, tree, size}
use Rattle.tree.proofs.TreeLaws.{code-tree, size_is}
use Rattle.ends.specs.Shapes.{At, Some}
use Rattle.ends.proofs.Formed.{formed-tree}

pub size-code : {s : Sort} (e : Expr s) → size (tree e) ≡ length (code e)
size-code e = sym (size_is (tree e)) ∙ ap length (code-tree e)

module _ {r : Ranges} {text : List ℕ} {at : ℕ} {s : Sort} where
  pub stands-tree : (e : Expr s) → Stands r text at e → At text at (tree e)
  stands-tree e h = record { rest = h.rest; here = h.here ∙ ap (◌++ h.rest) (sym (code-tree e)); formed = formed-tree r e h.range }

  pub some-tree : SomeStands r text at s → Some text at
  some-tree o = record { what = tree o.what; stands = stands-tree o.what o.stands }

  -- what `past` finds
  pub behind-stands : (next : ℕ) → ((t : Tree) → At text at t → next ≡ at + size t) → (e : Expr s) → Stands r text at e → next ≡ at + length (code e)
  behind-stands next f e h = f (tree e) (stands-tree e h) ∙ ap (at +◌) (size-code e)
