-- Writing a carried rule in one pass: the steps passed so far act as one simultaneous replacement.
use Rattle.std.specs.Prelude.{cond, List, [], ◌∷◌, ℕ, eqb, ltb}
use Rattle.logic.specs.Syntax.{Sort, rule, Expr, Edit}
use Rattle.logic.specs.Carry.{carry}
use Rattle.tree.specs.Tree.{Tree, name, one, two, tree_code, graft, same, tree}

-- A step as the stack holds it: its code byte 31 to 34, the number after it, its expression.
pub record Substitution : Type 0 where
  pub op : ℕ
  pub number : ℕ
  pub what : Tree

-- The code of the names that a step changes.
abbrev pub touched : ℕ → ℕ
touched b = cond (ltb b 0x33) 0x03 0x11

-- What such a name becomes; x is the name, and E the step's expression, each under the steps below.
abbrev pub becomes : ℕ → Tree → Tree → Tree
becomes b x E = cond (eqb b 0x31) (two (0x07 ∷ []) x E) (cond (eqb b 0x32) (two (0x06 ∷ []) x (one (0x05 ∷ []) E)) (cond (eqb b 0x33) (two (0x13 ∷ []) x E) (two (0x15 ∷ []) x E)))

-- The names under a stack of steps, the last step passed first.
unfoldable pub env : List Substitution → ℕ → ℕ → Tree
env [] c k = name c k
env (s ∷ σ) c k = cond (same c k (touched s.op) s.number) (becomes s.op (env σ (touched s.op) s.number) (graft (env σ) s.what)) (env σ c k)

-- The text of a rule carried through an edit, under the steps passed before it.
unfoldable pub written : List Substitution → Edit → Expr rule → List ℕ
written σ Z K = tree_code (graft (env σ) (tree (carry Z K)))

-- The text of an expression under the steps passed.
unfoldable pub shown : List Substitution → {s : Sort} → Expr s → List ℕ
shown σ e = tree_code (graft (env σ) (tree e))

-- The bytes that a changed name gets: the code before it, and what goes before the step's expression.
abbrev pub lead : ℕ → ℕ
lead b = cond (eqb b 0x31) 0x07 (cond (eqb b 0x32) 0x06 (cond (eqb b 0x33) 0x13 0x15))

abbrev pub inner : ℕ → List ℕ → List ℕ
inner b l = cond (eqb b 0x32) (0x05 ∷ l) l
