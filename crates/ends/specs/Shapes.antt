-- The shape of each code: its length with its numbers, plus 4 for each operand, plus 16 for a name; 0 if it is not a code of an expression.
use Rattle.std.specs.Prelude.{◌≡◌, List, [], ◌∷◌, ◌++◌, cond, ◌⊎◌, ℕ, ◌+◌, ◌*◌, ◌<◌, eqb, length, get_or, drop}
use Rattle.logic.specs.Limits.{label_count}
use Rattle.tree.specs.Tree.{Tree, name, leaf, one, two, tree_code}

unfoldable pub shapes : List ℕ
shapes =
    0 ∷ 1 ∷ 1 ∷ 18 ∷ 2 ∷ 5 ∷ 9 ∷ 9 ∷ 9 ∷ 9 ∷ 10 ∷ 10 ∷ 0 ∷ 0 ∷ 0 ∷ 0
    ∷ 0 ∷ 18 ∷ 5 ∷ 9 ∷ 9 ∷ 9 ∷ 9 ∷ 3 ∷ 0 ∷ 0 ∷ 0 ∷ 0 ∷ 0 ∷ 0 ∷ 0 ∷ 0
    ∷ 0 ∷ 9 ∷ 9 ∷ 6 ∷ 7 ∷ 9 ∷ 9 ∷ 5 ∷ []

abbrev pub shape_of : ℕ → ℕ
shape_of c = get_or shapes c 0

-- 03 k and 11 a.
abbrev pub Named : ℕ → ℕ → Type 0
Named c k = ((c ≡ 0x03) × (k < 48)) ⊎ ((c ≡ 0x11) × (k < 16))

-- The 64 cells: the tables of measuring and writing have a column for each label and each arrow kind, so a cell may be of either sort.
abbrev pub label_cell_def : ℕ → ℕ
label_cell_def k = k

abbrev pub arrow_cell_def : ℕ → ℕ
arrow_cell_def a = label_count + a

-- The cell of a name.
unfoldable pub cell : ℕ → ℕ → ℕ
cell c k = cond (eqb c 0x03) (label_cell_def k) (arrow_cell_def k)

pub record Head (h : List ℕ) (n : ℕ) : Type 0 where
  pub pos : 0 < length h
  pub short : length h < 4
  pub is : shape_of (get_or h 0 0) ≡ length h + 4 * n

unfoldable pub Formed : Tree → Type 0
Formed (name c k) = Named c k
Formed (leaf h) = Head h 0
Formed (one h x) = Head h 1 × Formed x
Formed (two h x y) = Head h 2 × Formed x × Formed y

-- A tree starts at this place of the text.
pub record At (text : List ℕ) (at : ℕ) (t : Tree) : Type 0 where
  pub rest : List ℕ
  pub here : drop at text ≡ tree_code t ++ rest
  pub formed : Formed t

pub record Some (text : List ℕ) (at : ℕ) : Type 0 where
  pub what : Tree
  pub stands : At text at what
