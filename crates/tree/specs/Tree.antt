-- Terms with all codes treated alike: a name (03 k or 11 a), or a head (the code byte with its number bytes) with no, one or two operands.
use Rattle.std.specs.Prelude.{List, [], ◌∷◌, ◌++◌, Bool, cond, ◌&&◌, ℕ, zero, suc, ◌+◌, max, eqb, length}
use Rattle.logic.specs.Syntax.{Sort, Expr}
use Rattle.logic.specs.Arity.{Nullary, all·, none·, label·, nominal·, arrow_kind·, pair·, by_arity}
use Rattle.text.specs.Heads.{head1, head2}

pub data Tree : Type 0 where
  name : (c k : ℕ) → Tree
  leaf : (h : List ℕ) → Tree
  one : (h : List ℕ) (x : Tree) → Tree
  two : (h : List ℕ) (x y : Tree) → Tree

unfoldable pub tree_code : Tree → List ℕ
tree_code (name c k) = c ∷ k ∷ []
tree_code (leaf h) = h
tree_code (one h x) = h ++ tree_code x
tree_code (two h x y) = h ++ tree_code x ++ tree_code y

-- Replaces every name.
unfoldable pub graft : (ℕ → ℕ → Tree) → Tree → Tree
graft f (name c k) = f c k
graft f (leaf h) = leaf h
graft f (one h x) = one h (graft f x)
graft f (two h x y) = two h (graft f x) (graft f y)

abbrev pub same : ℕ → ℕ → ℕ → ℕ → Bool
same c k c' k' = eqb c c' && eqb k k'

-- Replaces one name by F.
unfoldable pub only : ℕ → ℕ → Tree → ℕ → ℕ → Tree
only c k F c' k' = cond (same c' k' c k) F (name c' k')

-- The number of bytes, the levels, how often a name occurs, and its deepest level (0 if it does not occur).
unfoldable pub size : Tree → ℕ
size (name c k) = 2
size (leaf h) = length h
size (one h x) = length h + size x
size (two h x y) = length h + (size x + size y)

unfoldable pub height : Tree → ℕ
height (name c k) = 1
height (leaf h) = 1
height (one h x) = suc (height x)
height (two h x y) = suc (max (height x) (height y))

unfoldable pub count : Tree → ℕ → ℕ → ℕ
count (name c k) c' k' = cond (same c k c' k') 1 0
count (leaf h) c' k' = 0
count (one h x) c' k' = count x c' k'
count (two h x y) c' k' = count x c' k' + count y c' k'

-- The level of what is at level x of a thing whose first code is at level d; level 0 means nowhere.
unfoldable pub under : ℕ → ℕ → ℕ
under zero x = zero
under (suc d) zero = zero
under (suc d) (suc x) = suc (d + x)

unfoldable pub deep : Tree → ℕ → ℕ → ℕ
deep (name c k) c' k' = cond (same c k c' k') 1 0
deep (leaf h) c' k' = 0
deep (one h x) c' k' = under 2 (deep x c' k')
deep (two h x y) c' k' = under 2 (max (deep x c' k') (deep y c' k'))

-- The tree of a term: 03 k and 11 a are names, any other code is a head with its operands.
unfoldable pub bare : {s : Sort} → Nullary s → Tree
bare all· = leaf (0x01 ∷ [])
bare none· = leaf (0x02 ∷ [])
bare (label· k) = name 0x03 k
bare (nominal· i) = leaf (0x04 ∷ i ∷ [])
bare (arrow_kind· a) = name 0x11 a
bare (pair· i j) = leaf (0x17 ∷ i ∷ j ∷ [])

unfoldable pub tree : {s : Sort} → Expr s → Tree
tree e = by_arity (λ s e. Tree) (λ s b. bare b) (λ u t b x tx. one (head1 b) tx) (λ u v t b x y tx ty. two (head2 b) tx ty) e
