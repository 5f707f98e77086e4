-- Rewriting as the code does it, on trees: a count that says nothing becomes one byte and its operands are skipped; everything else is copied.
use Rattle.std.specs.Prelude.{◌≡◌, cond, List, [], ◌∷◌, Option, None, Some, ℕ, ◌+◌, ◌%◌, ◌≤◌, leb, ltb, eqb, length, get_or}
use Rattle.logic.specs.Syntax.{rule, Expr}
use Rattle.logic.specs.Limits.{max_nodes}
use Rattle.text.specs.Code.{book_code}
use Rattle.tree.specs.Tree.{Tree, name, leaf, one, two, size}
use Rattle.ends.specs.Shapes.{shape_of}
use Rattle.ends.specs.Books.{BookIs}
use Rattle.rewrite_counts.specs.Rewritten.{rewritten_book}

-- The byte that replaces an 0A or an 0B with a count; none where they stay.
unfoldable pub least_in_place_def : ℕ → Option ℕ
least_in_place_def m = cond (eqb m 0) (Some 0x01) (cond (leb m max_nodes) None (Some 0x02))

unfoldable pub most_in_place_def : ℕ → Option ℕ
most_in_place_def m = cond (ltb m max_nodes) None (Some 0x01)

-- The same for a tree; counts are the second bytes of heads with two operands.
unfoldable pub head_in_place : List ℕ → Option ℕ
head_in_place h = cond (eqb (get_or h 0 0) 0x0A) (least_in_place_def (get_or h 1 0)) (cond (eqb (get_or h 0 0) 0x0B) (most_in_place_def (get_or h 1 0)) None)

abbrev pub in_place_def : Tree → Option ℕ
in_place_def (name c k) = None
in_place_def (leaf h) = None
in_place_def (one h x) = None
in_place_def (two h x y) = head_in_place h

-- The leaf of that byte, or the tree where it stays.
unfoldable pub byte_or : Option ℕ → Tree → Tree
byte_or None t = t
byte_or (Some b) t = leaf (b ∷ [])

unfoldable pub rewritten_tree : Tree → Tree
rewritten_tree (name c k) = name c k
rewritten_tree (leaf h) = leaf h
rewritten_tree (one h x) = one h (rewritten_tree x)
rewritten_tree (two h x y) = byte_or (head_in_place h) (two h (rewritten_tree x) (rewritten_tree y))

-- What happens at a tree in a text: the byte to write, and the place to go on from, after the code and its numbers or after the whole tree.
pub record Turned (text : List ℕ) (at : ℕ) (t : Tree) (byte : Option ℕ) (next : ℕ) : Type 0 where
  pub byte_is : byte ≡ in_place_def t
  pub stays : byte ≡ None → next ≡ at + shape_of (get_or text at 0) % 4
  pub dropped : (b : ℕ) → byte ≡ Some b → next ≡ at + size t

-- Some book stands there, and rewritten it fits a buffer of `room` bytes.
pub record SomeRewritten (book : List ℕ) (room : ℕ) : Type 0 where
  pub rules : List (Expr rule)
  pub is : BookIs book rules
  pub fits : length (book_code (rewritten_book rules)) ≤ room
