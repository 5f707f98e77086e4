-- The measure of a book, and the size of the book carried through an edit.
use Rattle.std.specs.Prelude.{◌≡◌, List, ℕ, ◌+◌, length, drop}
use Rattle.logic.specs.Syntax.{rule, Expr, Edit}
use Rattle.logic.specs.Carry.{carried_book}
use Rattle.text.specs.Code.{code, edit_code, book_code, book_levels}
use Rattle.tree.specs.Tree.{tree}
use Rattle.tree.specs.Sizes.{Measure, measure, together, measures, capped}
use Rattle.measure.specs.State.{Holds}
use Rattle.measure.specs.Pruned.{pruned}

-- a rule's measure together with that of the rules before it; `next` is the place after the rule
pub record RuleAdded (at : ℕ) (K : Expr rule) (next : ℕ) (l l' : List ℕ) : Type 0 where
  pub ends : next ≡ at + length (code K)
  pub holds : (M : Measure) → Holds l M → Holds l' (together M (measure (tree K)))

-- the number of a book's rules, and its measure
pub record BookAdded (rules : List (Expr rule)) (number : ℕ) (l : List ℕ) : Type 0 where
  pub number_is : number ≡ length rules
  pub holds : Holds l (measures rules)

-- the length and the levels of a carried book, capped as all numbers here are
pub record BookSized (Z : Edit) (rules : List (Expr rule)) (len tall : ℕ) : Type 0 where
  pub len_is : len ≡ capped (length (book_code (carried_book Z rules)))
  pub tall_is : tall ≡ capped (book_levels (carried_book Z rules))

-- where the book is not empty, a buffer holds from a place on the edit without its idle steps
pub record BookKept (Z : Edit) (rules : List (Expr rule)) (start : ℕ) (kept : List ℕ) : Type 0 where
  pub text : (length rules ≡ 0 → ⊥) → drop start kept ≡ edit_code (pruned (length rules) Z (measures rules))
